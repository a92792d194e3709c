-- `journal::change::desk_at` meets its contract. Assumes nothing.
use Rattle.journal.specs.Steps.Restores.{desk_at}
use Rattle.journal.proofs.change.desk_at.Goals as goal

pub returns-in-Old : goal.returns-in-Old
unfolding desk_at
returns-in-Old c = rw c.in-Old.is

pub returns-in-Long : goal.returns-in-Long
unfolding desk_at
returns-in-Long c = rw c.in-Long.is c.read32.ensures.is
