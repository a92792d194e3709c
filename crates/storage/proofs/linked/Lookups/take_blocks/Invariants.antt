-- `storage::linked::Lookups::take_blocks` meets its contract. The invariant: what is left of the walk over the table is what the walk comes to.
-- Assumes nothing.
use mathlib.Core.Path.{◌≡◌}
use Rattle.storage.proofs.Steps
use Rattle.storage.proofs.linked.Lookups.take_blocks.Given as goal

abbrev pub invariant-loop-entry : goal.invariant-loop-entry
invariant-loop-entry l = Steps.Taking l.fn.self l.d l.table l.first l.missing l.initial.out l.entry l.left l.out × (l.self ≡ l.fn.self)
