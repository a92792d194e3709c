-- `directory::resume::standing` meets its contract. Assumes nothing.
use mathlib.Core.Path.{sym, ◌∙◌}
use Rattle.directory.proofs.Resuming
use Rattle.directory.proofs.resume.standing.Goals as goal

pub returns-then-at_slot : goal.returns-then-at_slot
returns-then-at_slot c s = Resuming.stands_here s _ (sym c.at_slot.ensures ∙ c.if-at_slot.true)

pub returns : goal.returns
returns c s = Resuming.stands_past s _ (sym c.at_slot.ensures ∙ c.if-at_slot.false)
