-- `journal::check_fit` meets its contract. Assumes nothing.
use mathlib.Core.Path.{sym}
use Rattle.journal.proofs.Outcomes
use Rattle.journal.proofs.check_fit.Goals as goal

pub returns-then-size-gt-MOST_BYTES : goal.returns-then-size-gt-MOST_BYTES
returns-then-size-gt-MOST_BYTES c = sym (Outcomes.fault_long _ _ c.if-size-gt-MOST_BYTES.true)

pub returns-then-capacity-size : goal.returns-then-capacity-size
returns-then-capacity-size c = sym (Outcomes.fault_room _ _ c.if-size-gt-MOST_BYTES.false c.if-capacity-size.true)

pub returns : goal.returns
returns c = sym (Outcomes.fault_none _ _ c.if-size-gt-MOST_BYTES.false c.if-capacity-size.false)
