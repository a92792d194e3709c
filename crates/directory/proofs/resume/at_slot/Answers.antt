-- `directory::resume::at_slot` meets its contract. Assumes nothing.
use native.Mathlib.Omega.{arith}
use mathlib.Core.Path.{sym, ◌∙◌}
use mathlib.Core.Logic.{⊎_elim}
use borrow.Author.Tests.{lt-leb}
use Rattle.directory.proofs.Resuming
use Rattle.directory.proofs.resume.at_slot.Goals as goal

pub returns-then-at-eq0 : goal.returns-then-at-eq0
returns-then-at-eq0 c = sym (⊎_elim (λ e. Resuming.no_slot _ e) (λ e. Resuming.slot_far _ e.0 (omega (arith, e.1))) c.then-at-eq0.either)

pub returns-then-at : goal.returns-then-at
returns-then-at c = sym (Resuming.slot_near _ c.if-at-eq0.false (omega arith))

pub returns-else-at : goal.returns-else-at
returns-else-at c = lt-leb _ _ c.if-at.false ∙ sym (Resuming.slot_far _ c.if-at-eq0.false (omega arith))
