-- `journal::check_restored` meets its contract. Assumes nothing.
use mathlib.Core.Path.{sym, ◌∙◌}
use borrow.Author.Tests.{eq-eqb, ne_eqb}
use Rattle.answer.proofs.Search.{must_holds, must_fails}
use Rattle.journal.specs.Undos.{desk_fault, restored_fault}
use Rattle.journal.proofs.check_restored.Goals as goal

pub returns-then-not-is_sound : goal.returns-then-not-is_sound
unfolding restored_fault
returns-then-not-is_sound c = sym (must_fails _ _ _ (sym c.is_sound.ensures ∙ c.if-not-is_sound.true))

pub returns-then-change-desk : goal.returns-then-change-desk
unfolding restored_fault desk_fault
returns-then-change-desk c = sym (must_holds _ _ _ (sym c.is_sound.ensures ∙ c.if-not-is_sound.false) ∙ must_fails _ _ _ (ne_eqb _ _ c.if-change-desk.true))

pub returns : goal.returns
unfolding restored_fault desk_fault
returns c = sym (must_holds _ _ _ (sym c.is_sound.ensures ∙ c.if-not-is_sound.false) ∙ must_holds _ _ _ (eq-eqb _ _ c.if-change-desk.false))
