-- `journal::change::is_known` meets its contract. Assumes nothing.
use native.Mathlib.Omega.{arith}
use mathlib.Core.Path.{◌≡◌, sym, ◌∙◌}
use mathlib.Core.Bool.{◌&&◌}
use lib.Dec.{leb}
use borrow.Author.Tests.{le-leb, lt-leb}
use Rattle.answer.proofs.Tests.{and_split}
use Rattle.journal.specs.Undos.{place_known, known}
use Rattle.journal.proofs.Undos
use Rattle.journal.proofs.change.is_known.Goals as goal
use Rattle.journal.proofs.change.is_known.Goals.{Joined-before-t, then-before-t, else-before-t}

-- the two rules that are judged first
judged : (c : Joined-before-t) → let a = c.args in c.if-before-t.value ≡ leb a.change.before a.t && place_known a.image.now a.change
judged c =
    elim c.if-before-t.branch [
      | then-before-t w ↦ w.value-is ∙ w.is_placed.ensures ∙ sym (rw (le-leb _ _ w.if-before-t.true))
      | else-before-t w ↦ w.value-is ∙ lt-leb _ _ w.if-before-t.false ∙ sym (rw (lt-leb _ _ w.if-before-t.false))
    ]

pub overflow_add-result : goal.overflow_add-result
overflow_add-result c =
    let a = c.args in
    let both = sym (judged (goal.at.overflow_add-result c).Joined-before-t) ∙ c.if-is_placed.true in
    omega (arith, Undos.place_sized a.image.now a.change (and_split (leb a.change.before a.t) (place_known a.image.now a.change) both).1)

pub returns-then-is_placed : goal.returns-then-is_placed
unfolding known
returns-then-is_placed c = rw (known, sym (judged (goal.at.returns-then-is_placed c).Joined-before-t) ∙ c.if-is_placed.true)

pub returns-else-is_placed : goal.returns-else-is_placed
unfolding known
returns-else-is_placed c =
    let h = c.if-is_placed.false in rw (known, sym (judged (goal.at.returns-else-is_placed c).Joined-before-t) ∙ h) h
