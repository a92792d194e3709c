-- `journal::meet` meets its contract. Assumes nothing.
use mathlib.Core.Path.{sym, ap, ◌∙◌}
use Rattle.directory.proofs.Opens
use Rattle.journal.specs.Edits.{tagged}
use Rattle.journal.specs.Steps.Changes.{Editable}
use Rattle.journal.proofs.Outcomes
use Rattle.journal.proofs.Buffers
use Rattle.journal.proofs.meet.Goals as goal
use Rattle.journal.proofs.meet.Goals.{Else-bad_tag}

editable : (c : Else-bad_tag) → let a = c.args in Editable a.buffer.now a.n a.tag
editable c =
    let o = c.in-Ok.ensures in
    record { fits = o.0; opens = ap (λ a. a.number) o.1; good = sym c.bad_tag.ensures ∙ c.if-bad_tag.false }

pub returns-in_default : goal.returns-in_default
unfolding tagged
returns-in_default c = λ rest. Buffers.closed_in _ _ _ c.open_in-opened.ensures _ c.unwrap_err.ensures _

pub returns-then-bad_tag : goal.returns-then-bad_tag
returns-then-bad_tag c =
    let o = c.in-Ok.ensures in
    rw c.at.ensures (λ rest. Buffers.inside _ _ _ o.0 ∙ Outcomes.tagged_bad _ _ (ap (λ a. a.number) o.1) (sym c.bad_tag.ensures ∙ c.if-bad_tag.true) rest)

pub returns-in-Ok-find_slot : goal.returns-in-Ok-find_slot
returns-in-Ok-find_slot c =
    let o = c.in-Ok.ensures in
    (editable (goal.at.returns-in-Ok-find_slot c).Else-bad_tag, Outcomes.found_hit _ _ _ _ (Opens.opened_with _ _ _ _ o.1) _ c.find_slot.ensures _ c.in-Ok-find_slot.is)

pub returns-in-Err : goal.returns-in-Err
returns-in-Err c =
    let o = c.in-Ok.ensures in
    (editable (goal.at.returns-in-Err c).Else-bad_tag, Outcomes.found_miss _ _ _ _ (Opens.opened_with _ _ _ _ o.1) _ c.find_slot.ensures _ c.in-Err.is, o.1)
