-- `journal::change::is_placed` meets its contract. Assumes nothing.
use native.Mathlib.Omega.{arith}
use mathlib.Core.Path.{◌≡◌, sym, ap, ◌∙◌}
use mathlib.Core.Bool.{true≢false}
use mathlib.Core.Logic.{inl, inr}
use borrow.Author.Tests.{eq-eqb, ne_eqb}
use Rattle.answer.specs.Search.{any}
use Rattle.directory.specs.Blocks.{blocks_of}
use Rattle.directory.specs.Rooms.{is_link}
use Rattle.journal.proofs.Undos
use Rattle.journal.proofs.change.is_placed.Goals as goal
use Rattle.journal.proofs.change.is_placed.Goals.{After-has_link, then-has_link, else-has_link}

link_there : (c : After-has_link) → let a = c.args in any (is_link a.change.place) (blocks_of a.image.now) ≡ c.has_link.result
link_there c = sym (c.has_link.ensures ∙ ap (any _) c.requires.chain)

pub returns-in-12 : goal.returns-in-12
returns-in-12 c = c.has_slot.ensures ∙ ap (any _) c.requires.slots ∙ sym (Undos.place_slot _ _ c.in-12.is)

pub returns-then-change-eq0 : goal.returns-then-change-eq0
returns-then-change-eq0 c =
    let h = c.if-change-eq0.true in
    sym (Undos.place_link _ _ c.in-4.is ∙ rw (link_there (goal.at.returns-then-change-eq0 c).After-has_link ∙ h.0, eq-eqb _ _ h.1))

pub returns-else-change-eq0 : goal.returns-else-change-eq0
returns-else-change-eq0 c =
    let there = link_there (goal.at.returns-else-change-eq0 c).After-has_link in
    let link = Undos.place_link _ _ c.in-4.is in
    elim c.if-has_link.branch [
      | then-has_link w ↦
          elim c.if-change-eq0.either [
            | inl h ↦ w.t-6-is ∙ ne_eqb _ _ h.1 ∙ sym (link ∙ rw (there ∙ h.0, ne_eqb _ _ h.1))
            | inr h ↦ absurd (true≢false (sym w.if-has_link.true ∙ h))
          ]
      | else-has_link w ↦ w.t-6-is ∙ w.if-has_link.false ∙ sym (link ∙ rw (there ∙ w.if-has_link.false))
    ]

pub returns-in_default : goal.returns-in_default
returns-in_default c = sym (Undos.place_none _ _ (λ e. omega arith) (λ e. omega arith))
