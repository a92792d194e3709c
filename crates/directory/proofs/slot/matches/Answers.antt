-- `directory::slot::matches` meets its contract. Assumes nothing.
use mathlib.Core.Path.{sym, ap, ◌∙◌}
use mathlib.Core.Bool.{not, true≢false}
use lib.Dec.{eqb}
use borrow.Author.Tests.{eq-eqb, eqb-true, eqb-false}
use Rattle.directory.specs.Slots.{base_tag}
use Rattle.directory.proofs.Slots
use Rattle.directory.proofs.slot.matches.Goals as goal
use Rattle.directory.proofs.slot.matches.Goals.{then-own-ne-FREE, else-own-ne-FREE}

pub returns-then-base : goal.returns-then-base
returns-then-base c =
    let is = c.read16-own.ensures.is in
    elim c.if-own-ne-FREE.branch [
      | then-own-ne-FREE w ↦
          let same = eqb-true _ _ (sym w.value-is ∙ c.if-base.true) in
          ap (λ n. eqb n c.args.reference) c.read16.ensures.is
          ∙ sym (Slots.has_same _ _ _ _ (λ h. w.if-own-ne-FREE.true (is ∙ h)) (sym (w.base.ensures ∙ ap base_tag is) ∙ same ∙ w.base-then-own-ne-FREE.ensures))
      | else-own-ne-FREE w ↦ absurd (true≢false (sym c.if-base.true ∙ w.value-is ∙ ap not (eq-eqb _ _ w.if-own-ne-FREE.false)))
    ]

pub returns-else-base : goal.returns-else-base
returns-else-base c =
    let is = c.read16-own.ensures.is in
    c.if-base.false
    ∙ elim c.if-own-ne-FREE.branch [
      | then-own-ne-FREE w ↦
          let other = eqb-false _ _ (sym w.value-is ∙ c.if-base.false) in
          sym (Slots.has_other _ _ _ _ (λ h. w.if-own-ne-FREE.true (is ∙ h)) (λ h. other (w.base.ensures ∙ ap base_tag is ∙ h ∙ sym w.base-then-own-ne-FREE.ensures)))
      | else-own-ne-FREE w ↦ sym (Slots.has_free _ _ _ _ (sym is ∙ w.if-own-ne-FREE.false))
    ]
