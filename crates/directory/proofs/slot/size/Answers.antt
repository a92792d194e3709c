-- `directory::slot::size` meets its contract. Assumes nothing.
use native.Mathlib.Omega.{arith}
use mathlib.Core.Path.{◌≡◌, sym, ◌∙◌}
use Rattle.directory.specs.Slots.{size_at, length_at}
use Rattle.directory.proofs.Slots
use Rattle.directory.proofs.slot.size.Goals as goal
use Rattle.directory.proofs.slot.size.Goals.{else-length-eq-ALL_ONES-via-then-length-eq-ALL_ONES+else-read32-eq-ALL_ONES, else-length-eq-ALL_ONES-via-else-length-eq-ALL_ONES}

pub returns-then-kind-eq-LONE : goal.returns-then-kind-eq-LONE
returns-then-kind-eq-LONE c = (sym (Slots.size_lone _ _ (sym c.requires.1 ∙ c.if-kind-eq-LONE.true)), omega arith)

pub returns-then-read32-eq-ALL_ONES : goal.returns-then-read32-eq-ALL_ONES
returns-then-read32-eq-ALL_ONES c = (
  sym (Slots.size_unstored _ _ (record {
    not_lone = λ h. c.if-kind-eq-LONE.false (c.requires.1 ∙ h);
    offset = sym c.read32.ensures.is ∙ c.if-read32-eq-ALL_ONES.true;
    length = sym c.read32-length.ensures.is ∙ c.if-length-eq-ALL_ONES.true;
  })),
  omega arith,
)

pub returns : goal.returns
returns c =
    let kind = c.requires.1 in
    let r = c.read32-length.ensures in
    let stored : size_at c.args.image.now c.args.p ≡ length_at c.args.image.now c.args.p = elim c.else-length-eq-ALL_ONES.branch [
      | else-length-eq-ALL_ONES-via-then-length-eq-ALL_ONES+else-read32-eq-ALL_ONES w ↦ Slots.size_stored _ _ (λ h. c.if-kind-eq-LONE.false (kind ∙ h)) (λ u. w.if-read32-eq-ALL_ONES.false (w.read32.ensures.is ∙ u.offset))
      | else-length-eq-ALL_ONES-via-else-length-eq-ALL_ONES w ↦ Slots.size_stored _ _ (λ h. c.if-kind-eq-LONE.false (kind ∙ h)) (λ u. w.if-length-eq-ALL_ONES.false (r.is ∙ u.length))
    ] in
    (r.is ∙ sym stored, r.small)
