-- `directory::slot::check_element` meets its contract. Assumes nothing.
use Prim.Native.Nat.{ℕ, ◌+◌}
use mathlib.Core.Path.{◌≡◌, sym, ap, ◌∙◌}
use mathlib.Core.Logic.{⊎_elim}
use mathlib.Core.Bool.{not}
use Rattle.answer.specs.Search.{must}
use Rattle.directory.specs.Blocks.{on_directory}
use Rattle.directory.specs.Slots.{tag_at, base_tag, element_fault}
use Rattle.directory.specs.Links.{blocks_after}
use Rattle.answer.proofs.Search
use Rattle.directory.proofs.Slots
use Rattle.directory.proofs.Gaps
use Rattle.directory.proofs.slot.check_element.Goals as goal
use Rattle.directory.proofs.slot.check_element.Goals.{After-size-size, Else-image-offset}

-- rule 7 is not broken where the size is looked at
based : (c : After-size-size) → let a = c.args in base_tag (tag_at a.image.now a.p) ≡ 0 → ⊥
based c h = c.if-kind-eq0.false (c.base-kind.ensures ∙ ap base_tag c.read16-tag.ensures.is ∙ h)

tagged : (c : After-size-size) → let a = c.args in tag_at a.image.now a.p ≡ 16385 → ⊥
tagged c h = c.if-tag-eq-EXTENDED_FREE.false (c.read16-tag.ensures.is ∙ h)

-- what rule 9 gives for the bytes of the element is what the three rules give
rule : (c : Else-image-offset) (n : ℕ) → let a = c.args in
    let offset = c.read32-offset.result in
    let on = on_directory a.image.now (blocks_after a.image.now a.shape.blocks 4) offset (offset + c.size-size.result) in
    must (not on) 9 0 ≡ n → element_fault a.image.now (blocks_after a.image.now a.shape.blocks 4) a.p 0 ≡ n
rule c n e =
    let is = c.size-size.ensures.0 in
    let offset = c.read32-offset.ensures.is in
    Slots.fault_directory _ _ _ _ (λ h. c.if-kind-eq0.false (c.base-kind.ensures ∙ ap base_tag c.read16-tag.ensures.is ∙ h)) (λ h. c.if-tag-eq-EXTENDED_FREE.false (c.read16-tag.ensures.is ∙ h)) (λ h. c.if-size-eq0.false (is ∙ h)) (rw (is, offset) at c.if-image-offset.false) n (rw (is, offset) at e)

pub returns-then-kind-eq0 : goal.returns-then-kind-eq0
returns-then-kind-eq0 c =
    let kind = c.base-kind.ensures ∙ ap base_tag c.read16-tag.ensures.is in
    record {
      fault = sym (⊎_elim (λ e. Slots.fault_base _ _ _ _ (sym kind ∙ e)) (λ e. Slots.fault_free _ _ _ _ (sym c.read16-tag.ensures.is ∙ e.1)) c.then-kind-eq0.either);
      placed = tt;
    }

pub returns-then-size-eq0 : goal.returns-then-size-eq0
returns-then-size-eq0 c =
    record { fault = sym (Slots.fault_empty _ _ _ _ (based (goal.at.returns-then-size-eq0 c).After-size-size) (tagged (goal.at.returns-then-size-eq0 c).After-size-size) (sym c.size-size.ensures.0 ∙ c.if-size-eq0.true)); placed = c.requires.2 }

pub returns-then-image-offset : goal.returns-then-image-offset
returns-then-image-offset c =
    let is = c.size-size.ensures.0 in
    record {
      fault = sym (Slots.fault_outside _ _ _ _ (based (goal.at.returns-then-image-offset c).After-size-size) (tagged (goal.at.returns-then-image-offset c).After-size-size) (λ h. c.if-size-eq0.false (is ∙ h)) (rw (is, c.read32-offset.ensures.is) at c.if-image-offset.true));
      placed = tt;
    }

pub returns-then-holds : goal.returns-then-holds
returns-then-holds c =
    let p = c.requires in
    let off = ⊎_elim (λ h. let lies = c.holds.ensures h in Gaps.between_off _ _ _ p.1.between _ _ lies.0 lies.1) (λ h. Gaps.above_off _ _ p.0 _ _ h.1) c.then-holds.either in
    record { fault = sym (rule (goal.at.returns-then-holds c).Else-image-offset 0 (Search.must_holds _ _ _ (ap not off))); placed = p.2 }

pub returns : goal.returns
returns c = record { fault = sym (rule (goal.at.returns c).Else-image-offset _ (sym c.check_bytes.ensures.fault)); placed = c.check_bytes.ensures.placed }
