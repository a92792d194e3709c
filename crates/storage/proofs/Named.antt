-- What a pair is in an image that opens, by the slot that has it: absent, not stored, plain or extended. Assumes nothing.
use Prim.Native.Nat.{ℕ}
use native.Mathlib.Omega.{arith}
use mathlib.Core.Path.{◌≡◌, refl, sym, ap, ◌∙◌}
use mathlib.Core.List.{List}
use mathlib.Core.Bool.{true, false}
use Rattle.answer.specs.Search.{Hit, hit, miss}
use Rattle.directory.specs.Slots.{size_at}
use Rattle.directory.specs.Opening.{open_of}
use Rattle.directory.specs.Lookup.{find}
use Rattle.directory.specs.Rules.{Unstored, IsStored}
use Rattle.directory.specs.Named.{Named}
use Rattle.directory.proofs.Named.{found_named, named_found}
use Rattle.storage.specs.Elements.{part_at, extended_at, start_at, element_at}
use Rattle.storage.specs.declared.element.Element.TheVariants.{Absent, NotStored, Plain, Extended}
use Rattle.storage.proofs.Elements.{element_unstored, element_plain, element_extended, unstored, plain, extended, kind_at}

pub named_absent : (s : List ℕ) (tag ref : ℕ) → ((p : ℕ) → Named s tag ref p → ⊥) → element_at s (find s tag ref) ≡ Absent
unfolding element_at
named_absent s tag ref none = go (find s tag ref) refl
  where
    go : (h : Hit) → find s tag ref ≡ h → element_at s h ≡ Absent
    go (hit p) f = absurd (none p (found_named s tag ref p f))
    go miss f = refl

-- and where it is absent no slot has it
pub absent_named : (s : List ℕ) (tag ref : ℕ) → (open_of s).number ≡ 0 → element_at s (find s tag ref) ≡ Absent → (p : ℕ) → Named s tag ref p → ⊥
absent_named s tag ref opens e p n =
    let at : element_at s (hit p) ≡ Absent = ap (element_at s) (sym (named_found s tag ref p opens n)) ∙ e in
    elim (kind_at s p) [
      | unstored u k ↦ let r : NotStored p ≡ Absent = sym k ∙ at in let z : ◌≡◌ {A = ℕ} 0 1 = cc in omega arith
      | plain h x k ↦ let r : Plain (part_at p (start_at s p) (size_at s p)) ≡ Absent = sym k ∙ at in let z : ◌≡◌ {A = ℕ} 0 1 = cc in omega arith
      | extended h x k ↦ let r : Extended p ≡ Absent = sym k ∙ at in let z : ◌≡◌ {A = ℕ} 0 1 = cc in omega arith
    ]

module _ (s : List ℕ) (tag ref p : ℕ) (opens : (open_of s).number ≡ 0) (named : Named s tag ref p) where
  at_slot : element_at s (find s tag ref) ≡ element_at s (hit p)
  at_slot = ap (element_at s) (named_found s tag ref p opens named)

  pub named_unstored : Unstored s p → element_at s (find s tag ref) ≡ NotStored p
  named_unstored u = at_slot ∙ element_unstored s p u

  pub named_plain : IsStored s p → extended_at s p ≡ false → element_at s (find s tag ref) ≡ Plain (part_at p (start_at s p) (size_at s p))
  named_plain h e = at_slot ∙ element_plain s p h e

  pub named_extended : IsStored s p → extended_at s p ≡ true → element_at s (find s tag ref) ≡ Extended p
  named_extended h e = at_slot ∙ element_extended s p h e
