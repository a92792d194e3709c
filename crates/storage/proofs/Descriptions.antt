-- The record of an element in linked blocks, by its length: what it says, and that its fault goes by the rules. Assumes nothing.
use Prim.Native.Nat.{ℕ, ◌<◌, ◌≤◌}
use native.Mathlib.Omega.{arith}
use mathlib.Core.Path.{◌≡◌, sym, ap, ◌∙◌}
use mathlib.Core.Logic.{◌↔◌, ◌⊎◌, inl, inr}
use mathlib.Core.List.{List}
use mathlib.Core.Bool.{true, false, not, ◌||◌, false≢true}
use lib.Dec.{eqb}
use lib.ListN.{length}
use borrow.Author.Tests.{leb-true, le-leb, eqb-true, eqb-false, eq-eqb, ne_eqb}
use Rattle.answer.specs.Rules.{Rules, done}
use Rattle.answer.specs.Search.{must}
use Rattle.answer.proofs.Tests.{on_true, on_false, not_is, or_split, or_either, same?}
use Rattle.answer.proofs.Rules.{judged, Tells, tells_done, tells_must, Below, broken_below}
use Rattle.wire.specs.Numbers.{be}
use Rattle.storage.specs.Descriptions.{first_length, sparse_description, full_description, description_of, record_length, sparse_fault, full_fault, other_fault, record_fault}
use Rattle.storage.specs.Tables.{linked_bytes, block_ref}
use Rattle.storage.specs.Links.{sparse_rules, full_rules, other_rules, record_rules}

-- ---- What it is by its length

module _ (r : List ℕ) where
  module _ (sparse : length r ≡ 16) where
    pub sparse_fault_lem : record_fault r ≡ sparse_fault r
    unfolding record_fault
    sparse_fault_lem = on_true (eqb (length r) 16) _ _ (eq-eqb _ _ sparse)

    pub sparse_rules_lem : (p : ℕ) → ◌≡◌ {A = Rules} (record_rules r p) (sparse_rules r p)
    unfolding record_rules
    sparse_rules_lem p = rw (record_rules, eq-eqb (length r) 16 sparse)

    pub sparse_length : record_length r ≡ be 4 r 2
    unfolding record_length
    sparse_length = on_true (eqb (length r) 16) _ _ (eq-eqb _ _ sparse)

    pub sparse_says : (s : List ℕ) → description_of s r ≡ sparse_description s r
    unfolding description_of
    sparse_says s = on_true (eqb (length r) 16) _ _ (eq-eqb _ _ sparse)

  module _ (other : length r ≡ 16 → ⊥) where
    pub full_length : record_length r ≡ be 4 r 4
    unfolding record_length
    full_length = on_false (eqb (length r) 16) _ _ (ne_eqb _ _ other)

    pub full_says : (s : List ℕ) → description_of s r ≡ full_description r
    unfolding description_of
    full_says s = on_false (eqb (length r) 16) _ _ (ne_eqb _ _ other)

    module _ (full : length r ≡ 22) where
      pub full_fault_lem : record_fault r ≡ full_fault r
      unfolding record_fault
      full_fault_lem = on_false (eqb (length r) 16) _ _ (ne_eqb _ _ other) ∙ on_true (eqb (length r) 22) _ _ (eq-eqb _ _ full)

      pub full_rules_lem : (p : ℕ) → ◌≡◌ {A = Rules} (record_rules r p) (full_rules r p)
      unfolding record_rules
      full_rules_lem p = rw (record_rules, ne_eqb (length r) 16 other, eq-eqb (length r) 22 full)

    module _ (neither : length r ≡ 22 → ⊥) where
      pub other_fault_lem : record_fault r ≡ other_fault r
      unfolding record_fault
      other_fault_lem = on_false (eqb (length r) 16) _ _ (ne_eqb _ _ other) ∙ on_false (eqb (length r) 22) _ _ (ne_eqb _ _ neither)

      pub other_rules_lem : (p : ℕ) → ◌≡◌ {A = Rules} (record_rules r p) (other_rules r p)
      unfolding record_rules
      other_rules_lem p = rw (record_rules, ne_eqb (length r) 16 other, ne_eqb (length r) 22 neither)

  -- the length that a description has is the record's
  pub description_length : (s : List ℕ) → (description_of s r).length ≡ record_length r
  description_length s =
      elim (same? (length r) 16) [
        | inl e ↦ ap (λ d. d.length) (sparse_says e s) ∙ sym (sparse_length e)
        | inr z ↦ ap (λ d. d.length) (full_says z s) ∙ sym (full_length z)
      ]

-- ---- The first length of a sparse one

module _ (s : List ℕ) (table block : ℕ) where
  pub first_unwritten : block_ref (linked_bytes s table) 0 ≡ 0 → first_length s table block ≡ block
  unfolding first_length
  first_unwritten e = on_true (eqb (block_ref (linked_bytes s table) 0) 0) _ _ (eq-eqb _ _ e)

  pub first_own : (ref : ℕ) → ref ≡ block_ref (linked_bytes s table) 0 → (ref ≡ 0 → ⊥) → first_length s table block ≡ length (linked_bytes s ref)
  unfolding first_length
  first_own ref e z =
      on_false (eqb (block_ref (linked_bytes s table) 0) 0) _ _ (ne_eqb _ _ (λ q. z (e ∙ q))) ∙ ap (λ b. length (linked_bytes s b)) (sym e)

-- ---- Its fault goes by the rules

-- a number that is not 0 is 1 or more
positive : (n : ℕ) → (not (eqb n 0) ≡ true) ↔ (1 ≤ n)
positive n = not_is (eqb n 0) (1 ≤ n) ((λ e. let z = eqb-false n 0 e in omega (arith, z)), (λ h. ne_eqb n 0 (λ e. omega arith)))

is : (n m : ℕ) → (eqb n m ≡ true) ↔ (n ≡ m)
is n m = (eqb-true n m, eq-eqb n m)

module _ (r : List ℕ) (p : ℕ) where
  sparse_tells : Tells (sparse_rules r p) p (sparse_fault r)
  unfolding sparse_fault
  sparse_tells = tells_must p _ _ _ _ _ (is _ _) (tells_must p _ _ _ _ _ (positive _) (tells_must p _ _ _ _ _ (positive _) (tells_done p)))

  full_tells : Tells (full_rules r p) p (full_fault r)
  unfolding full_fault
  full_tells =
      tells_must p _ _ _ _ _ (is _ _)
      (tells_must p _ _ _ _ _ (positive _)
      (tells_must p _ _ _ _ _ (positive _)
      (tells_must p _ _ _ _ _ (positive _) (tells_done p))))

  other_tells : Tells (other_rules r p) p (other_fault r)
  unfolding other_fault must
  other_tells =
      let one = is (be 2 r 0) 1 in
      let two = is (be 4 r 0) 1 in
      let either : (eqb (be 2 r 0) 1 || eqb (be 4 r 0) 1 ≡ true) ↔ ((be 2 r 0 ≡ 1) ⊎ (be 4 r 0 ≡ 1)) = (
        (λ e. elim (or_split (eqb (be 2 r 0) 1) (eqb (be 4 r 0) 1) e) [ inl a ↦ inl (one.0 a) | inr a ↦ inr (two.0 a) ]),
        (λ h. or_either (eqb (be 2 r 0) 1) (eqb (be 4 r 0) 1) (elim h [ inl a ↦ inl (one.1 a) | inr a ↦ inr (two.1 a) ])),
      ) in
      tells_must p _ _ _ _ _ (leb-true _ _, le-leb _ _)
      (tells_must p _ _ _ _ _ either
      (tells_must p false 12 0 ⊥ done ((λ e. false≢true e), (λ z. absurd z)) (tells_done p)))

  pub record_tells : Tells (record_rules r p) p (record_fault r)
  record_tells =
      elim (same? (length r) 16) [
        | inl e ↦ rw (sparse_rules_lem r e p, sparse_fault_lem r e) sparse_tells
        | inr z ↦ elim (same? (length r) 22) [
          | inl e ↦ rw (full_rules_lem r z e p, full_fault_lem r z e) full_tells
          | inr y ↦ rw (other_rules_lem r z y p, other_fault_lem r z y) other_tells
        ]
      ]

  -- it has no other numbers than 12 and 13
  early : Below 23 (record_rules r p)
  early =
      elim (same? (length r) 16) [
        | inl e ↦ rw (sparse_rules_lem r e p) (omega arith, (omega arith, (omega arith, tt)))
        | inr z ↦ elim (same? (length r) 22) [
          | inl e ↦ rw (full_rules_lem r z e p) (omega arith, (omega arith, (omega arith, (omega arith, tt))))
          | inr y ↦ rw (other_rules_lem r z y p) (omega arith, (omega arith, (omega arith, tt)))
        ]
      ]

  pub record_early : record_fault r < 23
  record_early =
      elim (judged (record_rules r p) record_tells.decided) [
        | inl a ↦ omega (arith, record_tells.grants a)
        | inr b ↦ omega (arith, (record_tells.refuses b.0 b.1 b.2).0, broken_below 23 b.0 b.1 (record_rules r p) early b.2)
      ]
