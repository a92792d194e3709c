-- An element whose record has 22 bytes is what it was before request (iii). Assumes nothing.
use Prim.Native.Nat.{ℕ, zero, suc, ◌+◌, ◌-◌, ◌<◌, ◌≤◌}
use native.Mathlib.Omega.{arith}
use mathlib.Core.Path.{◌≡◌, refl, sym, ap, ◌∙◌}
use mathlib.Core.Logic.{◌⊎◌, inl, inr}
use mathlib.Core.List.{List, [], ◌∷◌, ◌++◌}
use mathlib.Core.Bool.{true, false, not, ◌||◌}
use lib.ListN.{length, take}
use lib.Dec.{eqb}
use borrow.Author.Tests.{le-leb, lt-leb, eq-eqb, ne_eqb}
use Rattle.answer.proofs.Tests.{or_either, same?, le?}
use Rattle.answer.proofs.Search.{must_holds, must_fails}
use Rattle.answer.specs.Search.{must}
use Rattle.wire.specs.Numbers.{be}
use Rattle.storage.specs.Tables.{linked_bytes, next_table, block_ref, link_fault, table_fault, never_written, linked_block_fault, block_bytes}
use Rattle.storage.specs.Descriptions.{full_description, description_of, record_fault, full_fault, other_fault}
use Rattle.storage.specs.Walks.{share, Walk, ends, breaks, joined, and_then, blocks_from, tables_from, chain_of}
use Rattle.storage.specs.Copies.{in_blocks}
use Rattle.storage.specs.Before.{fault_before, blocks_before, tables_before, chain_before, in_blocks_before}
use Rattle.storage.specs.declared.description.Description.{Description}
use Rattle.storage.proofs.Tables.{written_fault, written_gives}
use Rattle.storage.proofs.Descriptions

-- ---- The walk, where every block has a reference

module _ (s : List ℕ) (d : Description) (full : d.sparse ≡ false) where
  written : (ref : ℕ) → never_written d.sparse ref ≡ false
  written ref = rw full

  same_fault : (ref count : ℕ) → linked_block_fault s d.sparse ref count ≡ link_fault s ref count 25 26
  same_fault ref count = written_fault s d.sparse ref count (written ref)

  same_bytes : (ref count : ℕ) → block_bytes s d.sparse ref count ≡ take count (linked_bytes s ref)
  same_bytes ref count = written_gives s d.sparse ref count (written ref)

  -- one step of either walk
  on_block : ℕ → ℕ → ℕ → List ℕ → Walk → Walk
  on_block index left fault bytes rest = elim (eqb left 0) [
    | true ↦ ends left
    | false ↦ elim fault [ zero ↦ joined bytes rest | suc number ↦ breaks (suc number) index left ]
  ]

  blocks_same : (t : List ℕ) (k entry index left : ℕ) → blocks_from s d t k entry index left ≡ blocks_before s d t k entry index left
  unfolding blocks_from blocks_before on_block
  blocks_same t zero entry index left = refl
  blocks_same t (suc k) entry index left =
      let ref = block_ref t entry in
      let n = share d index left in
      let fault = same_fault ref n in
      let bytes = same_bytes ref n in
      let rest = blocks_same t k (entry + 1) (index + 1) (left - n) in
      let is : on_block index left (linked_block_fault s d.sparse ref n) (block_bytes s d.sparse ref n) (blocks_from s d t k (entry + 1) (index + 1) (left - n))
      ≡ on_block index left (link_fault s ref n 25 26) (take n (linked_bytes s ref)) (blocks_before s d t k (entry + 1) (index + 1) (left - n)) = rw (fault, bytes, rest) in
      is

  on_table : ℕ → ℕ → List ℕ → Walk → Walk → Walk
  on_table left fault before blocks rest = elim (eqb left 0) [
    | true ↦ ends left
    | false ↦ elim fault [ zero ↦ and_then blocks rest | suc number ↦ breaks (suc number) (length before) left ]
  ]

  tables_same : (k : ℕ) (before : List ℕ) (ref index left : ℕ) → tables_from s d k before ref index left ≡ tables_before s d k before ref index left
  unfolding tables_from tables_before on_table
  tables_same zero before ref index left = refl
  tables_same (suc k) before ref index left =
      let t = linked_bytes s ref in
      let v = blocks_from s d t d.entries 0 index left in
      let w = blocks_before s d t d.entries 0 index left in
      let blocks : v ≡ w = blocks_same t d.entries 0 index left in
      let rest = tables_same k (before ++ (ref ∷ [])) (next_table t) (index + d.entries) v.left in
      let is : on_table left (table_fault s d before ref) before v (tables_from s d k (before ++ (ref ∷ [])) (next_table t) (index + d.entries) v.left)
      ≡ on_table left (table_fault s d before ref) before w (tables_before s d k (before ++ (ref ∷ [])) (next_table t) (index + d.entries) w.left) = rw (rest, blocks) in
      is

-- ---- The record

module _ (r : List ℕ) where
  -- past the test of its length
  fault_long : 4 ≤ length r → fault_before r
      ≡ must (eqb (be 4 r 0) 1) 12 (must (eqb (length r) 22) 13 (must (not (eqb (be 4 r 8) 0)) 13 (must (not (eqb (be 4 r 12) 0)) 13 (must (not (eqb (be 4 r 16) 0)) 13 0))))
  unfolding fault_before
  fault_long h = must_holds _ _ _ (le-leb 4 (length r) h)

  pub full_fault_same : length r ≡ 22 → record_fault r ≡ fault_before r
  unfolding full_fault
  full_fault_same e =
      let other : length r ≡ 16 → ⊥ = λ z. omega arith in
      Descriptions.full_fault_lem r other e ∙ ap (must (eqb (be 4 r 0) 1) 12) (sym (must_holds _ _ _ (eq-eqb (length r) 22 e))) ∙ sym (fault_long (omega arith))

  module _ (other : length r ≡ 16 → ⊥) (neither : length r ≡ 22 → ⊥) where
    short_before : (length r < 4) → (record_fault r ≡ 13) × (fault_before r ≡ 13)
    unfolding other_fault fault_before
    short_before h = (Descriptions.other_fault_lem r other neither ∙ must_fails _ _ _ (lt-leb 4 (length r) h), must_fails _ _ _ (lt-leb 4 (length r) h))

    -- a kind that is not 1 in 16 bits, or 1 in 32 too
    long_same : 4 ≤ length r → (be 2 r 0 ≡ 1 → ⊥) ⊎ (be 4 r 0 ≡ 1) → record_fault r ≡ fault_before r
    unfolding other_fault
    long_same h kind =
        let now = Descriptions.other_fault_lem r other neither ∙ must_holds _ _ _ (le-leb 4 (length r) h) in
        let before = ap (must (eqb (be 4 r 0) 1) 12) (must_fails _ _ _ (ne_eqb (length r) 22 neither)) in
        elim kind [
          | inl z ↦ now ∙ ap (λ b. must (b || eqb (be 4 r 0) 1) 12 13) (ne_eqb (be 2 r 0) 1 z) ∙ sym (fault_long h ∙ before)
          | inr e ↦
              let one = eq-eqb (be 4 r 0) 1 e in
              now ∙ must_holds _ _ _ (or_either (eqb (be 2 r 0) 1) (eqb (be 4 r 0) 1) (inr one)) ∙ sym (fault_long h ∙ before ∙ must_holds _ _ _ one)
        ]

    -- one that is 1 in 16 bits alone, in four bytes or more
    abbrev pub Changed : Type 0
    Changed = (4 ≤ length r) × (be 2 r 0 ≡ 1) × (be 4 r 0 ≡ 1 → ⊥)

    pub other_fault_same : (Changed → ⊥) → record_fault r ≡ fault_before r
    other_fault_same same =
        elim (le? 4 (length r)) [
          | inr h ↦ let b = short_before (omega arith) in b.0 ∙ sym b.1
          | inl h ↦ elim (same? (be 2 r 0) 1) [
            | inr z ↦ long_same h (inl z)
            | inl e ↦ elim (same? (be 4 r 0) 1) [ inl q ↦ long_same h (inr q) | inr q ↦ absurd (same (h, e, q)) ]
          ]
        ]

    -- there 12 became 13
    pub other_fault_changed : Changed → (fault_before r ≡ 12) × (record_fault r ≡ 13)
    unfolding other_fault
    other_fault_changed (h, e, z) = (
      fault_long h ∙ must_fails _ _ _ (ne_eqb (be 4 r 0) 1 z),
      Descriptions.other_fault_lem r other neither ∙ must_holds _ _ _ (le-leb 4 (length r) h) ∙ must_holds _ _ _ (or_either _ _ (inl (eq-eqb (be 2 r 0) 1 e))),
    )

-- ---- The element

module _ (s r : List ℕ) (full : length r ≡ 22) where
  other : length r ≡ 16 → ⊥
  other z = omega arith

  says : description_of s r ≡ full_description r
  says = Descriptions.full_says r other s

  chain_same : chain_of s (description_of s r) ≡ chain_before s r
  unfolding chain_of chain_before
  chain_same = ap (chain_of s) says ∙ tables_same s (full_description r) refl 256 [] (be 2 r 20) 0 (be 4 r 4)

  pub full_same : in_blocks s r ≡ in_blocks_before s r
  unfolding in_blocks in_blocks_before
  full_same = rw (full_fault_same r full, Descriptions.full_length r other, chain_same)
