-- A walk over linked blocks and tables, step by step, and how many bytes it gives. Assumes nothing.
use Prim.Native.Nat.{ℕ, zero, suc, ◌+◌, ◌-◌, ◌≤◌}
use native.Mathlib.Nat.{suc-ne-zero}
use native.Mathlib.Omega.{arith}
use mathlib.Core.Path.{◌≡◌, refl, sym, ap, ◌∙◌}
use mathlib.Core.Logic.{inl, inr}
use mathlib.Core.List.{List, [], ◌∷◌, ◌++◌}
use mathlib.Core.Bool.{Bool}
use lib.ListN.{length, length-append, length-replicate}
use lib.Seq.{length-take-le}
use borrow.Author.Tests.{leb-true, eq-eqb, ne_eqb}
use Rattle.answer.proofs.Tests.{test, zero?, same?}
use Rattle.answer.proofs.Search.{passed}
use Rattle.storage.specs.Tables.{linked_bytes, next_table, block_ref, link_fault, table_fault, never_written, linked_block_fault, block_bytes}
use Rattle.storage.specs.Walks.{share, Walk, ends, breaks, joined, and_then, blocks_from, tables_from, chain_of}
use Rattle.storage.specs.declared.description.Description.{Description}
use Rattle.storage.proofs.Tables.{unwritten_gives, written_fault, written_gives}

-- ---- One block further

pub share_less : (d : Description) (index left : ℕ) → share d index left ≤ left
unfolding share
share_less d zero left = omega arith
share_less d (suc index) left = omega arith

module _ (s : List ℕ) (d : Description) (t : List ℕ) (entry index left : ℕ) where
  pub blocks_none : blocks_from s d t 0 entry index left ≡ ends left
  unfolding blocks_from
  blocks_none = refl

  pub blocks_full : (k : ℕ) → left ≡ 0 → blocks_from s d t k entry index left ≡ ends left
  unfolding blocks_from
  blocks_full zero e = refl
  blocks_full (suc k) e = simp (blocks_from, eq-eqb left 0 e)

  module _ (k : ℕ) (more : left ≡ 0 → ⊥) where
    pub blocks_fault : (linked_block_fault s d.sparse (block_ref t entry) (share d index left) ≡ 0 → ⊥)
        → blocks_from s d t (suc k) entry index left ≡ breaks (linked_block_fault s d.sparse (block_ref t entry) (share d index left)) index left
    unfolding blocks_from
    blocks_fault z =
        elim (zero? (linked_block_fault s d.sparse (block_ref t entry) (share d index left))) [
          | inl e ↦ absurd (z e)
          | inr m ↦ simp (blocks_from, ne_eqb left 0 more, m.1)
        ]

    pub blocks_next : linked_block_fault s d.sparse (block_ref t entry) (share d index left) ≡ 0
        → blocks_from s d t (suc k) entry index left
        ≡ joined (block_bytes s d.sparse (block_ref t entry) (share d index left)) (blocks_from s d t k (entry + 1) (index + 1) (left - share d index left))
    unfolding blocks_from
    blocks_next h = simp (blocks_from, ne_eqb left 0 more, h)

-- a block without fault has the bytes that are taken
pub block_passed : (s : List ℕ) (sparse : Bool) (ref count : ℕ) → linked_block_fault s sparse ref count ≡ 0 → length (block_bytes s sparse ref count) ≡ count
unfolding link_fault
block_passed s sparse ref count e =
    elim (test (never_written sparse ref)) [
      | inl u ↦ ap length (unwritten_gives s sparse ref count u) ∙ length-replicate count 0
      | inr w ↦
          let h = passed _ _ _ (passed _ _ _ (sym (written_fault s sparse ref count w) ∙ e)).1 in
          ap length (written_gives s sparse ref count w) ∙ length-take-le count (linked_bytes s ref) (leb-true _ _ h.0)
    ]

-- what was given and what is left make up what was to be given
pub blocks_total : (s : List ℕ) (d : Description) (t : List ℕ) (k entry index left : ℕ)
    → length (blocks_from s d t k entry index left).bytes + (blocks_from s d t k entry index left).left ≡ left
blocks_total s d t zero entry index left = rw (blocks_none s d t entry index left) (omega arith)
blocks_total s d t (suc k) entry index left =
    elim (same? left 0) [
      | inl z ↦ rw (blocks_full s d t entry index left (suc k) z) (omega arith)
      | inr z ↦ elim (same? (linked_block_fault s d.sparse (block_ref t entry) (share d index left)) 0) [
        | inr f ↦ rw (blocks_fault s d t entry index left k z f) (omega arith)
        | inl e ↦
            let n = share d index left in
            let bs = block_bytes s d.sparse (block_ref t entry) n in
            let w = blocks_from s d t k (entry + 1) (index + 1) (left - n) in
            rw (blocks_next s d t entry index left k z e)
            (omega (arith, length-append bs w.bytes, block_passed s d.sparse (block_ref t entry) n e, share_less d index left, blocks_total s d t k (entry + 1) (index + 1) (left - n)))
      ]
    ]

-- ---- One table further

on_fault : (n : ℕ) (v w : Walk) → (n ≡ 0 → ⊥) → ◌≡◌ {A = Walk} (elim n [ zero ↦ w | suc number ↦ v ]) v
on_fault zero v w z = absurd (z refl)
on_fault (suc n) v w z = refl

pub then_stops : (v w : Walk) → (v.fault ≡ 0 → ⊥) → and_then v w ≡ v
then_stops v w z = on_fault v.fault v (joined v.bytes w) z

pub then_goes : (v w : Walk) → v.fault ≡ 0 → and_then v w ≡ joined v.bytes w
then_goes v w e = rw (e, and_then)

module _ (s : List ℕ) (d : Description) (before : List ℕ) (ref index left : ℕ) where
  pub tables_full : (k : ℕ) → left ≡ 0 → tables_from s d k before ref index left ≡ ends left
  unfolding tables_from
  tables_full zero e = simp (tables_from, eq-eqb left 0 e)
  tables_full (suc k) e = simp (tables_from, eq-eqb left 0 e)

  module _ (more : left ≡ 0 → ⊥) where
    pub tables_many : tables_from s d 0 before ref index left ≡ breaks 27 (length before) left
    unfolding tables_from
    tables_many = simp (tables_from, ne_eqb left 0 more)

    module _ (k : ℕ) where
      pub tables_fault : (table_fault s d before ref ≡ 0 → ⊥) → tables_from s d (suc k) before ref index left ≡ breaks (table_fault s d before ref) (length before) left
      unfolding tables_from
      tables_fault z = elim (zero? (table_fault s d before ref)) [ inl e ↦ absurd (z e) | inr m ↦ simp (tables_from, ne_eqb left 0 more, m.1) ]

      pub tables_next : table_fault s d before ref ≡ 0
          → tables_from s d (suc k) before ref index left
          ≡ and_then (blocks_from s d (linked_bytes s ref) d.entries 0 index left)
          (tables_from s d k (before ++ (ref ∷ [])) (next_table (linked_bytes s ref)) (index + d.entries) (blocks_from s d (linked_bytes s ref) d.entries 0 index left).left)
      unfolding tables_from
      tables_next h = simp (tables_from, ne_eqb left 0 more, h)

-- what was given and what is left make up what was to be given
tables_total : (s : List ℕ) (d : Description) (k : ℕ) (before : List ℕ) (ref index left : ℕ)
    → length (tables_from s d k before ref index left).bytes + (tables_from s d k before ref index left).left ≡ left
tables_total s d zero before ref index left =
    elim (same? left 0) [
      | inl z ↦ rw (tables_full s d before ref index left 0 z) (omega arith)
      | inr z ↦ rw (tables_many s d before ref index left z) (omega arith)
    ]
tables_total s d (suc k) before ref index left =
    elim (same? left 0) [
      | inl z ↦ rw (tables_full s d before ref index left (suc k) z) (omega arith)
      | inr z ↦ elim (same? (table_fault s d before ref) 0) [
        | inr f ↦ rw (tables_fault s d before ref index left z k f) (omega arith)
        | inl e ↦
            let v = blocks_from s d (linked_bytes s ref) d.entries 0 index left in
            let w = tables_from s d k (before ++ (ref ∷ [])) (next_table (linked_bytes s ref)) (index + d.entries) v.left in
            let all = blocks_total s d (linked_bytes s ref) d.entries 0 index left in
            elim (same? v.fault 0) [
              | inl f ↦
                  rw (tables_next s d before ref index left z k e ∙ then_goes v w f)
                  (omega (arith, length-append v.bytes w.bytes, tables_total s d k (before ++ (ref ∷ [])) (next_table (linked_bytes s ref)) (index + d.entries) v.left))
              | inr f ↦ rw (tables_next s d before ref index left z k e ∙ then_stops v w f) all
            ]
      ]
    ]

-- a walk without fault leaves nothing
pub tables_finish : (s : List ℕ) (d : Description) (k : ℕ) (before : List ℕ) (ref index left : ℕ)
    → (tables_from s d k before ref index left).fault ≡ 0 → (tables_from s d k before ref index left).left ≡ 0
tables_finish s d zero before ref index left e =
    elim (same? left 0) [
      | inl z ↦ ap (λ x. x.left) (tables_full s d before ref index left 0 z) ∙ z
      | inr z ↦ absurd (suc-ne-zero 26 (ap (λ x. x.fault) (sym (tables_many s d before ref index left z)) ∙ e))
    ]
tables_finish s d (suc k) before ref index left e =
    elim (same? left 0) [
      | inl z ↦ ap (λ x. x.left) (tables_full s d before ref index left (suc k) z) ∙ z
      | inr z ↦ elim (same? (table_fault s d before ref) 0) [
        | inr f ↦ absurd (f (ap (λ x. x.fault) (sym (tables_fault s d before ref index left z k f)) ∙ e))
        | inl q ↦
            let v = blocks_from s d (linked_bytes s ref) d.entries 0 index left in
            let w = tables_from s d k (before ++ (ref ∷ [])) (next_table (linked_bytes s ref)) (index + d.entries) v.left in
            elim (same? v.fault 0) [
              | inl f ↦
                  let step = tables_next s d before ref index left z k q ∙ then_goes v w f in
                  ap (λ x. x.left) step
                  ∙ tables_finish s d k (before ++ (ref ∷ [])) (next_table (linked_bytes s ref)) (index + d.entries) v.left (ap (λ x. x.fault) (sym step) ∙ e)
              | inr f ↦ absurd (f (ap (λ x. x.fault) (sym (tables_next s d before ref index left z k q ∙ then_stops v w f)) ∙ e))
            ]
      ]
    ]

-- ---- The whole chain

-- the bytes of a chain without fault are as many as its record says
pub chain_length : (s : List ℕ) (d : Description) → (chain_of s d).fault ≡ 0 → length (chain_of s d).bytes ≡ d.length
unfolding chain_of
chain_length s d e =
    let n = tables_finish s d 256 [] d.table 0 d.length e in
    omega (arith, tables_total s d 256 [] d.table 0 d.length)
