-- The bytes of a chain without fault, by the index of its blocks: those of each block stand behind those of the blocks before it.
-- Assumes nothing.
use Prim.Native.Nat.{ℕ, zero, suc, ◌+◌, ◌*◌, ◌-◌, ◌<◌, ◌≤◌}
use native.Mathlib.Nat.{suc-ne-zero, suc-mul, zero-mul}
use native.Mathlib.Omega.{arith}
use native.Mathlib.Numerals.{add-one}
use mathlib.Core.Path.{◌≡◌, refl, sym, ap, ◌∙◌}
use mathlib.Core.Logic.{inl, inr}
use mathlib.Core.List.{List, [], ◌∷◌, ◌++◌}
use lib.ListN.{length}
use lib.Seq.{take_at}
use Rattle.answer.specs.Links.{link_after, links_after}
use Rattle.answer.proofs.Tests.{same?, le?}
use Rattle.answer.proofs.Links.{link_next, links_snoc}
use Rattle.wire.specs.Numbers.{part}
use Rattle.wire.proofs.Numbers.{part_first, part_second}
use Rattle.storage.specs.Tables.{linked_bytes, next_table, block_ref, next_of, tables_after, table_fault, linked_block_fault, block_bytes}
use Rattle.storage.specs.Walks.{share, blocks_from, tables_from, chain_of}
use Rattle.storage.specs.Links.{table_at, block_at, bytes_before, Needed, taken}
use Rattle.storage.specs.declared.description.Description.{Description}
use Rattle.storage.proofs.Walks.{share_less, block_passed, blocks_fault, blocks_next, blocks_total, then_stops, then_goes, tables_many, tables_fault, tables_next}
use Rattle.storage.proofs.Indices.{left_at, left_next, before_mono, needed_before, block_entry, blocks_judged}

-- the first of two lists
first_of : (xs ys : List ℕ) (at n : ℕ) → at ≡ 0 → length xs ≡ n → part (xs ++ ys) at n ≡ xs
unfolding part
first_of xs ys at n z e = ap (λ a. part (xs ++ ys) a n) z ∙ take_at xs ys n e

module _ (s : List ℕ) (d : Description) where
  -- what block m gives
  abbrev gift : ℕ → List ℕ
  gift m = block_bytes s d.sparse (block_at s d m) (taken d m)

  -- bytes from block j on have what block m gives at its place
  abbrev HasBlock : List ℕ → ℕ → ℕ → Type 0
  HasBlock bytes j m = part bytes (bytes_before d m - bytes_before d j) (taken d m) ≡ gift m

  -- where block m is needed the blocks before it are whole
  whole_before : (j m : ℕ) → j < m → Needed d m → bytes_before d (j + 1) ≡ bytes_before d j + taken d j
  whole_before j m l n =
      omega (arith, needed_before d (j + 1) m (omega arith) n, before_mono d j (j + 1) (omega arith), left_next d j, share_less d j (left_at d j))

  -- what is taken of a block ends before the next one, and inside the element
  block_ends : (m : ℕ) → bytes_before d m + taken d m ≤ bytes_before d (m + 1)
  block_ends m = omega (arith, left_next d m, share_less d m (left_at d m), before_mono d m (m + 1) (omega arith))

  block_inside : (m : ℕ) → Needed d m → bytes_before d m + taken d m ≤ d.length
  block_inside m n = omega (arith, share_less d m (left_at d m))

  -- how many bytes stand between two places of the element, up to its end
  between : (n left rest j end at : ℕ) → n + rest ≡ left → left ≡ d.length - j → rest ≡ d.length - end → at ≤ end → at ≤ d.length → at - j ≤ n
  between n left rest j end at total a b u l = omega arith

  within : (m j n len : ℕ) → j ≤ m → m + n - j ≤ len → m - j + n ≤ len
  within m j n len l h = omega arith

  -- ---- The blocks of a table

  blocks_have : (i k entry j left : ℕ) → entry + k ≡ d.entries → j ≡ i * d.entries + entry → left ≡ left_at d j
      → (blocks_from s d (linked_bytes s (table_at s d i)) k entry j left).fault ≡ 0
      → (m : ℕ) → j ≤ m → m < i * d.entries + d.entries → Needed d m → HasBlock (blocks_from s d (linked_bytes s (table_at s d i)) k entry j left).bytes j m
  blocks_have i zero entry j left upto at e sound m l u n = absurd (omega arith)
  blocks_have i (suc k) entry j left upto at e sound m l u n =
      let t = linked_bytes s (table_at s d i) in
      let more : left ≡ 0 → ⊥ = λ z. omega (arith, needed_before d j m l n) in
      elim (same? (linked_block_fault s d.sparse (block_ref t entry) (share d j left)) 0) [
        | inr f ↦ absurd (f (sym (ap (λ x. x.fault) (blocks_fault s d t entry j left k more f)) ∙ sound))
        | inl f ↦
            let w = blocks_next s d t entry j left k more f in
            let rest = blocks_from s d t k (entry + 1) (j + 1) (left - share d j left) in
            let bs = block_bytes s d.sparse (block_ref t entry) (share d j left) in
            let count : share d j left ≡ taken d j = ap (share d j) e in
            let long : length bs ≡ taken d j = block_passed s d.sparse (block_ref t entry) (share d j left) f ∙ count in
            let ref : block_at s d j ≡ block_ref t entry = ap (block_at s d) at ∙ block_entry s d i entry (omega arith) in
            let bytes : (blocks_from s d t (suc k) entry j left).bytes ≡ bs ++ rest.bytes = ap (λ x. x.bytes) w in
            elim (same? j m) [
              | inl q ↦
                  let own : bs ≡ gift j = ap (λ n. block_bytes s d.sparse (block_ref t entry) n) count ∙ ap (λ r. block_bytes s d.sparse r (taken d j)) (sym ref) in
                  rw (bytes, ← q) (first_of bs rest.bytes (bytes_before d j - bytes_before d j) (taken d j) (omega arith) long ∙ own)
              | inr q ↦
                  let left_is : left - share d j left ≡ left_at d (j + 1) = ap (λ n. n - share d j n) e ∙ left_next d j in
                  let h = blocks_have i k (entry + 1) (j + 1) (left - share d j left) (omega arith) (omega arith) left_is (sym (ap (λ x. x.fault) w) ∙ sound) m (omega arith) u n in
                  let whole = whole_before j m (omega arith) n in
                  let later = before_mono d (j + 1) m (omega arith) in
                  rw bytes (part_second bs rest.bytes (bytes_before d m - bytes_before d j) (taken d m) (bytes_before d m - bytes_before d (j + 1)) (omega (arith, long)) ∙ h)
            ]
      ]

  -- ---- The tables

  tables_have : (k i left : ℕ) → i + k ≡ 256 → left ≡ left_at d (i * d.entries)
      → (tables_from s d k (tables_after s i d.table) (table_at s d i) (i * d.entries) left).fault ≡ 0
      → (m : ℕ) → i * d.entries ≤ m → Needed d m
      → HasBlock (tables_from s d k (tables_after s i d.table) (table_at s d i) (i * d.entries) left).bytes (i * d.entries) m
  tables_have zero i left upto e sound m l n =
      let more : left ≡ 0 → ⊥ = λ z. omega (arith, needed_before d (i * d.entries) m l n) in
      absurd (suc-ne-zero 26 (sym (ap (λ x. x.fault) (tables_many s d (tables_after s i d.table) (table_at s d i) (i * d.entries) left more)) ∙ sound))
  tables_have (suc k) i left upto e sound m l n =
      let before = tables_after s i d.table in
      let ref = table_at s d i in
      let j = i * d.entries in
      let t = linked_bytes s ref in
      let more : left ≡ 0 → ⊥ = λ z. omega (arith, needed_before d j m l n) in
      let v = blocks_from s d t d.entries 0 j left in
      let w = tables_from s d (suc k) before ref j left in
      let onward = tables_from s d k (before ++ (ref ∷ [])) (next_table t) (j + d.entries) v.left in
      elim (same? (table_fault s d before ref) 0) [
        | inr f ↦ absurd (f (sym (ap (λ x. x.fault) (tables_fault s d before ref j left more k f)) ∙ sound))
        | inl f ↦ elim (blocks_judged s d i d.entries 0 j left (omega arith) (omega arith) e) [
          | inr p ↦ absurd (p.fault (sym (ap (λ x. x.fault) (tables_next s d before ref j left more k f ∙ then_stops v onward p.fault)) ∙ sound))
          | inl p ↦
              let q = tables_next s d before ref j left more k f ∙ then_goes v onward p.fault in
              let bytes : w.bytes ≡ v.bytes ++ onward.bytes = ap (λ x. x.bytes) q in
              let total = blocks_total s d t d.entries 0 j left in
              let left_is = p.left in
              elim (le? (j + d.entries) m) [
                | inr o ↦
                    let h = blocks_have i d.entries 0 j left (omega arith) (omega arith) e p.fault m l (omega arith) n in
                    let upper : bytes_before d m + taken d m ≤ bytes_before d (j + d.entries) =
                    omega (arith, block_ends m, before_mono d (m + 1) (j + d.entries) (omega arith)) in
                    let room = between (length v.bytes) left v.left (bytes_before d j) (bytes_before d (j + d.entries)) (bytes_before d m + taken d m) total e left_is upper (block_inside m n) in
                    let inside = within (bytes_before d m) (bytes_before d j) (taken d m) (length v.bytes) (before_mono d j m l) room in
                    rw bytes (part_first v.bytes onward.bytes (bytes_before d m - bytes_before d j) (taken d m) inside ∙ h)
                | inl o ↦
                    let rows : (i + 1) * d.entries ≡ j + d.entries = rw add-one (suc-mul i d.entries) in
                    let to : tables_from s d k (tables_after s (i + 1) d.table) (table_at s d (i + 1)) ((i + 1) * d.entries) v.left ≡ onward =
                    rw (links_snoc (next_of s) i d.table, link_next (next_of s) i d.table, rows) in
                    let fine : (tables_from s d k (tables_after s (i + 1) d.table) (table_at s d (i + 1)) ((i + 1) * d.entries) v.left).fault ≡ 0 =
                    ap (λ x. x.fault) to ∙ sym (ap (λ x. x.fault) q) ∙ sound in
                    let h = tables_have k (i + 1) v.left (omega arith) (left_is ∙ ap (left_at d) (sym rows)) fine m (omega (arith, rows)) n in
                    let h₂ : HasBlock onward.bytes (j + d.entries) m = rw (to, rows) at h in
                    let start = needed_before d (j + d.entries) m o n in
                    let lower = before_mono d j (j + d.entries) (omega arith) in
                    let upper = before_mono d (j + d.entries) m o in
                    rw bytes (part_second v.bytes onward.bytes (bytes_before d m - bytes_before d j) (taken d m) (bytes_before d m - bytes_before d (j + d.entries)) (omega arith) ∙ h₂)
              ]
        ]
      ]

  -- ---- The whole chain

  pub chain_block : (chain_of s d).fault ≡ 0 → (m : ℕ) → Needed d m → part (chain_of s d).bytes (bytes_before d m) (taken d m) ≡ block_bytes s d.sparse (block_at s d m) (taken d m)
  unfolding chain_of link_after links_after bytes_before
  chain_block sound m n =
      let none : 0 * d.entries ≡ 0 = zero-mul d.entries in
      let start : bytes_before d 0 ≡ 0 = refl in
      let all : d.length ≡ left_at d 0 = omega (arith, start) in
      let h = tables_have 256 0 d.length refl (all ∙ ap (left_at d) (sym none)) (rw none sound) m (omega (arith, none)) n in
      let h₂ : HasBlock (chain_of s d).bytes 0 m = rw none at h in
      ap (λ a. part (chain_of s d).bytes a (taken d m)) (omega (arith, start)) ∙ h₂
