-- The claims about what is granted and what is refused: a reading is granted exactly if its rules hold, and a number and a place are answered
-- exactly if the first rule that is broken has them. And what a granted reading tells, each field at its place among the record's bytes. Assumes
-- nothing.
use Prim.Native.Nat.{ℕ, ◌+◌, ◌*◌, ◌<◌, ◌≤◌}
use native.Mathlib.Omega.{arith}
use mathlib.Core.Path.{◌≡◌, refl, sym, ap, ◌∙◌}
use mathlib.Core.Logic.{◌↔◌}
use mathlib.Core.List.{List, [], ◌∷◌}
use mathlib.Core.Bool.{true, ◌&&◌}
use lib.ListN.{length, get_or}
use lib.Dec.{leb}
use borrow.Author.Tests.{leb-true, le-leb, eqb-true, eq-eqb}
use Rattle.answer.specs.Answer.{grant, refuse, in_room}
use Rattle.answer.specs.Rules.{AllHold, FirstBroken}
use Rattle.answer.proofs.Tests.{and_split, and_both}
use Rattle.wire.specs.Numbers.{be}
use Rattle.answer.proofs.Answer.{in_room_passed}
use Rattle.wire.specs.Layouts.{read, extent}
use Rattle.wire.proofs.Layouts.{length_numbers_at, number_at}
use Rattle.directory.specs.Lookup.{find}
use Rattle.directory.specs.Named.{NamedUnstored}
use Rattle.records.specs.NumberTypes.{number_type, number_type_fault, number_type_at, number_type_of}
use Rattle.records.specs.Dimensions.{dimension, dimension_fault, dimension_at, dimension_of}
use Rattle.records.specs.Arrays.{array, array_fault, array_sizes, array_pairs, array_at, array_of}
use Rattle.records.specs.Readings.{exactly, record_bytes}
use Rattle.records.specs.RecordRules.{number_type_rules, dimension_rules, array_rules}
use Rattle.records.proofs.Arrays.{extent_array}
use Rattle.records.proofs.Readings.{record_granted}
use Rattle.records.proofs.RecordRules.{By, by_exactly, by_unstored, by_done, by_must, by_rest, by_room, by_record}

-- ---- Number types

-- what is read of the bytes e, by name
pub number_type_named : (e : List ℕ) → read number_type e 0 ≡ record { version = be 1 e 0; code = be 1 e 1; width = be 1 e 2; class = be 1 e 3 }
unfolding read
number_type_named e = refl

module _ (s : List ℕ) (ref : ℕ) where
  number_type_by : By 4 (number_type_rules s ref) (number_type_of s ref)
  unfolding number_type_of number_type_at number_type_fault extent
  number_type_by =
      by_record 4 s 106 ref number_type_fault _ _ (λ p o e.
      by_must 4 p _ _ _ _ _ _ (eqb-true (length e) 4, eq-eqb (length e) 4) (λ h.
      by_rest 4 p _ _ (by_done 4 _ refl)))

  pub number_type_granted : ((number_type_of s ref).number ≡ 0) ↔ AllHold (number_type_rules s ref)
  number_type_granted = (by_exactly 4 _ _ number_type_by).0

  pub number_type_refused : (n p : ℕ) → ((number_type_of s ref ≡ refuse 4 n p) × (n ≡ 0 → ⊥)) ↔ FirstBroken (number_type_rules s ref) n p
  number_type_refused = (by_exactly 4 _ _ number_type_by).1

  -- 29 exactly if it is named and not stored yet
  pub number_type_unstored : (p : ℕ) → (number_type_of s ref ≡ refuse 4 29 p) ↔ NamedUnstored s 106 ref p
  number_type_unstored = by_unstored 4 _ s 106 ref _ number_type_by (omega arith, tt)

  -- version, type, width and class, from bytes 0, 1, 2 and 3
  pub number_type_fields : (number_type_of s ref).number ≡ 0
      → let e = record_bytes s (find s 106 ref) in number_type_of s ref ≡ grant (be 1 e 0 ∷ be 1 e 1 ∷ be 1 e 2 ∷ be 1 e 3 ∷ [])
  unfolding number_type_of number_type_at read
  number_type_fields granted =
      let g = record_granted 4 s 106 ref number_type_fault _ granted in
      g.1.answers ∙ ap (λ e. grant (be 1 e 0 ∷ be 1 e 1 ∷ be 1 e 2 ∷ be 1 e 3 ∷ [])) (sym g.1.bytes)

-- ---- Dimensions

pub dimension_named : (e : List ℕ)
    → read dimension e 0
    ≡ record {
      x = be 4 e 0;
      y = be 4 e 4;
      type_tag = be 2 e 8;
      type_ref = be 2 e 10;
      elements = be 2 e 12;
      interlace = be 2 e 14;
      compression_tag = be 2 e 16;
      compression_ref = be 2 e 18;
    }
unfolding read
dimension_named e = refl

module _ (s : List ℕ) (tag ref : ℕ) where
  dimension_by : By 8 (dimension_rules s tag ref) (dimension_of s tag ref)
  unfolding dimension_of dimension_at dimension_fault extent read
  dimension_by =
      by_record 8 s tag ref dimension_fault _ _ (λ p o e.
      by_must 8 p _ _ _ _ _ _ (eqb-true (length e) 20, eq-eqb (length e) 20) (λ h.
      by_must 8 p _ _ _ _ _ _ (leb-true (be 2 e 14) 2, le-leb (be 2 e 14) 2) (λ l.
      by_rest 8 p _ _ (by_done 8 _ refl))))

  pub dimension_granted : ((dimension_of s tag ref).number ≡ 0) ↔ AllHold (dimension_rules s tag ref)
  dimension_granted = (by_exactly 8 _ _ dimension_by).0

  pub dimension_refused : (n p : ℕ) → ((dimension_of s tag ref ≡ refuse 8 n p) × (n ≡ 0 → ⊥)) ↔ FirstBroken (dimension_rules s tag ref) n p
  dimension_refused = (by_exactly 8 _ _ dimension_by).1

  pub dimension_unstored : (p : ℕ) → (dimension_of s tag ref ≡ refuse 8 29 p) ↔ NamedUnstored s tag ref p
  dimension_unstored = by_unstored 8 _ s tag ref _ dimension_by (omega arith, (omega arith, tt))

  -- x from byte 0, y from 4, type tag from 8, type reference from 10, elements from 12, interlace from 14, compression tag from 16, compression
  -- reference from 18
  pub dimension_fields : (dimension_of s tag ref).number ≡ 0
      → let e = record_bytes s (find s tag ref) in
      dimension_of s tag ref ≡ grant (be 4 e 0 ∷ be 4 e 4 ∷ be 2 e 8 ∷ be 2 e 10 ∷ be 2 e 12 ∷ be 2 e 14 ∷ be 2 e 16 ∷ be 2 e 18 ∷ [])
  unfolding dimension_of dimension_at read
  dimension_fields granted =
      let g = record_granted 8 s tag ref dimension_fault _ granted in
      g.1.answers
      ∙ ap (λ e. grant (be 4 e 0 ∷ be 4 e 4 ∷ be 2 e 8 ∷ be 2 e 10 ∷ be 2 e 12 ∷ be 2 e 14 ∷ be 2 e 16 ∷ be 2 e 18 ∷ [])) (sym g.1.bytes)

-- ---- Arrays

pub array_named : (e : List ℕ) → read array e 0 ≡ record { rank = be 2 e 0; sizes = 2; pairs = 2 + 4 * be 2 e 0 }
unfolding read
array_named e = refl

whole_array : (e : List ℕ) → (exactly array e ≡ true) ↔ (length e ≡ 6 + 8 * be 2 e 0)
whole_array e = (
  (λ b. eqb-true (length e) (extent array e 0) b ∙ extent_array e),
  (λ h. eq-eqb (length e) (extent array e 0) (h ∙ sym (extent_array e))),
)

-- a list of sizes and one of pairs have room
both_fit : (a b c d : ℕ) → (leb a b && leb c d ≡ true) ↔ ((a ≤ b) × (c ≤ d))
both_fit a b c d = (
  (λ e. let h = and_split (leb a b) (leb c d) e in (leb-true a b h.0, leb-true c d h.1)),
  (λ h. and_both (leb a b) (leb c d) (le-leb a b h.0) (le-leb c d h.1)),
)

module _ (s : List ℕ) (ref sizes pairs : ℕ) where
  array_by : By 1 (array_rules s ref sizes pairs) (array_of s ref sizes pairs)
  unfolding array_of array_at array_fault read
  array_by =
      by_record 1 s 701 ref array_fault _ _ (λ p o e.
      by_must 1 p _ _ _ _ _ _ (whole_array e) (λ h.
      by_must 1 p _ _ _ _ _ _ (leb-true 1 (be 2 e 0), le-leb 1 (be 2 e 0)) (λ l.
      by_rest 1 p _ _ (by_room 1 _ _ _ (both_fit (be 2 e 0) sizes (2 * (be 2 e 0 + 1)) pairs) refl))))

  pub array_granted : ((array_of s ref sizes pairs).number ≡ 0) ↔ AllHold (array_rules s ref sizes pairs)
  array_granted = (by_exactly 1 _ _ array_by).0

  pub array_refused : (n p : ℕ) → ((array_of s ref sizes pairs ≡ refuse 1 n p) × (n ≡ 0 → ⊥)) ↔ FirstBroken (array_rules s ref sizes pairs) n p
  array_refused = (by_exactly 1 _ _ array_by).1

  pub array_unstored : (p : ℕ) → (array_of s ref sizes pairs ≡ refuse 1 29 p) ↔ NamedUnstored s 701 ref p
  array_unstored = by_unstored 1 _ s 701 ref _ array_by (omega arith, (omega arith, (omega arith, tt)))

  -- the rank from byte 0, so many sizes from 2 on, and after them tag and reference of one pair more
  pub array_fields : (array_of s ref sizes pairs).number ≡ 0
      → let e = record_bytes s (find s 701 ref) in let rank = be 2 e 0 in
      (array_of s ref sizes pairs ≡ grant (rank ∷ []))
      × (length (array_sizes e) ≡ rank)
      × ((k : ℕ) → k < rank → get_or (array_sizes e) k 0 ≡ be 4 e (2 + 4 * k))
      × (length (array_pairs e) ≡ 2 * (rank + 1))
      × ((k : ℕ) → k < 2 * (rank + 1) → get_or (array_pairs e) k 0 ≡ be 2 e (2 + 4 * rank + 2 * k))
  unfolding array_of array_at array_sizes array_pairs read
  array_fields granted =
      let g = record_granted 1 s 701 ref array_fault _ granted in
      let e = record_bytes s (find s 701 ref) in
      let rank = be 2 e 0 in
      let answers = g.1.answers ∙ ap (λ b. in_room 1 (leb (be 2 b 0) sizes && leb (2 * (be 2 b 0 + 1)) pairs) (grant (be 2 b 0 ∷ []))) (sym g.1.bytes) in (
        answers ∙ (in_room_passed 1 _ _ (ap (λ a. a.number) (sym answers) ∙ granted)).1,
        length_numbers_at 4 rank e 2,
        number_at 4 rank e 2,
        length_numbers_at 2 (2 * (rank + 1)) e (2 + 4 * rank),
        number_at 2 (2 * (rank + 1)) e (2 + 4 * rank),
      )
