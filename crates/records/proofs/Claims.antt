-- The claims about records: packing what was read is granted and gives back its bytes, reading what was packed gives back its values, and the
-- table of types is the paper's. Assumes nothing.
use Prim.Native.Nat.{ℕ, ◌+◌, ◌*◌, ◌^◌, ◌<◌, ◌≤◌}
use native.Mathlib.Omega.{arith}
use mathlib.Core.Path.{◌≡◌, refl, sym, ap, ◌∙◌}
use mathlib.Core.Bool.{false}
use mathlib.Core.Logic.{inl, inr}
use mathlib.Core.List.{List, [], ◌∷◌, ◌++◌}
use lib.ListN.{length, get_or}
use borrow.Author.Tests.{le-leb}
use Rattle.wire.specs.Numbers.{be, part, Bytes}
use Rattle.wire.specs.declared.ByteOrder.TheVariants.{BigEndian, LittleEndian}
use Rattle.answer.specs.Answer.{Answer, grant}
use Rattle.answer.specs.Search.{hit, In}
use Rattle.directory.specs.Slots.{content_at}
use Rattle.directory.specs.Opening.{open_of}
use Rattle.directory.specs.Lookup.{find}
use Rattle.answer.proofs.Tests.{and_both}
use Rattle.directory.specs.Before.{OpenedBefore}
use Rattle.storage.specs.Elements.{extended_at, plain_only}
use Rattle.storage.specs.Before.{element_before}
use Rattle.storage.proofs.UnstoredClaims.{element_as_before}
use Rattle.storage.proofs.Elements.{content_stored}
use Rattle.records.specs.Limits.{number_type_tag, array_tag}
use Rattle.wire.specs.Layouts.{read, extent, numbers, pack, given, Small, Fits}
use Rattle.records.specs.Readings.{on_sound, sound_in, record_at, record_bytes}
use Rattle.records.specs.Packings.{PacksBack}
use Rattle.records.specs.NumberTypes.{number_type, number_type_values, number_type_fault, number_type_at, number_type_of, number_type_bytes}
use Rattle.records.specs.Dimensions.{dimension, dimension_values, dimension_fault, dimension_at, dimension_of, dimension_bytes, dimension_pack_fault}
use Rattle.records.specs.Arrays.{array, array_fault, array_sizes, array_pairs, array_at, array_of, array_bytes, array_pack_fault}
use Rattle.records.specs.Types.{Kind, signed, unsigned, float, types, row_of, base_type, byte_order_of, width_of, kind_of}
use Rattle.records.specs.declared.number_type.NumberType.{NumberType}
use Rattle.records.specs.declared.dimension.Dimension.{Dimension}
use Rattle.wire.proofs.Layouts.{packed_whole}
use Rattle.records.proofs.Readings.{record_granted, content_passes, content_bytes, content_packs}
use Rattle.answer.proofs.Answer.{in_room_enough}
use Rattle.records.proofs.Packings.{packs_back}
use Rattle.records.proofs.NumberTypes
use Rattle.records.proofs.Dimensions
use Rattle.records.proofs.Arrays
use Rattle.records.proofs.Types.{row_none, base_low, base_added, base_is, same_width, same_kind, same_added}

-- ---- Files that opened before request (vii)

-- a record is read from what the pair named, by the definitions from before: a record of any kind, whatever its rules and its values are
pub record_as_before : (k : ℕ) (s bs : List ℕ) → OpenedBefore s bs → (tag ref : ℕ) (fault : List ℕ → ℕ) (answer : ℕ → List ℕ → Answer)
    → record_at k s (find s tag ref) fault answer
    ≡ on_sound k (λ p offset size. answer offset (part s offset size)) (sound_in fault s (plain_only (element_before s (find s tag ref))))
unfolding record_at
record_as_before k s bs before tag ref fault answer =
    ap (λ x. on_sound k (λ p offset size. answer offset (part s offset size)) (sound_in fault s (plain_only x))) (element_as_before s bs before tag ref)

-- ---- Number types

pub number_type_packs : (s : List ℕ) (ref : ℕ) (x : NumberType) → Bytes s → number_type_of s ref ≡ grant (number_type_values x)
    → PacksBack 0 (number_type_bytes x) (record_bytes s (find s number_type_tag ref))
unfolding number_type_of number_type_at number_type_bytes numbers read extent
number_type_packs s ref x b h =
    let g = record_granted 4 s number_type_tag ref number_type_fault _ (ap (λ a. a.number) h) in
    let e = content_at s g.0 in
    let values : numbers number_type e 0 ≡ number_type_values x = ap (λ a. a.values) (sym g.1.answers ∙ h) in
    packs_back _ _ _ refl
    (ap (λ xs. pack number_type xs 0) (sym values)
    ∙ content_packs number_type s g.0 b (sym (NumberTypes.sound_bytes e g.1.sound)) ∙ sym g.1.bytes)

module _ (x : NumberType) (version : x.version < 256) (code : x.code < 256) (width : x.width < 256) (class : x.class < 256) where
  number_type_fits : Fits number_type (number_type_values x) 0
  number_type_fits = (omega arith, version, (omega arith, code, (omega arith, width, (omega arith, class, refl))))

  pub number_type_reads : (s : List ℕ) (ref p : ℕ) → (open_of s).number ≡ 0 → find s number_type_tag ref ≡ hit p → extended_at s p ≡ false
      → content_at s p ≡ number_type_bytes x → number_type_of s ref ≡ grant (number_type_values x)
  unfolding number_type_of number_type_at number_type_bytes given
  number_type_reads s ref p opens found plain is =
      let long : length (content_at s p) ≡ 4 = ap length is ∙ NumberTypes.length_number_type x in
      (content_passes 4 s number_type_tag ref number_type_fault _ p opens found (content_stored s p (omega arith)) plain (NumberTypes.four_bytes _ long)).answers
      ∙ ap (λ y. grant (number_type_values y)) (packed_whole number_type (number_type_values x) number_type_fits _ is).read_is

-- ---- Dimensions

pub dimension_packs : (s : List ℕ) (tag ref : ℕ) (d : Dimension) → Bytes s → dimension_of s tag ref ≡ grant (dimension_values d)
    → PacksBack (dimension_pack_fault d) (dimension_bytes d) (record_bytes s (find s tag ref))
unfolding dimension_of dimension_at dimension_bytes numbers read extent
dimension_packs s tag ref d b h =
    let g = record_granted 8 s tag ref dimension_fault _ (ap (λ a. a.number) h) in
    let e = content_at s g.0 in
    let values : numbers dimension e 0 ≡ dimension_values d = ap (λ a. a.values) (sym g.1.answers ∙ h) in
    let interlace : be 2 e 14 ≡ d.interlace = ap (λ xs. get_or xs 5 0) values in
    packs_back _ _ _ (Dimensions.pack_passed d (rw interlace at (Dimensions.sound_interlace e g.1.sound)))
    (ap (λ xs. pack dimension xs 0) (sym values)
    ∙ content_packs dimension s g.0 b (sym (Dimensions.sound_bytes e g.1.sound)) ∙ sym g.1.bytes)

module _ (d : Dimension) (sound : dimension_pack_fault d ≡ 0) (x : d.x < 256 ^ 4) (y : d.y < 256 ^ 4)
    (type_tag : d.type_tag < 256 ^ 2) (type_ref : d.type_ref < 256 ^ 2) (elements : d.elements < 256 ^ 2)
    (compression_tag : d.compression_tag < 256 ^ 2) (compression_ref : d.compression_ref < 256 ^ 2) where
  dimension_fits : Fits dimension (dimension_values d) 0
  dimension_fits =
      (omega arith, x, (omega arith, y, (omega arith, type_tag, (omega arith, type_ref, (omega arith, elements, (omega arith, omega (arith, Dimensions.pack_sound d sound), (omega arith, compression_tag, (omega arith, compression_ref, refl))))))))

  pub dimension_reads : (s : List ℕ) (tag ref p : ℕ) → (open_of s).number ≡ 0 → find s tag ref ≡ hit p → extended_at s p ≡ false
      → content_at s p ≡ dimension_bytes d → dimension_of s tag ref ≡ grant (dimension_values d)
  unfolding dimension_of dimension_at dimension_bytes given read
  dimension_reads s tag ref p opens found plain is =
      let r = (packed_whole dimension (dimension_values d) dimension_fits _ is).read_is in
      let interlace : be 2 (content_at s p) 14 ≤ 2 = rw (ap (λ y. y.interlace) r) (Dimensions.pack_sound d sound) in
      let long : length (content_at s p) ≡ 20 = ap length is ∙ Dimensions.length_dimension d in
      (content_passes 8 s tag ref dimension_fault _ p opens found (content_stored s p (omega arith)) plain (Dimensions.whole_bytes _ long interlace)).answers
      ∙ ap (λ y. grant (dimension_values y)) r

-- ---- Arrays

pub array_packs : (s : List ℕ) (ref a b : ℕ) → Bytes s → (array_of s ref a b).number ≡ 0
    → let e = record_bytes s (find s array_tag ref) in let sizes = array_sizes e in let pairs = array_pairs e in
    PacksBack (array_pack_fault (length sizes) (length pairs)) (array_bytes sizes pairs) e
unfolding array_of array_at array_bytes
array_packs s ref a b bytes h =
    let g = record_granted 1 s array_tag ref array_fault _ h in
    let e = content_at s g.0 in
    rw g.1.bytes
    (packs_back _ _ _ (Arrays.own_passes e g.1.sound (content_bytes s g.0 bytes))
    (ap (λ xs. pack array xs 0) (sym (Arrays.array_numbers_lem e))
    ∙ content_packs array s g.0 bytes (Arrays.sound_extent e g.1.sound)))

module _ (sizes pairs : List ℕ) (sound : array_pack_fault (length sizes) (length pairs) ≡ 0) (small_sizes : Small 4 sizes) (small_pairs : Small 2 pairs) where
  pub array_reads : (s : List ℕ) (ref a b p : ℕ) → (open_of s).number ≡ 0 → find s array_tag ref ≡ hit p → extended_at s p ≡ false
      → content_at s p ≡ array_bytes sizes pairs → length sizes ≤ a → length pairs ≤ b
      → (array_of s ref a b ≡ grant (length sizes ∷ []))
      × (array_sizes (record_bytes s (find s array_tag ref)) ≡ sizes)
      × (array_pairs (record_bytes s (find s array_tag ref)) ≡ pairs)
  unfolding array_of array_at array_bytes read
  array_reads s ref a b p opens found plain is sizes_fit pairs_fit =
      let h = Arrays.pack_sound (length sizes) (length pairs) sound in
      let e = content_at s p in
      let fits = Arrays.array_fits sizes pairs h.2 (omega arith) small_sizes small_pairs in
      let are : numbers array e 0 ≡ length sizes ∷ (sizes ++ pairs) = (packed_whole array _ fits e is).numbers_are in
      let rank = Arrays.rank_of sizes pairs h.2 e are in
      let whole : length e ≡ 6 + 8 * be 2 e 0 = rw rank (ap length is ∙ Arrays.length_array sizes pairs h.2) in
      let pairs_room : 2 * (length sizes + 1) ≤ b = omega arith in
      let g = content_passes 1 s array_tag ref array_fault _ p opens found (content_stored s p (omega arith)) plain (Arrays.whole_bytes e whole (omega arith)) in (
        g.answers
            ∙ rw rank (in_room_enough 1 _ _ (and_both _ _ (le-leb _ _ sizes_fit) (le-leb _ _ pairs_room))),
        rw g.bytes (Arrays.sizes_of sizes pairs h.2 e are),
        rw g.bytes (Arrays.pairs_of sizes pairs h.2 e are),
      )

-- ---- Types

-- values of the type have so many bytes and are of this kind, high byte first; and with 16384 added to its code low byte first
abbrev pub HasType : ℕ → ℕ → Kind → Type 0
HasType code width kind =
    (width_of code ≡ width) × (kind_of code ≡ kind) × (byte_order_of code ≡ BigEndian)
    × (width_of (code + 16384) ≡ width) × (kind_of (code + 16384) ≡ kind) × (byte_order_of (code + 16384) ≡ LittleEndian)

-- 3, 4, 20, 21 one byte; 22, 23 two; 24, 25, 5 four; 6 eight; 20, 22, 24 signed; 5 and 6 floats; every other code is unknown
pub types_are :
    HasType 3 1 unsigned × HasType 4 1 unsigned × HasType 20 1 signed × HasType 21 1 unsigned
    × HasType 22 2 signed × HasType 23 2 unsigned
    × HasType 24 4 signed × HasType 25 4 unsigned × HasType 5 4 float
    × HasType 6 8 float
    × ((code : ℕ) → ((base : ℕ) → In base (3 ∷ 4 ∷ 20 ∷ 21 ∷ 22 ∷ 23 ∷ 24 ∷ 25 ∷ 5 ∷ 6 ∷ []) → (code ≡ base → ⊥) × (code ≡ base + 16384 → ⊥)) → width_of code ≡ 0)
unfolding base_type byte_order_of width_of kind_of row_of
types_are = (
  (refl, refl, refl, refl, refl, refl),
  (refl, refl, refl, refl, refl, refl),
  (refl, refl, refl, refl, refl, refl),
  (refl, refl, refl, refl, refl, refl),
  (refl, refl, refl, refl, refl, refl),
  (refl, refl, refl, refl, refl, refl),
  (refl, refl, refl, refl, refl, refl),
  (refl, refl, refl, refl, refl, refl),
  (refl, refl, refl, refl, refl, refl),
  (refl, refl, refl, refl, refl, refl),
  λ code z.
      row_none (base_type code) types (λ i.
      elim (base_is code) [ inl (e, o) ↦ (z (base_type code) i).0 e | inr (e, o) ↦ (z (base_type code) i).1 e ]),
)

-- a code below 16384 is what it was before the other byte order came
pub types_as_before : (code : ℕ) → code < 16384
    → (width_of code ≡ (row_of code types).width) × (kind_of code ≡ (row_of code types).kind) × (byte_order_of code ≡ BigEndian)
unfolding width_of kind_of
types_as_before code l =
    let b = base_low code l in
    (ap (λ k. (row_of k types).width) b.0, ap (λ k. (row_of k types).kind) b.0, b.1)

-- and with 16384 added it is the same type, low byte first
pub types_added : (code : ℕ) → code < 16384
    → (width_of (code + 16384) ≡ width_of code) × (kind_of (code + 16384) ≡ kind_of code) × (byte_order_of (code + 16384) ≡ LittleEndian)
types_added code l = let b = same_added code l in (same_width _ code b, same_kind _ code b, (base_added code).1)
