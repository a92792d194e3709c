-- Laws of a value as facts: the types by their table, its bits by its most significant byte, where it lies, and that the facts tell it. Assumes nothing.
use Prim.Native.Nat.{ℕ, suc, ◌+◌, ◌*◌, ◌-◌, ◌^◌, ◌<◌, ◌≤◌}
use native.Mathlib.Nat.{mul-le-mul_right, pow-succ'}
use native.Mathlib.Omega.{arith}
use mathlib.Core.Path.{◌≡◌, refl, sym, ap, ◌∙◌, subst}
use mathlib.Core.Logic.{inl, inr}
use mathlib.Core.List.{List}
use lib.ListN.{length, get_or}
use lib.Dec.{ltb}
use borrow.Author.Tests.{ltb-true, ltb-false, lt-ltb, leb-true, le-leb}
use Rattle.answer.specs.Search.{Hit}
use Rattle.answer.proofs.Tests.{test, same?, zero?}
use Rattle.wire.specs.Numbers.{high_at, low_at, number_in, Bytes}
use Rattle.wire.specs.declared.ByteOrder.{ByteOrder}
use Rattle.directory.specs.Lookup.{find}
use Rattle.wire.proofs.Numbers.{number_split, number_small, number_one}
use Rattle.records.specs.Types.{signed, unsigned, float, TypeRow, types, row_of, base_type, byte_order_of, width_of, kind_of, TypeIs, type_3, type_4, type_20, type_21, type_22, type_23, type_24, type_25, type_5, type_6, CodeIs}
use Rattle.records.specs.Readings.{record_bytes}
use Rattle.records.proofs.Types.{row_is, code_of, code_once}
use Rattle.records.proofs.RecordRules.{By, by_done, by_must, by_rest, by_plain, by_record}
use Rattle.vhead.specs.Heads.{head_fault, field_at, fields_of, fields_fault}
use Rattle.vhead.specs.HeadRules.{records_of, record_size_of, field_count, order_of, head_rules}
use Rattle.vhead.specs.declared.head.Head.{Head}
use Rattle.vhead.specs.declared.field.Numbers.{Numbers}
use Rattle.vhead.proofs.Heads.{placed, head_is}
use Rattle.vhead.proofs.HeadsRead.{head_passed}
use Rattle.vhead.proofs.HeadRules.{by_head}
use Rattle.vhead.proofs.HeadsJudged.{sound_typed, sound_sized}
use Rattle.vdata.specs.Patterns.{signed_by, value_by, value_at, value_kind, value_bits}
use Rattle.vdata.specs.Values.{field_fault, index_fault, place_of, values_fault, value_in, value_after, value_found, value_of}
use Rattle.vdata.specs.ValueRules.{Indexed, LiesAt, top_byte, BitsAre, ValueIs, after_rules, value_rules}
use Rattle.vdata.proofs.Patterns.{bits32, bits64, kind32, kind64, kind_signed, signed_low, signed_high}
use Rattle.vdata.proofs.Values.{place_records, place_fields, lies}

-- ---- Bits by the most significant byte

module _ (byte_order : ByteOrder) (v : List ℕ) (bytes : Bytes v) (at k : ℕ) where
  abbrev top : ℕ
  top = get_or v (high_at byte_order k at) 0

  abbrev rest : ℕ
  rest = number_in byte_order k v (low_at byte_order 1 at)

  by_top : number_in byte_order (1 + k) v at ≡ top * 256 ^ k + rest
  by_top = number_split byte_order 1 k v at ∙ ap (λ b. b * 256 ^ k + rest) (number_one byte_order v (high_at byte_order k at))

  byte_more : 256 ^ (1 + k) ≡ 256 * 256 ^ k
  byte_more = let z : 1 + k ≡ suc k = omega arith in ap (λ j. 256 ^ j) z ∙ pow-succ' 256 k

  -- below 128 the pattern is in the lower half of all, from there on in the upper one
  low_half : top < 128 → 2 * number_in byte_order (1 + k) v at < 256 ^ (1 + k)
  low_half h =
      let most : top * 256 ^ k ≤ 127 * 256 ^ k = mul-le-mul_right (256 ^ k) (omega arith) in
      omega (arith, by_top, byte_more, number_small byte_order k v (low_at byte_order 1 at) bytes)

  high_half : 128 ≤ top → 256 ^ (1 + k) ≤ 2 * number_in byte_order (1 + k) v at
  high_half h =
      let least : 128 * 256 ^ k ≤ top * 256 ^ k = mul-le-mul_right (256 ^ k) h in
      omega (arith, by_top, byte_more)

  bits_signed : (m : ℕ) → 256 ^ (1 + k) ≡ suc m → m < 18446744073709551616
      → BitsAre byte_order 1 (1 + k) v at (value_bits (signed_by (number_in byte_order (1 + k) v at) (256 ^ (1 + k))))
  bits_signed m whole small =
      let n = number_in byte_order (1 + k) v at in
      let others : 1 + k - 1 ≡ k = omega arith in
      let is : top_byte byte_order (1 + k) v at ≡ top = ap (λ j. get_or v (high_at byte_order j at) 0) others in
      record {
        exact = λ z. absurd (z refl);
        positive = λ q h. signed_low n (256 ^ (1 + k)) (low_half (omega (arith, is, h)));
        negative = λ q h.
            let inside : n < suc m = omega (arith, number_small byte_order (1 + k) v at bytes) in
            let upper : suc m ≤ 2 * n = omega (arith, high_half (omega (arith, is, h))) in
            rw whole (signed_high n m inside upper small);
      }

-- ---- Types

module _ (byte_order : ByteOrder) (v : List ℕ) (bytes : Bytes v) (at : ℕ) where
  bits_exact : (kind width bits : ℕ) → (kind ≡ 1 → ⊥) → bits ≡ number_in byte_order width v at → BitsAre byte_order kind width v at bits
  bits_exact kind width bits z e = record { exact = λ q. e; positive = λ q. absurd (z q); negative = λ q. absurd (z q) }

  abbrev pattern : ℕ → ℕ
  pattern width = number_in byte_order width v at

  -- a value by a row of the table has the kind, the width and the bits of its type
  abbrev Told : ℕ → TypeRow → Type 0
  Told code r =
      let x = value_by r.kind r.width (pattern r.width) in
      1 ≤ r.width → TypeIs code (value_kind x) r.width × BitsAre byte_order (value_kind x) r.width v at (value_bits x)

  module _ (code own : ℕ) where
    told_unsigned : (width : ℕ) → TypeIs code 2 width → Told code (record { code = own; width = width; kind = unsigned })
    unfolding value_by
    told_unsigned width t l = (t, bits_exact 2 width _ (λ z. omega arith) refl)

    told_signed : (k m : ℕ) → TypeIs code 1 (1 + k) → 256 ^ (1 + k) ≡ suc m → m < 18446744073709551616
        → Told code (record { code = own; width = 1 + k; kind = signed })
    unfolding value_by
    told_signed k m t whole small l = rw (kind_signed (pattern (1 + k)) (256 ^ (1 + k))) (t, bits_signed byte_order v bytes at k m whole small)

    told_float32 : TypeIs code 3 4 → Told code (record { code = own; width = 4; kind = float })
    unfolding value_by
    told_float32 t l = rw (kind32 (pattern 4)) (t, bits_exact 3 4 _ (λ z. omega arith) (bits32 (pattern 4) (number_small byte_order 4 v at bytes)))

    told_float64 : TypeIs code 4 8 → Told code (record { code = own; width = 8; kind = float })
    unfolding value_by
    told_float64 t l = rw (kind64 (pattern 8)) (t, bits_exact 4 8 _ (λ z. omega arith) (bits64 (pattern 8) (number_small byte_order 8 v at bytes)))

  told : (code : ℕ) → Told code (row_of code types)
  told code =
      row_is (Told code) code types (
        (λ q. told_unsigned code 3 1 (rw q type_3)),
        (
          (λ q. told_unsigned code 4 1 (rw q type_4)),
          (
            (λ q. told_signed code 20 0 255 (rw q type_20) refl (omega arith)),
            (
              (λ q. told_unsigned code 21 1 (rw q type_21)),
              (
                (λ q. told_signed code 22 1 65535 (rw q type_22) refl (omega arith)),
                (
                  (λ q. told_unsigned code 23 2 (rw q type_23)),
                  (
                    (λ q. told_signed code 24 3 4294967295 (rw q type_24) refl (omega arith)),
                    (
                      (λ q. told_unsigned code 25 4 (rw q type_25)),
                      ((λ q. told_float32 code 5 (rw q type_5)), ((λ q. told_float64 code 6 (rw q type_6)), λ l. absurd (omega arith))),
                    ),
                  ),
                ),
              ),
            ),
          ),
        ),
      )

-- by a code
pub value_told : (v : List ℕ) → Bytes v → (at code : ℕ) → 1 ≤ width_of code → let x = value_at code v at in
    CodeIs code (byte_order_of code) (value_kind x) (width_of code) × BitsAre (byte_order_of code) (value_kind x) (width_of code) v at (value_bits x)
unfolding width_of kind_of value_at
value_told v bytes at code l =
    let t = told (byte_order_of code) v bytes at (base_type code) l in
    (code_of code _ (width_of code) t.0, t.1)

-- ---- A value in the bytes of a head that breaks no rule

module _ (e : List ℕ) (sound : head_fault e ≡ 0) (r i c : ℕ) (there : Indexed e r i c) where
  abbrev h : Head
  h = placed e

  abbrev f : Numbers
  f = field_at e h i

  fields_sound : fields_fault h.record_size (fields_of e h) ≡ 0
  fields_sound = rw head_is at (head_passed e sound).fields

  -- it lies among the bytes of all records
  pub lies_inside : place_of h f r c + width_of f.code ≤ records_of e * record_size_of e
  lies_inside =
      lies h f r c (sound_sized h.record_size (field_at e h) h.fields i fields_sound there.field_there) there.record_there there.component_there

  pub lies_there : LiesAt e r i c (width_of f.code) (place_of h f r c)
  lies_there =
      let interlace : h.interlace ≤ 1 = rw head_is at (head_passed e sound).interlace in
      elim (zero? h.interlace) [
        | inl z ↦ inl (z, sym (place_records h f r c z))
        | inr m ↦ inr (omega (arith, m.1), sym (place_fields h f r c (λ z. omega (arith, m.1))))
      ]

  pub type_known : 1 ≤ width_of f.code
  type_known = sound_typed h.record_size (field_at e h) h.fields i fields_sound there.field_there

  pub facts_hold : (v : List ℕ) → Bytes v → records_of e * record_size_of e ≤ length v
      → let x = value_in e v r i c in ValueIs e v r i c (value_kind x) (value_bits x)
  unfolding value_in
  facts_hold v bytes whole =
      let t = value_told v bytes (place_of h f r c) f.code type_known in
      rw (head_is e) (record {
        byte_order = byte_order_of f.code;
        width = width_of f.code;
        place = place_of h f r c;
        indexed = there;
        type_is = t.0;
        lies = lies_there;
        inside = omega (arith, lies_inside);
        bits_are = t.1;
      })

-- ---- The facts tell the value

pub lies_once : (e : List ℕ) (r i c width at also : ℕ) → LiesAt e r i c width at → LiesAt e r i c width also → at ≡ also
lies_once e r i c width at also (inl x) (inl y) = x.1 ∙ sym y.1
lies_once e r i c width at also (inl x) (inr y) = absurd (omega (arith, x.0, y.0))
lies_once e r i c width at also (inr x) (inl y) = absurd (omega (arith, x.0, y.0))
lies_once e r i c width at also (inr x) (inr y) = x.1 ∙ sym y.1

bits_once : (byte_order : ByteOrder) (kind width : ℕ) (v : List ℕ) (at bits also : ℕ) → BitsAre byte_order kind width v at bits
    → BitsAre byte_order kind width v at also → bits ≡ also
bits_once byte_order kind width v at bits also x y =
    elim (same? kind 1) [
      | inr z ↦ x.exact z ∙ sym (y.exact z)
      | inl q ↦ elim (test (ltb (top_byte byte_order width v at) 128)) [
        | inl l ↦ let h = ltb-true _ _ l in x.positive q h ∙ sym (y.positive q h)
        | inr l ↦ let h : 128 ≤ top_byte byte_order width v at = ltb-false _ _ l in omega (arith, x.negative q h, y.negative q h)
      ]
    ]

pub value_once : (e v : List ℕ) (r i c kind bits other also : ℕ) → ValueIs e v r i c kind bits → ValueIs e v r i c other also → (kind ≡ other) × (bits ≡ also)
value_once e v r i c kind bits other also x y =
    let t = code_once x.type_is y.type_is in
    let o : y.byte_order ≡ x.byte_order = sym t.0 in
    let w : y.width ≡ x.width = sym t.2 in
    let place : y.place ≡ x.place = sym (lies_once e r i c x.width x.place y.place x.lies (rw w at y.lies)) in
    let same : BitsAre x.byte_order kind x.width v x.place also =
    subst (λ k. BitsAre x.byte_order k x.width v x.place also) (sym t.1) (rw (o, w, place) at y.bits_are) in
    (t.1, bits_once x.byte_order kind x.width v x.place bits also x.bits_are same)

-- ---- A value goes by its rules

after_by : (s e : List ℕ) (values : Hit) (r i c : ℕ) → By 2 (after_rules s e values r i c) (value_after s e values r i c)
unfolding value_after index_fault field_fault values_fault
after_by s e values r i c =
    let h = head_is e in
    let all = records_of e * record_size_of e in
    let v = record_bytes s values in
    by_must 2 0 _ _ _ _ _ _ (rw h (ltb-true r (records_of e), lt-ltb r (records_of e))) (λ a.
    by_must 2 0 _ _ _ _ _ _ (rw h (ltb-true i (field_count e), lt-ltb i (field_count e))) (λ b.
    by_must 2 0 _ _ _ _ _ _ (rw h (ltb-true c (order_of e i), lt-ltb c (order_of e i))) (λ d.
    by_rest 2 0 _ _ (by_plain 2 s values _ _ _ (λ o.
    by_must 2 _ _ _ _ _ _ _ (rw h (leb-true all (length v), le-leb all (length v))) (λ l.
    by_rest 2 _ _ _ (by_done 2 _ refl)))))))

pub value_by_lem : (s : List ℕ) (ref r i c : ℕ) → By 2 (value_rules s ref r i c) (value_of s ref r i c)
unfolding value_of value_found
value_by_lem s ref r i c =
    by_record 2 s 1962 ref head_fault _ (λ p e. head_rules p e (after_rules s e (find s 1963 ref) r i c)) (λ p o e. by_head 2 p e _ _ (after_by s e (find s 1963 ref) r i c))
