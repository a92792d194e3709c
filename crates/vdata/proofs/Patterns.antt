-- Laws of the values of patterns: the pattern of a type's value, NaNs, signed numbers in 64 bits, and the bits and the kind of a value. Assumes nothing.
use Prim.Native.Nat.{ℕ, ◌<◌, ◌≤◌, ◌*◌, ◌%◌, zero, suc, ◌+◌, ◌^◌, ◌-◌}
use native.Mathlib.Omega.{arith}
use native.Mathlib.Nat.{add-zero, mod-eq_of_lt, mul-suc, mul-add-mod_self_left}
use mathlib.Core.Path.{◌≡◌, ◌∙◌, refl, sym, ap, subst}
use mathlib.Core.List.{List}
use lib.ListN.{length}
use mathlib.Core.Bool.{true, false, Bool, cond, not}
use mathlib.Core.Logic.{inl, inr}
use lib.Ieee.{Format, ones, hid, top, of_bits, to_bits, nan_bits, binary32, binary64}
use lib.Ieee.Bits.{nan_bits_above, to_bits-of_bits, nan_bits_is}
use lib.Dec.{ltb, leb, eqb, T}
use lib.IntN.{pos, negsuc, ◌-ℤ◌}
use borrow.Author.Tests.{lt-ltb, le-ltb, le-leb, lt-leb, leb-true, leb-false}
use Rattle.wire.specs.Numbers.{number_in, part, Bytes}
use Rattle.wire.proofs.Numbers.{number_small, number_part}
use Rattle.std.proofs.lemmas.Grind.{common_steps}
use Rattle.answer.proofs.Tests.{test}
use Rattle.records.specs.Types.{Kind, base_type, byte_order_of, width_of, kind_of, signed, unsigned, float, TypeRow, types, row_of}
use Rattle.records.proofs.Types.{width_by, kind_by, row_is}
use Rattle.vdata.specs.Patterns.{value_by, value_at, signed_by, float32, float64, value_kind, value_bits, kind_number, type_kind}
use Rattle.vdata.specs.Steps.{extended, Splits}

-- ---- The value of a type

-- a value is told by its own bytes alone
pub value_of_bytes : (code : ℕ) (v : List ℕ) (at : ℕ) → at + width_of code ≤ length v → value_at code v at ≡ value_at code (part v at (width_of code)) 0
unfolding value_at
value_of_bytes code v at l =
    let n = number_in (byte_order_of code) (width_of code) in
    ap (value_by (kind_of code) (width_of code))
    (sym (number_part (byte_order_of code) (width_of code) v at (width_of code) 0 (omega arith) l ∙ ap (n v) (add-zero at)))

-- ---- Whether a pattern is a NaN's, by the test that the code makes

pub is_nan : (f : Format) (n : ℕ) → ones f * hid f < n % top f → nan_bits f n ≡ true
is_nan f n h = nan_bits_above f n ∙ lt-ltb _ _ h

pub is_number : (f : Format) (n : ℕ) → n % top f ≤ ones f * hid f → nan_bits f n ≡ false
is_number f n h = nan_bits_above f n ∙ le-ltb _ _ h

-- ---- The bits of a value

-- a float's, where it is no NaN
number_bits : (f : Format) (n : ℕ) → n < 2 * top f → nan_bits f n ≡ false → to_bits f (of_bits f n) ≡ n
number_bits f n h e = to_bits-of_bits f n h (subst (λ (b : Bool). T (not b)) (sym (sym (nan_bits_is f n) ∙ e)) tt)

pub bits32 : (n : ℕ) → n < 4294967296 → value_bits (float32 n) ≡ n
unfolding float32
bits32 n h = elim (test (nan_bits binary32 n)) [ inl e ↦ rw (float32, e) | inr e ↦ rw (float32, e) (number_bits binary32 n h e) ]

pub bits64 : (n : ℕ) → n < 18446744073709551616 → value_bits (float64 n) ≡ n
unfolding float64
bits64 n h = elim (test (nan_bits binary64 n)) [ inl e ↦ rw (float64, e) | inr e ↦ rw (float64, e) (number_bits binary64 n h e) ]

pub kind32 : (n : ℕ) → value_kind (float32 n) ≡ 3
unfolding float32
kind32 n = elim (test (nan_bits binary32 n)) [ inl e ↦ rw (float32, e) | inr e ↦ rw (float32, e) ]

pub kind64 : (n : ℕ) → value_kind (float64 n) ≡ 4
unfolding float64
kind64 n = elim (test (nan_bits binary64 n)) [ inl e ↦ rw (float64, e) | inr e ↦ rw (float64, e) ]

-- a negative number: the pattern below a whole, in two's complement of 64 bits
below : (n k : ℕ) → n < suc k → pos n -ℤ pos (suc k) ≡ negsuc (k - n)
below n k h =
    let d : suc k - suc n ≡ k - n = omega arith in
    ap (λ b. cond b (negsuc (suc k - suc n)) (pos (n - suc k))) (lt-ltb n (suc k) h) ∙ ap negsuc d

pub kind_signed : (n whole : ℕ) → value_kind (signed_by n whole) ≡ 1
unfolding signed_by
kind_signed n whole = elim (test (ltb (2 * n) whole)) [ inl e ↦ rw (signed_by, e) | inr e ↦ rw (signed_by, e) ]

-- the lower half of the patterns are themselves, the upper half lie below 0
pub signed_low : (n whole : ℕ) → 2 * n < whole → value_bits (signed_by n whole) ≡ n
unfolding signed_by
signed_low n whole h = rw (signed_by, lt-ltb _ _ h)

pub signed_high : (n k : ℕ) → n < suc k → suc k ≤ 2 * n → k < 18446744073709551616 → value_bits (signed_by n (suc k)) + suc k ≡ n + 18446744073709551616
unfolding signed_by
signed_high n k h l m = rw (signed_by, le-ltb _ _ l, below n k h) (omega arith)

-- the lower bytes of a signed number's bits, where as many patterns as there are divide 64 bits
signed_bits : (n k times : ℕ) → n < suc k → suc k * times ≡ 18446744073709551616 → value_bits (signed_by n (suc k)) % suc k ≡ n
unfolding signed_by
signed_bits n k times h whole =
    elim (test (ltb (2 * n) (suc k))) [
      | inl e ↦ rw (signed_by, e) (mod-eq_of_lt h)
      | inr e ↦ rw (signed_by, e, below n k h) (low times whole)
    ]
  where
    low : (t : ℕ) → suc k * t ≡ 18446744073709551616 → (18446744073709551615 - (k - n)) % suc k ≡ n
    low zero q = absurd (omega arith)
    low (suc t) q =
        let m : suc k * suc t ≡ suc k * t + suc k = mul-suc (suc k) t in
        let a : 18446744073709551615 - (k - n) ≡ suc k * t + n = omega arith in
        ap (λ x. x % suc k) a ∙ mul-add-mod_self_left (suc k) t n ∙ mod-eq_of_lt h

-- what holds of the patterns of a row of the table: whole bits, or the lower bytes of a signed number's
abbrev pub Exact : TypeRow → Type 0
Exact r =
    (n : ℕ) → n < 256 ^ r.width
    → let bits = value_bits (value_by r.kind r.width n) in (bits % 256 ^ r.width ≡ n) × ((r.kind ≡ signed → ⊥) → bits ≡ n)

exact_unsigned : (code width : ℕ) → Exact (record { code = code; width = width; kind = unsigned })
unfolding value_by
exact_unsigned code width n small = (mod-eq_of_lt small, λ z. refl)

exact_signed : (code width k times : ℕ) → 256 ^ width ≡ suc k → suc k * times ≡ 18446744073709551616 → Exact (record { code = code; width = width; kind = signed })
unfolding value_by
exact_signed code width k times e q n small =
    (ap (λ m. value_bits (signed_by n m) % m) e ∙ signed_bits n k times (subst (λ m. n < m) e small) q, λ z. absurd (z refl))

exact_float32 : (code : ℕ) → Exact (record { code = code; width = 4; kind = float })
unfolding value_by
exact_float32 code n small = let b = bits32 n small in (ap (λ m. m % 4294967296) b ∙ mod-eq_of_lt small, λ z. b)

exact_float64 : (code : ℕ) → Exact (record { code = code; width = 8; kind = float })
unfolding value_by
exact_float64 code n small = let b = bits64 n small in (ap (λ m. m % 18446744073709551616) b ∙ mod-eq_of_lt small, λ z. b)

exact_row : (base : ℕ) → Exact (row_of base types)
exact_row base =
    row_is Exact base types (
      (λ q. exact_unsigned 3 1),
      (
        (λ q. exact_unsigned 4 1),
        (
          (λ q. exact_signed 20 1 255 72057594037927936 refl refl),
          (
            (λ q. exact_unsigned 21 1),
            (
              (λ q. exact_signed 22 2 65535 281474976710656 refl refl),
              (
                (λ q. exact_unsigned 23 2),
                (
                  (λ q. exact_signed 24 4 4294967295 4294967296 refl refl),
                  ((λ q. exact_unsigned 25 4), ((λ q. exact_float32 5), ((λ q. exact_float64 6), exact_unsigned base 0))),
                ),
              ),
            ),
          ),
        ),
      ),
    )

-- of the value of a type among bytes
module _ (code : ℕ) (v : List ℕ) (bytes : Bytes v) (at : ℕ) where
  pub exact : let n = number_in (byte_order_of code) (width_of code) v at in let bits = value_bits (value_at code v at) in
      (bits % 256 ^ width_of code ≡ n) × ((kind_of code ≡ signed → ⊥) → bits ≡ n)
  unfolding width_of kind_of value_at
  exact = exact_row (base_type code) _ (number_small (byte_order_of code) (width_of code) v at bytes)

-- ---- The kind of a type's values

kind_by_type : (kind : Kind) (width n : ℕ) → value_kind (value_by kind width n) ≡ kind_number kind width
unfolding value_by kind_number
kind_by_type signed width n = kind_signed n (256 ^ width)
kind_by_type unsigned width n = refl
kind_by_type float width n = elim (test (eqb width 8)) [ inl e ↦ rw (value_by, kind_number, e) (kind64 n) | inr e ↦ rw (value_by, kind_number, e) (kind32 n) ]

pub kind_is : (code : ℕ) (v : List ℕ) (at : ℕ) → value_kind (value_at code v at) ≡ type_kind code
unfolding value_at type_kind
kind_is code v at = kind_by_type (kind_of code) (width_of code) (number_in (byte_order_of code) (width_of code) v at)

-- ---- The bits of a value by its pattern

extended_low : (most n : ℕ) → n ≤ most → extended most n ≡ n
unfolding extended
extended_low most n h = rw (extended, le-leb n most h)

extended_high : (most n : ℕ) → most < n → extended most n ≡ n + (18446744073709551614 - 2 * most)
unfolding extended
extended_high most n h = rw (extended, lt-leb n most h)

-- a signed type's, by the half of its patterns
pub splits_signed : (code base own : ℕ) → base ≡ base_type code → base ≡ own → (row_of own types).kind ≡ signed → (most : ℕ) → 256 ^ (row_of own types).width ≡ suc (2 * most + 1)
    → most ≤ 2147483647 → Splits code most
unfolding value_by
splits_signed code base own is e kind most whole low =
    let w : 256 ^ width_of code ≡ suc (2 * most + 1) = ap (λ k. 256 ^ k) (width_by code base own is e) ∙ whole in
    let k : kind_of code ≡ signed = kind_by code base own is e ∙ kind in
    record {
      room = λ n h l m. (omega (arith, w), low);
      bits = λ n h l. rw k (rw w (elim (test (leb n most)) [
        | inl t ↦ let m = leb-true n most t in signed_low n (suc (2 * most + 1)) (omega arith) ∙ sym (extended_low most n m)
        | inr t ↦
            let m : most < n = leb-false n most t in
            omega (arith, signed_high n (2 * most + 1) (omega (arith, w)) (omega arith) (omega arith), extended_high most n m)
      ]));
    }

-- every other's
kind_apart : (base : ℕ) → (base ≡ 20 → ⊥) → (base ≡ 22 → ⊥) → (base ≡ 24 → ⊥) → (row_of base types).kind ≡ signed → ⊥
unfolding row_of
kind_apart base a b c e = grind (arith, common_steps)

pub splits_others : (code base : ℕ) → base ≡ base_type code → (base ≡ 20 → ⊥) → (base ≡ 22 → ⊥) → (base ≡ 24 → ⊥) → Splits code 18446744073709551615
unfolding width_of kind_of
splits_others code base is a b c =
    let z = kind_apart (base_type code) (λ q. a (is ∙ q)) (λ q. b (is ∙ q)) (λ q. c (is ∙ q)) in
    record {
      room = λ n h l m. absurd (omega arith);
      bits = λ n h l. (exact_row (base_type code) n l).1 z ∙ sym (extended_low 18446744073709551615 n (omega arith));
    }
