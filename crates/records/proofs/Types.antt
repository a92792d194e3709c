-- Number types by their codes: 16384 taken off, then a row of the table at a time. Assumes nothing.
use Prim.Native.Nat.{ℕ, ◌+◌, ◌-◌, ◌<◌, ◌≤◌}
use native.Mathlib.Omega.{arith}
use mathlib.Core.Path.{◌≡◌, refl, sym, ap, subst, ◌∙◌}
use mathlib.Core.Logic.{◌↔◌, ◌⊎◌, inl, inr}
use mathlib.Core.List.{List, [], ◌∷◌}
use mathlib.Core.Bool.{true}
use Rattle.std.specs.Prelude.{None}
use lib.Dec.{leb}
use borrow.Author.Tests.{eq-eqb, ne_eqb, leb-true, leb-false, le-leb, lt-leb}
use Rattle.answer.specs.Search.{In}
use Rattle.answer.proofs.Tests.{test, same?}
use Rattle.wire.specs.declared.ByteOrder.{ByteOrder}
use Rattle.wire.specs.declared.ByteOrder.TheVariants.{BigEndian, LittleEndian}
use Rattle.records.specs.Types.{unsigned, TypeRow, types, row_of, row_found, base_type, byte_order_of, width_of, kind_of, TypeIs, type_3, type_4, type_20, type_21, type_22, type_23, type_24, type_25, type_5, type_6, CodeIs, big_endian, little_endian, KnownType}

-- ---- A table

row_here : (code : ℕ) (r : TypeRow) (rs : List TypeRow) → code ≡ r.code → row_of code (r ∷ rs) ≡ r
unfolding row_of
row_here code r rs e = simp (row_of, eq-eqb _ _ e)

row_later : (code : ℕ) (r : TypeRow) (rs : List TypeRow) → (code ≡ r.code → ⊥) → row_of code (r ∷ rs) ≡ row_of code rs
unfolding row_of
row_later code r rs h = simp (row_of, ne_eqb _ _ h)

row_past : (code : ℕ) → row_of code [] ≡ row_found code None
unfolding row_of
row_past code = refl

-- what holds of each row that has the code, and of a type that no row has
abbrev pub Each : (TypeRow → Type 0) → ℕ → List TypeRow → Type 0
Each P code [] = P (record { code = code; width = 0; kind = unsigned })
Each P code (r ∷ rs) = (code ≡ r.code → P r) × Each P code rs

pub row_is : (P : TypeRow → Type 0) (code : ℕ) (rs : List TypeRow) → Each P code rs → P (row_of code rs)
unfolding row_of
row_is P code [] h = h
row_is P code (r ∷ rs) h =
    elim (same? code r.code) [
      | inl e ↦ rw (row_here code r rs e) (h.0 e)
      | inr n ↦ rw (row_later code r rs n) (row_is P code rs h.1)
    ]

-- a type that no row has
abbrev codes_of : List TypeRow → List ℕ
codes_of [] = []
codes_of (r ∷ rs) = r.code ∷ codes_of rs

pub row_none : (code : ℕ) (rs : List TypeRow) → (In code (codes_of rs) → ⊥) → (row_of code rs).width ≡ 0
unfolding row_of
row_none code [] h = refl
row_none code (r ∷ rs) h = ap (λ x. x.width) (row_later code r rs (λ q. h (inl q))) ∙ row_none code rs (λ i. h (inr i))

-- ---- 16384, taken off once

pub base_high : (code : ℕ) → 16384 ≤ code → (base_type code ≡ code - 16384) × (byte_order_of code ≡ LittleEndian)
unfolding base_type byte_order_of
base_high code h = let t = le-leb 16384 code h in (rw (base_type, t), rw (byte_order_of, t))

pub base_low : (code : ℕ) → code < 16384 → (base_type code ≡ code) × (byte_order_of code ≡ BigEndian)
unfolding base_type byte_order_of
base_low code h = let t = lt-leb 16384 code h in (rw (base_type, t), rw (byte_order_of, t))

pub base_added : (code : ℕ) → (base_type (code + 16384) ≡ code) × (byte_order_of (code + 16384) ≡ LittleEndian)
base_added code = let b = base_high (code + 16384) (omega arith) in (b.0 ∙ omega arith, b.1)

-- a code is its type's own, or that with 16384 added, and this tells its byte order
pub base_is : (code : ℕ) → ((code ≡ base_type code) × (byte_order_of code ≡ BigEndian)) ⊎ ((code ≡ base_type code + 16384) × (byte_order_of code ≡ LittleEndian))
base_is code =
    elim (test (leb 16384 code)) [
      | inl h ↦ let l = leb-true 16384 code h in let b = base_high code l in inr (omega (arith, b.0), b.1)
      | inr h ↦ let b = base_low code (leb-false 16384 code h) in inl (sym b.0, b.1)
    ]

-- what depends on a code's type alone is the same where the type is
pub same_width : (code other : ℕ) → base_type code ≡ base_type other → width_of code ≡ width_of other
unfolding width_of
same_width code other e = ap (λ k. (row_of k types).width) e

pub same_kind : (code other : ℕ) → base_type code ≡ base_type other → kind_of code ≡ kind_of other
unfolding kind_of
same_kind code other e = ap (λ k. (row_of k types).kind) e

-- with 16384 added it is
pub same_added : (code : ℕ) → code < 16384 → base_type (code + 16384) ≡ base_type code
same_added code l = (base_added code).0 ∙ sym (base_low code l).0

-- a type by its own code
pub width_by : (code base own : ℕ) → base ≡ base_type code → base ≡ own → width_of code ≡ (row_of own types).width
unfolding width_of
width_by code base own is e = ap (λ k. (row_of k types).width) (sym is ∙ e)

pub kind_by : (code base own : ℕ) → base ≡ base_type code → base ≡ own → kind_of code ≡ (row_of own types).kind
unfolding kind_of
kind_by code base own is e = ap (λ k. (row_of k types).kind) (sym is ∙ e)

-- ---- The types: 3, 4, 20, 21, 22, 23, 24, 25, 5, 6, and every other

pub row_unknown : (code base : ℕ) → base ≡ base_type code → (base ≡ 3 → ⊥) → (base ≡ 4 → ⊥) → (base ≡ 20 → ⊥) → (base ≡ 21 → ⊥) → (base ≡ 22 → ⊥) → (base ≡ 23 → ⊥)
    → (base ≡ 24 → ⊥) → (base ≡ 25 → ⊥) → (base ≡ 5 → ⊥) → (base ≡ 6 → ⊥) → row_found (base_type code) None ≡ row_of (base_type code) types
row_unknown code base is a b c d e f g h i j =
    let later = row_later base in
    rw (← is) (sym
    (later _ _ a ∙ later _ _ b ∙ later _ _ c ∙ later _ _ d ∙ later _ _ e ∙ later _ _ f ∙ later _ _ g ∙ later _ _ h ∙ later _ _ i ∙ later _ _ j ∙ row_past base))

pub kind_unsigned : (code base : ℕ) → base ≡ base_type code → (base ≡ 20 → ⊥) → (base ≡ 22 → ⊥) → (base ≡ 24 → ⊥) → (base ≡ 5 → ⊥) → (base ≡ 6 → ⊥)
    → kind_of code ≡ unsigned
kind_unsigned code base is a b c d e =
    kind_by code base base is refl
    ∙ row_is (λ r. r.kind ≡ unsigned) base types (
      (λ q. refl),
      (
        (λ q. refl),
        (
          (λ q. absurd (a q)),
          (
            (λ q. refl),
            (
              (λ q. absurd (b q)),
              (
                (λ q. refl),
                ((λ q. absurd (c q)), ((λ q. refl), ((λ q. absurd (d q)), ((λ q. absurd (e q)), refl)))),
              ),
            ),
          ),
        ),
      ),
    )

-- ---- The types as facts

pub type_once : {code kind width other also : ℕ} → TypeIs code kind width → TypeIs code other also → (kind ≡ other) × (width ≡ also)
type_once type_3 type_3 = (refl, refl)
type_once type_4 type_4 = (refl, refl)
type_once type_20 type_20 = (refl, refl)
type_once type_21 type_21 = (refl, refl)
type_once type_22 type_22 = (refl, refl)
type_once type_23 type_23 = (refl, refl)
type_once type_24 type_24 = (refl, refl)
type_once type_25 type_25 = (refl, refl)
type_once type_5 type_5 = (refl, refl)
type_once type_6 type_6 = (refl, refl)

-- the table has them
type_row : {code kind width : ℕ} → TypeIs code kind width → ((row_of code types).width ≡ width) × (1 ≤ width) × (code < 16384)
unfolding row_of
type_row type_3 = (refl, omega arith, omega arith)
type_row type_4 = (refl, omega arith, omega arith)
type_row type_20 = (refl, omega arith, omega arith)
type_row type_21 = (refl, omega arith, omega arith)
type_row type_22 = (refl, omega arith, omega arith)
type_row type_23 = (refl, omega arith, omega arith)
type_row type_24 = (refl, omega arith, omega arith)
type_row type_25 = (refl, omega arith, omega arith)
type_row type_5 = (refl, omega arith, omega arith)
type_row type_6 = (refl, omega arith, omega arith)

-- and no others
type_known : (code : ℕ) → 1 ≤ (row_of code types).width → (kind : ℕ) × (width : ℕ) × TypeIs code kind width
type_known code =
    row_is (λ r. 1 ≤ r.width → (kind : ℕ) × (width : ℕ) × TypeIs code kind width) code types (
      (λ q l. (2, 1, rw q type_3)),
      (
        (λ q l. (2, 1, rw q type_4)),
        (
          (λ q l. (1, 1, rw q type_20)),
          (
            (λ q l. (2, 1, rw q type_21)),
            (
              (λ q l. (1, 2, rw q type_22)),
              (
                (λ q l. (2, 2, rw q type_23)),
                (
                  (λ q l. (1, 4, rw q type_24)),
                  ((λ q l. (2, 4, rw q type_25)), ((λ q l. (3, 4, rw q type_5)), ((λ q l. (4, 8, rw q type_6)), λ l. absurd (omega arith)))),
                ),
              ),
            ),
          ),
        ),
      ),
    )

-- ---- The codes as facts

pub code_once : {code kind width other also : ℕ} {order own : ByteOrder} → CodeIs code order kind width → CodeIs code own other also
    → (order ≡ own) × (kind ≡ other) × (width ≡ also)
code_once (big_endian t) (big_endian u) = let s = type_once t u in (refl, s.0, s.1)
code_once (big_endian t) (little_endian e u) = absurd (omega (arith, (type_row t).2))
code_once (little_endian e t) (big_endian u) = absurd (omega (arith, (type_row u).2))
code_once (little_endian {base = b} e t) (little_endian {base = d} f u) =
    let same : d ≡ b = omega arith in
    let s = type_once t (rw same at u) in
    (refl, s.0, s.1)

pub code_is : {code kind width : ℕ} {order : ByteOrder} → CodeIs code order kind width → (width_of code ≡ width) × (1 ≤ width) × (byte_order_of code ≡ order)
unfolding width_of
code_is {code} (big_endian t) = let r = type_row t in let b = base_low code r.2 in (ap (λ k. (row_of k types).width) b.0 ∙ r.0, r.1, b.1)
code_is (little_endian {base = k} e t) =
    let r = type_row t in let b = base_added k in
    rw e (ap (λ k. (row_of k types).width) b.0 ∙ r.0, r.1, b.1)

-- a big_endian one is its type's own
pub big_endian_low : {code kind width : ℕ} → CodeIs code BigEndian kind width → code < 16384
big_endian_low (big_endian t) = (type_row t).2

-- a code by the facts of its type's own
pub code_of : (code kind width : ℕ) → TypeIs (base_type code) kind width → CodeIs code (byte_order_of code) kind width
code_of code kind width t =
    elim (base_is code) [
      | inl (own, order) ↦ rw order (big_endian (subst (λ k. TypeIs k kind width) (sym own) t))
      | inr (added, order) ↦ rw order (little_endian added t)
    ]

code_known : (code : ℕ) → 1 ≤ width_of code → KnownType code
unfolding width_of
code_known code l = let t = type_known (base_type code) l in (byte_order_of code, t.0, t.1, code_of code _ _ t.2)

pub known_is : (code : ℕ) → (leb 1 (width_of code) ≡ true) ↔ KnownType code
known_is code = ((λ b. code_known code (leb-true _ _ b)), (λ k. let w = code_is k.3 in le-leb 1 (width_of code) (rw w.0 w.1)))
