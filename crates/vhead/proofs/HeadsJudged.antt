-- Laws of the rules of fields: judging them one by one, what they tell of a field, sums of lengths, and that the byte order of a type does not count. Assumes nothing.
use Prim.Native.Nat.{ℕ, suc, ◌+◌, ◌*◌, ◌-◌, ◌<◌, ◌≤◌, zero}
use native.Mathlib.Nat.{mul-le-mul, zero-add}
use native.Mathlib.Omega.{arith}
use native.Mathlib.Numerals.{add-one}
use mathlib.Core.Path.{◌≡◌, refl, sym, ap, ◌∙◌, subst}
use mathlib.Core.List.{List, [], ◌∷◌}
use mathlib.Core.Bool.{Bool, true, false, ◌&&◌}
use mathlib.Core.Logic.{inl, inr}
use lib.ListN.{length, get_or, drop}
use lib.Seq.{drop-cons}
use lib.Dec.{leb, eqb}
use borrow.Author.Tests.{eqb-true, leb-true}
use Rattle.std.specs.Prelude.{sum}
use Rattle.std.proofs.lemmas.List.Sums.{sum_by-cons}
use Rattle.answer.proofs.Tests.{zero?, and_split}
use Rattle.answer.proofs.Search.{passed}
use Rattle.records.specs.Types.{width_of}
use Rattle.records.proofs.Types.{same_width}
use Rattle.vhead.specs.Heads.{fields_from, ordered, typed, sized, fields_fault}
use Rattle.vhead.specs.HeadRules.{Alike}
use Rattle.vhead.specs.Steps.{judge, judge_all, verdict}
use Rattle.vhead.specs.declared.field.Numbers.{Numbers}
use Rattle.vhead.specs.declared.head.Judged.{Judged}

-- what a field has to say of its size is no large number
pub size_low : (order width : ℕ) → order < 65536 → width ≤ 8 → order * width ≤ 524288
size_low order width h w = let le : order ≤ 65536 = omega arith in mul-le-mul le w

-- ---- Tests in order

and_assoc : (a b c : Bool) → (a && b) && c ≡ a && (b && c)
and_assoc true b c = refl
and_assoc false b c = refl

and_true : (a : Bool) → a && true ≡ a
and_true true = refl
and_true false = refl

-- ---- All fields

orders_all : (j : Judged) (fs : List Numbers) → (judge_all j fs).orders ≡ j.orders && ordered fs
unfolding judge_all ordered
orders_all j [] = sym (and_true j.orders)
orders_all j (f ∷ fs) = orders_all (judge j f) fs ∙ and_assoc j.orders (leb 1 f.order) (ordered fs)

types_all : (j : Judged) (fs : List Numbers) → (judge_all j fs).types ≡ j.types && typed fs
unfolding judge_all typed
types_all j [] = sym (and_true j.types)
types_all j (f ∷ fs) = types_all (judge j f) fs ∙ and_assoc j.types (leb 1 (width_of f.code)) (typed fs)

sizes_all : (size : ℕ) (j : Judged) (fs : List Numbers)
    → (judge_all j fs).sizes && eqb size (judge_all j fs).sum ≡ j.sizes && sized size j.sum fs
unfolding judge_all sized
sizes_all size j [] = refl
sizes_all size j (f ∷ fs) =
    sizes_all size (judge j f) fs
    ∙ and_assoc j.sizes (eqb f.size (f.order * width_of f.code) && eqb f.offset j.sum) (sized size (j.sum + f.size) fs)

-- before the first field
abbrev pub fresh : Judged
fresh = record { orders = true; types = true; sizes = true; sum = 0 }

pub verdict_all : (size : ℕ) (fs : List Numbers) → verdict (judge_all fresh fs) size ≡ fields_fault size fs
unfolding verdict fields_fault
verdict_all size fs = rw (orders_all fresh fs, types_all fresh fs, sizes_all size fresh fs)

-- ---- A field more

-- so many of so many fields are judged: judging those that are left gives the whole
pub record Judges (field : ℕ → Numbers) (count : ℕ) (j : Judged) (i : ℕ) : Type 0 where
  pub upto : i ≤ count
  pub low : j.sum ≤ 65536 * i
  pub left : judge_all j (fields_from field (count - i) i) ≡ judge_all fresh (fields_from field count 0)

module _ (field : ℕ → Numbers) (count : ℕ) where
  pub judges_start : Judges field count fresh 0
  judges_start =
      let z : count - 0 ≡ count = omega arith in
      record { upto = omega arith; low = omega arith; left = ap (λ n. judge_all fresh (fields_from field n 0)) z }

  module _ (j : Judged) (i : ℕ) (w : Judges field count j i) where
    pub judges_next : i < count → (f : Numbers) → f ≡ field i → f.size < 65536 → (k : Judged) → k ≡ judge j f → Judges field count k (i + 1)
    unfolding judge_all fields_from
    judges_next h f is small k q =
        let m : count - i ≡ suc (count - (i + 1)) = omega arith in
        rw q (record { upto = omega arith; low = omega arith; left = rw is (ap (λ n. judge_all j (fields_from field n i)) (sym m) ∙ w.left) })

    pub judges_done : count ≤ i → (size : ℕ) → verdict j size ≡ fields_fault size (fields_from field count 0)
    unfolding judge_all fields_from
    judges_done h size =
        let m : count - i ≡ 0 = omega arith in
        ap (λ k. verdict k size) (ap (λ n. judge_all j (fields_from field n i)) (sym m) ∙ w.left) ∙ verdict_all size (fields_from field count 0)

-- ---- What the rules tell of a field

-- the sum of the sizes before a field, and its own, are no more than the record size
sum_low : (rs sum : ℕ) (field : ℕ → Numbers) (n i : ℕ) → sized rs sum (fields_from field n i) ≡ true → sum ≤ rs
unfolding sized fields_from
sum_low rs sum field zero i q = omega (arith, eqb-true rs sum q)
sum_low rs sum field (suc n) i q =
    let f = field i in
    let a = and_split (eqb f.size (f.order * width_of f.code) && eqb f.offset sum) (sized rs (sum + f.size) (fields_from field n (i + 1))) q in
    omega (arith, sum_low rs (sum + f.size) field n (i + 1) a.1)

-- a field among them
pub record Sized (rs : ℕ) (f : Numbers) : Type 0 where
  pub size : f.size ≡ f.order * width_of f.code
  pub inside : f.offset + f.size ≤ rs

field_sized : (rs sum : ℕ) (field : ℕ → Numbers) (n i k : ℕ) → sized rs sum (fields_from field n i) ≡ true → k < n → Sized rs (field (i + k))
unfolding sized fields_from
field_sized rs sum field zero i k q l = absurd (omega arith)
field_sized rs sum field (suc n) i k q l =
    let f = field i in
    let a = and_split (eqb f.size (f.order * width_of f.code) && eqb f.offset sum) (sized rs (sum + f.size) (fields_from field n (i + 1))) q in
    let b = and_split (eqb f.size (f.order * width_of f.code)) (eqb f.offset sum) a.0 in
    elim (zero? k) [
      | inl z ↦
          let here : i ≡ i + k = omega arith in
          ap_sized here (record {
            size = eqb-true _ _ b.0;
            inside = omega (arith, eqb-true f.offset sum b.1, sum_low rs (sum + f.size) field n (i + 1) a.1);
          })
      | inr m ↦
          let there : i + 1 + m.0 ≡ i + k = omega (arith, m.1) in
          ap_sized there (field_sized rs (sum + f.size) field n (i + 1) m.0 a.1 (omega (arith, m.1)))
    ]
  where
    ap_sized : {j l : ℕ} → j ≡ l → Sized rs (field j) → Sized rs (field l)
    ap_sized p x = subst (λ j. Sized rs (field j)) p x

field_typed : (field : ℕ → Numbers) (n i k : ℕ) → typed (fields_from field n i) ≡ true → k < n → 1 ≤ width_of (field (i + k)).code
unfolding typed fields_from
field_typed field zero i k q l = absurd (omega arith)
field_typed field (suc n) i k q l =
    let a = and_split (leb 1 (width_of (field i).code)) (typed (fields_from field n (i + 1))) q in
    elim (zero? k) [
      | inl z ↦ let here : i ≡ i + k = omega arith in subst (λ j. 1 ≤ width_of (field j).code) here (leb-true _ _ a.0)
      | inr m ↦
          let there : i + 1 + m.0 ≡ i + k = omega (arith, m.1) in
          subst (λ j. 1 ≤ width_of (field j).code) there (field_typed field n (i + 1) m.0 a.1 (omega (arith, m.1)))
    ]

-- a field of those that break no rule
pub sound_typed : (rs : ℕ) (field : ℕ → Numbers) (n i : ℕ) → fields_fault rs (fields_from field n 0) ≡ 0 → i < n → 1 ≤ width_of (field i).code
unfolding fields_fault
sound_typed rs field n i z l =
    let o = passed _ 14 _ z in
    let t = passed _ 15 _ o.1 in
    subst (λ k. 1 ≤ width_of (field k).code) (zero-add i) (field_typed field n 0 i t.0 l)

pub sound_sized : (rs : ℕ) (field : ℕ → Numbers) (n i : ℕ) → fields_fault rs (fields_from field n 0) ≡ 0 → i < n → Sized rs (field i)
unfolding fields_fault
sound_sized rs field n i z l =
    let o = passed _ 14 _ z in
    let t = passed _ 15 _ o.1 in
    let s = passed _ 14 _ t.1 in
    subst (λ k. Sized rs (field k)) (zero-add i) (field_sized rs 0 field n 0 i s.0 l)

-- ---- Sums of lengths

-- that of a list of a first and the rest
pub sum_first : (n : ℕ) (ns : List ℕ) → sum (n ∷ ns) ≡ n + sum ns
sum_first n ns = sum_by-cons (λ x. x) n ns

pub sum_next : (lengths : List ℕ) (i : ℕ) → i < length lengths → sum (drop i lengths) ≡ get_or lengths i 0 + sum (drop (i + 1) lengths)
sum_next lengths i h = rw (add-one, drop-cons lengths i 0 h) (sum_first (get_or lengths i 0) (drop (suc i) lengths))

-- ---- Types of either byte order

judge_alike : (j : Judged) (f g : Numbers) → Alike f g → judge j f ≡ judge j g
judge_alike j f g a = rw (same_width f.code g.code a.type, a.size, a.offset, a.order)

judged_alike : (f g : ℕ → Numbers) (n i : ℕ) (j : Judged) → ((k : ℕ) → i ≤ k → k < i + n → Alike (f k) (g k))
    → judge_all j (fields_from f n i) ≡ judge_all j (fields_from g n i)
unfolding judge_all fields_from
judged_alike f g zero i j h = refl
judged_alike f g (suc n) i j h =
    ap (λ k. judge_all k (fields_from f n (i + 1))) (judge_alike j (f i) (g i) (h i (omega arith) (omega arith)))
    ∙ judged_alike f g n (i + 1) (judge j (g i)) (λ k l u. h k (omega arith) (omega arith))

pub fields_alike : (f g : ℕ → Numbers) (size n : ℕ) → ((i : ℕ) → i < n → Alike (f i) (g i))
    → fields_fault size (fields_from f n 0) ≡ fields_fault size (fields_from g n 0)
fields_alike f g size n h =
    sym (verdict_all size (fields_from f n 0))
    ∙ ap (λ j. verdict j size) (judged_alike f g n 0 fresh (λ k l u. h k (omega arith)))
    ∙ verdict_all size (fields_from g n 0)
