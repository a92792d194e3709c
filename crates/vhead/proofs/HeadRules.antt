-- A head goes by its rules: the tests of its fields as facts about each of them, and its fault as the number of the first rule that is broken.
-- Assumes nothing.
use Prim.Native.Nat.{ℕ, zero, suc, ◌+◌, ◌*◌, ◌<◌, ◌≤◌}
use native.Mathlib.Nat.{add-zero, zero-add}
use native.Mathlib.Omega.{arith}
use native.Mathlib.Numerals.{add-one}
use mathlib.Core.Path.{◌≡◌, refl, sym, ap, ◌∙◌, subst}
use mathlib.Core.Logic.{◌↔◌, inl, inr}
use mathlib.Core.List.{List, [], ◌∷◌}
use mathlib.Core.Bool.{Bool, true, ◌&&◌}
use lib.ListN.{length}
use lib.Dec.{leb, eqb}
use borrow.Author.Tests.{leb-true, le-leb, eqb-true, eq-eqb}
use Rattle.answer.specs.Answer.{Answer, unless}
use Rattle.answer.specs.Rules.{Rules}
use Rattle.answer.proofs.Tests.{same?, and_split, and_both}
use Rattle.answer.proofs.Rules.{Below}
use Rattle.wire.specs.Layouts.{extent}
use Rattle.records.specs.Types.{width_of, KnownType}
use Rattle.records.specs.Readings.{within}
use Rattle.records.proofs.Types.{code_is, known_is}
use Rattle.records.proofs.RecordRules.{By, by_must, by_rest}
use Rattle.vhead.specs.Heads.{head, head_in, field_at, fields_from, ordered, typed, sized, fields_fault, head_fault}
use Rattle.vhead.specs.HeadRules.{interlace_of, record_size_of, field_count, type_of, size_of, order_of, sizes_before, Measured, head_rules}
use Rattle.vhead.specs.declared.field.Numbers.{Numbers}
use Rattle.vhead.proofs.Heads.{placed, head_is, head_ends}

-- ---- Each of so many fields

-- what holds of so many, from an index on: of the first and of those after it
abbrev From : (ℕ → Type 0) → ℕ → ℕ → Type 0
From P n i = (j : ℕ) → i ≤ j → j < i + n → P j

from_first : (P : ℕ → Type 0) (n i : ℕ) → (P i × From P n (i + 1)) ↔ From P (suc n) i
from_first P n i = (
  (λ h j a b. elim (same? j i) [ inl e ↦ subst P (sym e) h.0 | inr z ↦ h.1 j (omega arith) (omega arith) ]),
  (λ h. (h i (omega arith) (omega arith), λ j a b. h j (omega arith) (omega arith))),
)

-- a test of one field after the other
module _ (test : Numbers → Bool) (all : List Numbers → Bool) (none : all [] ≡ true) (more : (f : Numbers) (fs : List Numbers) → all (f ∷ fs) ≡ test f && all fs)
    (Holds : Numbers → Type 0) (is : (f : Numbers) → (test f ≡ true) ↔ Holds f) (field : ℕ → Numbers) where
  each_from : (n i : ℕ) → (all (fields_from field n i) ≡ true) ↔ From (λ j. Holds (field j)) n i
  unfolding fields_from
  each_from zero i = ((λ e j a b. absurd (omega arith)), (λ h. none))
  each_from (suc n) i =
      let rest = each_from n (i + 1) in
      let first = from_first (λ j. Holds (field j)) n i in
      let t = test (field i) in
      let ts = all (fields_from field n (i + 1)) in (
        (λ e. let h = and_split t ts (sym (more _ _) ∙ e) in first.0 ((is _).0 h.0, rest.0 h.1)),
        (λ h. let k = first.1 h in more _ _ ∙ and_both t ts ((is _).1 k.0) (rest.1 k.1)),
      )

  each_field : (n : ℕ) → (all (fields_from field n 0) ≡ true) ↔ ((i : ℕ) → i < n → Holds (field i))
  each_field n = let h = each_from n 0 in ((λ e i l. h.0 e i (omega arith) (omega arith)), (λ k. h.1 (λ j a b. k j (omega arith))))

module _ (field : ℕ → Numbers) (n : ℕ) where
  ordered_is : (ordered (fields_from field n 0) ≡ true) ↔ ((i : ℕ) → i < n → 1 ≤ (field i).order)
  unfolding ordered
  ordered_is = each_field (λ f. leb 1 f.order) ordered refl (λ f fs. refl) (λ f. 1 ≤ f.order) (λ f. (leb-true _ _, le-leb _ _)) field n

  typed_is : (typed (fields_from field n 0) ≡ true) ↔ ((i : ℕ) → i < n → KnownType (field i).code)
  unfolding typed
  typed_is = each_field (λ f. leb 1 (width_of f.code)) typed refl (λ f fs. refl) (λ f. KnownType f.code) (λ f. known_is f.code) field n

-- sizes and offsets, with the sum of the sizes before each field
module _ (rs : ℕ) (field : ℕ → Numbers) (sum : ℕ → ℕ) (next : (i : ℕ) → sum (i + 1) ≡ sum i + (field i).size) where
  abbrev Follows : ℕ → Type 0
  Follows i = ((field i).size ≡ (field i).order * width_of (field i).code) × ((field i).offset ≡ sum i)

  sized_from : (n i : ℕ) → (sized rs (sum i) (fields_from field n i) ≡ true) ↔ (From Follows n i × (rs ≡ sum (i + n)))
  unfolding fields_from sized
  sized_from zero i = (
    (λ e. ((λ j a b. absurd (omega arith)), eqb-true rs (sum i) e ∙ ap sum (sym (add-zero i)))),
    (λ h. eq-eqb rs (sum i) (h.1 ∙ ap sum (add-zero i))),
  )
  sized_from (suc n) i =
      let f = field i in
      let size = eqb f.size (f.order * width_of f.code) in
      let offset = eqb f.offset (sum i) in
      let after = sized rs (sum i + f.size) (fields_from field n (i + 1)) in
      let rest = sized_from n (i + 1) in
      let first = from_first Follows n i in
      let last : i + 1 + n ≡ i + suc n = omega arith in (
        (λ e.
            let a = and_split (size && offset) after e in
            let b = and_split size offset a.0 in
            let r = rest.0 (rw (next i) a.1) in
            (first.0 ((eqb-true _ _ b.0, eqb-true _ _ b.1), r.0), r.1 ∙ ap sum last)),
        (λ h.
            let k = first.1 h.0 in
            and_both (size && offset) after (and_both size offset (eq-eqb _ _ k.0.0) (eq-eqb _ _ k.0.1))
            (rw (next i) at (rest.1 (k.1, h.1 ∙ ap sum (sym last))))),
      )

-- ---- The tests of a head

module _ (e : List ℕ) where
  abbrev numbers_in : ℕ → Numbers
  numbers_in i = field_at e (placed e) i

  sizes_next : (i : ℕ) → sizes_before e (i + 1) ≡ sizes_before e i + size_of e i
  unfolding sizes_before
  sizes_next i = rw add-one

  -- the sizes, where every type is known
  sizes_are : ((i : ℕ) → i < field_count e → KnownType (type_of e i))
      → (sized (record_size_of e) 0 (fields_from numbers_in (field_count e) 0) ≡ true)
      ↔ (((i : ℕ) → i < field_count e → Measured e i) × (record_size_of e ≡ sizes_before e (field_count e)))
  unfolding sizes_before
  sizes_are known =
      let n = field_count e in
      let t = sized_from (record_size_of e) numbers_in (sizes_before e) sizes_next n 0 in
      let upto = zero-add n in (
        (λ b. let h = t.0 b in (
          (λ i l. let f = h.0 i (omega arith) (omega arith) in record {
            size = λ byte_order kind width x. f.0 ∙ ap (λ w. order_of e i * w) (code_is x).0;
            offset = f.1;
          }),
          h.1 ∙ ap (sizes_before e) upto,
        )),
        (λ h. t.1 (
          (λ i a l.
              let m = h.0 i (omega arith) in
              let k = known i (omega arith) in
              (m.size _ _ _ k.3 ∙ ap (λ w. order_of e i * w) (sym (code_is k.3).0), m.offset)),
          h.1 ∙ ap (sizes_before e) (sym upto),
        )),
      )

  within_is : (within head e ≡ true) ↔ ((head_in e).tail.end ≤ length e)
  within_is = (
    (λ b. omega (arith, head_ends e, leb-true (extent head e 0) (length e) b)),
    (λ l. le-leb (extent head e 0) (length e) (omega (arith, head_ends e))),
  )

-- ---- Its fault by its rules, and then those after them

pub by_head : (k p : ℕ) (e : List ℕ) (a : Answer) (rest : Rules) → By k rest a → By k (head_rules p e rest) (unless k (head_fault e) p a)
unfolding head_fault fields_fault
by_head k p e a rest g =
    let h = head_is e in
    by_must k p _ _ _ _ _ _ (within_is e) (λ long.
    by_must k p _ _ _ _ _ _ (eqb-true _ _, eq-eqb _ _) (λ version.
    by_must k p _ _ _ _ _ _ (rw h (leb-true (interlace_of e) 1, le-leb (interlace_of e) 1)) (λ interlace.
    by_must k p _ _ _ _ _ _ (rw h (leb-true (field_count e) 256, le-leb (field_count e) 256)) (λ few.
    by_must k p _ _ _ _ _ _ (rw h (ordered_is (numbers_in e) (field_count e))) (λ orders.
    by_must k p _ _ _ _ _ _ (rw h (typed_is (numbers_in e) (field_count e))) (λ known.
    by_must k p _ _ _ _ _ _ (rw h (sizes_are e known)) (λ measured.
    by_rest k p a rest g)))))))

-- none of its rules has a number of 29 or past it
pub head_below : (p : ℕ) (e : List ℕ) (rest : Rules) → Below 29 rest → Below 29 (head_rules p e rest)
head_below p e rest b = (omega arith, (omega arith, (omega arith, (omega arith, (omega arith, (omega arith, (omega arith, b)))))))
