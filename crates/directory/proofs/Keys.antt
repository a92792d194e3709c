-- Slots that clash, from the first four bytes of each as one number. Assumes nothing.
use Prim.Native.Nat.{ℕ, zero, suc, ◌+◌, ◌*◌, ◌-◌, ◌/◌, ◌%◌, ◌≤◌, ◌<◌}
use native.Mathlib.Omega.{arith}
use mathlib.Core.Path.{◌≡◌, refl, sym, ap, ◌∙◌}
use mathlib.Core.Logic.{◌⊎◌, inl, inr}
use mathlib.Core.List.{List, [], ◌∷◌}
use mathlib.Core.Bool.{Bool, true, false, ◌||◌}
use lib.Dec.{ltb, eqb}
use borrow.Author.Tests.{ltb-true, ltb-false, eq-eqb, ne_eqb}
use Rattle.std.specs.List.{list_any, range_with_len}
use Rattle.answer.specs.Search.{any}
use Rattle.wire.specs.Numbers.{be, Bytes}
use Rattle.wire.specs.declared.ByteOrder.TheVariants.{BigEndian}
use Rattle.directory.specs.Slots.{tag_at, ref_at, base_tag, clash, element_fault, rows}
use Rattle.directory.specs.Steps.Keys.{Keyed, Based, mark_by, mark_at, is_either}
use Rattle.directory.specs.declared.key.Key.{Key}
use Rattle.answer.proofs.Tests.{test, same?, or_either, or_neither}
use Rattle.answer.proofs.Search.{any_here, any_later, any_nil}
use Rattle.wire.proofs.Numbers.{number_split, number_small}
use Rattle.directory.proofs.Slots.{base_below, base_above, base_between, clash_other, clash_lone, clash_reference, clash_apart, fault_free}

-- ---- Base tags

-- a tag is its own base tag, below the extended tags or above them, or it is an extended tag
base_cases : (tag : ℕ) → ((base_tag tag ≡ tag) × (tag < 16384)) ⊎ (((base_tag tag ≡ tag) × (32767 < tag)) ⊎ ((base_tag tag + 16384 ≡ tag) × (base_tag tag < 16384)))
base_cases tag =
    elim (test (ltb tag 16384)) [
      | inl t ↦ let h = ltb-true _ _ t in inl (base_below tag h, h)
      | inr t ↦
          let h = ltb-false _ _ t in
          elim (test (ltb 32767 tag)) [
            | inl u ↦ let k = ltb-true _ _ u in inr (inl (base_above tag k, k))
            | inr u ↦
                let k = ltb-false _ _ u in
                let e = base_between tag h k in
                inr (inr (omega arith, omega arith))
          ]
    ]

pub base_low : (tag : ℕ) → base_tag tag ≤ tag
base_low tag =
    elim (base_cases tag) [
      | inl h ↦ omega (arith, h.0)
      | inr t ↦ elim t [ inl h ↦ omega (arith, h.0) | inr h ↦ omega (arith, h.0) ]
    ]

base_base : (tag : ℕ) → base_tag (base_tag tag) ≡ base_tag tag
base_base tag =
    elim (base_cases tag) [
      | inl h ↦ ap base_tag h.0
      | inr t ↦ elim t [ inl h ↦ ap base_tag h.0 | inr h ↦ base_below (base_tag tag) h.1 ]
    ]

-- a live slot whose element breaks no rule has no base tag of a free slot
pub based : (s bs : List ℕ) (p : ℕ) → (tag_at s p ≡ 1 → ⊥) → element_fault s bs p 0 ≡ 0 → Based s p
based s bs p live element e =
    elim (base_cases (tag_at s p)) [
      | inl h ↦ live (sym h.0 ∙ e)
      | inr t ↦
          elim t [
            | inl h ↦ live (sym h.0 ∙ e)
            | inr h ↦
                let q : tag_at s p ≡ 16385 = omega (arith, h.0) in
                let z : ◌≡◌ {A = ℕ} 7 0 = sym (fault_free s bs p 0 q) ∙ element in
                omega arith
          ]
    ]

-- a tag and its base tag are equal modulo the first extended tag
base_modulo : (tag : ℕ) → tag % 16384 ≡ base_tag tag % 16384
base_modulo tag =
    elim (base_cases tag) [
      | inl h ↦ ap (λ x. x % 16384) (sym h.0)
      | inr t ↦ elim t [ inl h ↦ ap (λ x. x % 16384) (sym h.0) | inr h ↦ omega (arith, h.0) ]
    ]

-- the mark of a slot by its first four bytes
pub word_mark : (s : List ℕ) → Bytes s → (p n : ℕ) → n ≡ be 4 s p → (n / 65536 % 16384 * 40503 + n % 65536) % 65536 ≡ mark_at s p
unfolding mark_by
word_mark s bytes p n e =
    let own = number_split BigEndian 2 2 s p in
    let small = number_small BigEndian 2 s (p + 2) bytes in
    let tag : n / 65536 ≡ tag_at s p = omega arith in
    let reference : n % 65536 ≡ ref_at s p = omega arith in
    rw (tag, reference, base_modulo (tag_at s p)) refl

-- ---- A slot compared with one that has a key

module _ (s : List ℕ) (bytes : Bytes s) (p : ℕ) (k : Key) (w : Keyed s p k) (b : Based s p) (q : ℕ) where
  own : be 4 s q ≡ tag_at s q * 65536 + ref_at s q
  own = number_split BigEndian 2 2 s q

  small : ref_at s q < 65536
  small = number_small BigEndian 2 s (q + 2) bytes

  live : base_tag (tag_at s p) ≡ base_tag (tag_at s q) → tag_at s q ≡ 1 → ⊥
  live e h = b (e ∙ (ap base_tag h ∙ base_below 1 (omega arith)))

  lone_clash : k.kind ≡ 107 → eqb (base_tag (tag_at s q)) 107 ≡ clash s p q
  lone_clash l =
      let lone : base_tag (tag_at s p) ≡ 107 = sym w.kind ∙ l in
      elim (same? (base_tag (tag_at s q)) 107) [
        | inl e ↦ let same = lone ∙ sym e in eq-eqb _ _ e ∙ sym (clash_lone s p q (live same) same lone)
        | inr n ↦ ne_eqb _ _ n ∙ sym (clash_other s p q (λ e. n (sym e ∙ lone)))
      ]

  module _ (plain : k.kind ≡ 107 → ⊥) where
    same_clash : tag_at s q ≡ k.kind ⊎ ((tag_at s q ≡ k.kind + 16384) × (k.kind < 16384)) → ref_at s q ≡ k.reference → clash s p q ≡ true
    same_clash t r =
        let same : base_tag (tag_at s p) ≡ base_tag (tag_at s q) =
        elim t [
          | inl e ↦ sym (ap base_tag (e ∙ w.kind) ∙ base_base (tag_at s p))
          | inr e ↦ let u = base_between (tag_at s q) (omega (arith, e.0)) (omega (arith, e.0, e.1)) in omega (arith, w.kind, e.0)
        ] in
        clash_reference s p q (live same) same (λ h. plain (w.kind ∙ h)) ∙ eq-eqb _ _ (sym w.reference ∙ sym r)

    other_clash : (be 4 s q ≡ k.kind * 65536 + k.reference → ⊥) → (k.kind < 16384 → be 4 s q ≡ k.kind * 65536 + k.reference + 1073741824 → ⊥) → clash s p q ≡ false
    other_clash np nx =
        elim (same? (base_tag (tag_at s p)) (base_tag (tag_at s q))) [
          | inr n ↦ clash_other s p q n
          | inl e ↦
              clash_apart s p q (λ h. plain (w.kind ∙ h))
              (λ r.
              elim (base_cases (tag_at s q)) [
                | inl h ↦ np (omega (arith, w.kind, w.reference, h.0, own))
                | inr t ↦
                    elim t [
                      | inl h ↦ np (omega (arith, w.kind, w.reference, h.0, own))
                      | inr h ↦ nx (omega (arith, w.kind, h.1)) (omega (arith, w.kind, w.reference, h.0, own))
                    ]
              ])
        ]

    -- the two numbers of a base tag below the extended tags
    pub low_clash : k.kind < 16384 → is_either s (k.kind * 65536 + k.reference) (k.kind * 65536 + k.reference + 1073741824) q ≡ clash s p q
    low_clash h =
        elim (same? (be 4 s q) (k.kind * 65536 + k.reference)) [
          | inl e ↦ or_either _ _ (inl (eq-eqb _ _ e)) ∙ sym (same_clash (inl (omega (arith, w.small, own, small))) (omega (arith, w.small, own, small)))
          | inr n ↦
              elim (same? (be 4 s q) (k.kind * 65536 + k.reference + 1073741824)) [
                | inl e ↦ or_either (eqb (be 4 s q) (k.kind * 65536 + k.reference)) _ (inr (eq-eqb _ _ e)) ∙ sym (same_clash (inr (omega (arith, w.small, own, small), h)) (omega (arith, w.small, own, small)))
                | inr m ↦ or_neither _ _ (ne_eqb (be 4 s q) (k.kind * 65536 + k.reference) n) (ne_eqb (be 4 s q) (k.kind * 65536 + k.reference + 1073741824) m) ∙ sym (other_clash n (λ l. m))
              ]
        ]

    -- the one number of a base tag above them
    pub high_clash : 16384 ≤ k.kind → is_either s (k.kind * 65536 + k.reference) (k.kind * 65536 + k.reference) q ≡ clash s p q
    high_clash h =
        elim (same? (be 4 s q) (k.kind * 65536 + k.reference)) [
          | inl e ↦ or_either _ _ (inl (eq-eqb _ _ e)) ∙ sym (same_clash (inl (omega (arith, w.small, own, small))) (omega (arith, w.small, own, small)))
          | inr n ↦ or_neither _ _ (ne_eqb _ _ n) (ne_eqb _ _ n) ∙ sym (other_clash n (λ l. absurd (omega arith)))
        ]

-- ---- A search through the slots of a block

any_same : (f g : ℕ → Bool) → ((x : ℕ) → f x ≡ g x) → (l : List ℕ) → any f l ≡ any g l
unfolding any
any_same f g h [] = refl
any_same f g h (x ∷ l) = rw (h x, any_same f g h l)

module _ (f : ℕ → Bool) where
  pub rows_end : (q left : ℕ) → left ≤ 0 → any f (rows q left) ≡ false
  unfolding rows
  rows_end q left h = let e : left ≡ 0 = omega arith in ap (λ n. any f (rows q n)) e ∙ any_nil f

  -- a search from slot i on
  module _ (q count i : ℕ) (more : i < count) where
    step : rows (q + 12 * i) (count - i) ≡ (q + 12 * i) ∷ rows (q + 12 * (i + 1)) (count - (i + 1))
    unfolding rows
    step =
        let n : count - i ≡ suc (count - (i + 1)) = omega arith in
        let next : q + 12 * i + 12 ≡ q + 12 * (i + 1) = omega arith in
        ap (rows (q + 12 * i)) n ∙ ap (λ p. (q + 12 * i) ∷ rows p (count - (i + 1))) next

    pub rows_hit : f (q + 12 * i) ≡ true → any f (rows (q + 12 * i) (count - i)) ≡ true
    rows_hit h = rw step (any_here f _ _ h)

    pub rows_next : f (q + 12 * i) ≡ false → any f (rows (q + 12 * i) (count - i)) ≡ any f (rows (q + 12 * (i + 1)) (count - (i + 1)))
    rows_next h = rw step (any_later f _ _ h)

  pub rows_first : (q count : ℕ) → any f (rows (q + 12 * 0) (count - 0)) ≡ any f (rows q count)
  rows_first q count = let first : q + 12 * 0 ≡ q = omega arith in let n : count - 0 ≡ count = omega arith in rw (first, n) refl

  -- a search by the number of the slot
  rows_from : (q i n : ℕ) → list_any (λ k. f (q + 12 * k)) (range_with_len i n) ≡ any f (rows (q + 12 * i) n)
  unfolding rows any
  rows_from q i zero = refl
  rows_from q i (suc n) =
      let next : q + 12 * (i + 1) ≡ q + 12 * i + 12 = omega arith in
      ap (λ b. f (q + 12 * i) || b) (rows_from q (i + 1) n ∙ ap (λ p. any f (rows p n)) next)

  pub rows_any : (q n : ℕ) → list_any (λ k. f (q + 12 * k)) (range_with_len 0 n) ≡ any f (rows q n)
  rows_any q n = let first : q + 12 * 0 ≡ q = omega arith in rows_from q 0 n ∙ ap (λ p. any f (rows p n)) first

module _ (s : List ℕ) (bytes : Bytes s) (p : ℕ) (k : Key) (w : Keyed s p k) (b : Based s p) (l : List ℕ) where
  pub lone_among : k.kind ≡ 107 → any (λ q. eqb (base_tag (tag_at s q)) 107) l ≡ any (clash s p) l
  lone_among h = any_same _ _ (λ q. lone_clash s bytes p k w b q h) l

  module _ (plain : k.kind ≡ 107 → ⊥) where
    pub low_among : k.kind < 16384 → any (is_either s (k.kind * 65536 + k.reference) (k.kind * 65536 + k.reference + 1073741824)) l ≡ any (clash s p) l
    low_among h = any_same _ _ (λ q. low_clash s bytes p k w b q plain h) l

    pub high_among : 16384 ≤ k.kind → any (is_either s (k.kind * 65536 + k.reference) (k.kind * 65536 + k.reference)) l ≡ any (clash s p) l
    high_among h = any_same _ _ (λ q. high_clash s bytes p k w b q plain h) l
