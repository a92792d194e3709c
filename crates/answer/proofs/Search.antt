-- Rules in order, and searches through a list. Assumes nothing.
use Prim.Native.Nat.{ℕ, zero, suc, ◌+◌, ◌≤◌, ◌<◌}
use native.Mathlib.Nat.{suc-ne-zero}
use native.Mathlib.Omega.{arith}
use native.Mathlib.Numerals.{add-one}
use mathlib.Core.Path.{◌≡◌, refl, ap, ◌∙◌}
use mathlib.Core.Logic.{◌↔◌, inl, inr}
use mathlib.Core.List.{List, [], ◌∷◌, ◌++◌}
use mathlib.Core.Bool.{Bool, true, false, ◌&&◌, false≢true, true≢false}
use lib.ListN.{length, get_or, take, drop, drop_of_length-le}
use lib.Seq.{drop-cons, get_or-take, length-take-le}
use Rattle.answer.specs.Search.{must, any, hit, miss, first, keep, In}
use Rattle.answer.proofs.Tests.{on_true, on_false, picks, or_split, or_clear, or_neither, test, not_both}

-- ---- A list of rules

pub must_holds : (b : Bool) (n x : ℕ) → b ≡ true → must b n x ≡ x
unfolding must
must_holds true n x e = refl
must_holds false n x e = absurd (false≢true e)

pub must_fails : (b : Bool) (n x : ℕ) → b ≡ false → must b n x ≡ n
unfolding must
must_fails false n x e = refl
must_fails true n x e = absurd (true≢false e)

-- two tests with one number
pub must_and : (a b : Bool) (n x : ℕ) → must (a && b) n x ≡ must a n (must b n x)
unfolding must
must_and true b n x = refl
must_and false b n x = refl

-- what holds of both holds of what it gives
pub must_either : (P : ℕ → Type 0) (b : Bool) (n x : ℕ) → P n → P x → P (must b n x)
unfolding must
must_either P true n x h k = k
must_either P false n x h k = h

-- a list of rules that gives 0
pub passed : (b : Bool) (n x : ℕ) → must b (suc n) x ≡ 0 → (b ≡ true) × (x ≡ 0)
unfolding must
passed true n x e = (refl, e)
passed false n x e = absurd (suc-ne-zero n e)

pub pass : (b : Bool) (n x : ℕ) → b ≡ true → x ≡ 0 → must b n x ≡ 0
unfolding must
pass true n x e q = q
pass false n x e q = absurd (false≢true e)

-- ---- A search through the first n places of a list, as a loop does it

module _ (l : List ℕ) (n i : ℕ) (h : i < n) (le : n ≤ length l) where
  pub scan_next : drop i (take n l) ≡ get_or l i 0 ∷ drop (i + 1) (take n l)
  scan_next =
      let m : i < length (take n l) = rw (length-take-le n l le) h in
      rw (add-one, drop-cons (take n l) i 0 m, get_or-take n l i 0 h)

  pub scan_hit : (f : ℕ → Bool) → f (get_or l i 0) ≡ true → any f (drop i (take n l)) ≡ true
  unfolding any
  scan_hit f e = rw (scan_next, e)

  pub scan_miss : (f : ℕ → Bool) → f (get_or l i 0) ≡ false → any f (drop i (take n l)) ≡ any f (drop (i + 1) (take n l))
  unfolding any
  scan_miss f e = rw (scan_next, e)

pub scan_none : (l : List ℕ) (n i : ℕ) → n ≤ i → n ≤ length l → (f : ℕ → Bool) → any f (drop i (take n l)) ≡ false
unfolding any
scan_none l n i h le f = rw (drop_of_length-le (take n l) {i = i} (rw (length-take-le n l le) h))

-- a search may start after places of which the test fails
pub scan_skip : (l : List ℕ) (n : ℕ) → n ≤ length l → (f : ℕ → Bool) (k : ℕ) → k ≤ n → ((j : ℕ) → j < k → f (get_or l j 0) ≡ false)
    → any f (take n l) ≡ any f (drop k (take n l))
scan_skip l n le f zero h fails = refl
scan_skip l n le f (suc k) h fails =
    scan_skip l n le f k (omega arith) (λ j q. fails j (omega arith)) ∙ rw add-one at (scan_miss l n k (omega arith) le f (fails k (omega arith)))

-- ---- One step of a search

pub any_here : (f : ℕ → Bool) (x : ℕ) (xs : List ℕ) → f x ≡ true → any f (x ∷ xs) ≡ true
unfolding any
any_here f x xs e = rw e

pub any_later : (f : ℕ → Bool) (x : ℕ) (xs : List ℕ) → f x ≡ false → any f (x ∷ xs) ≡ any f xs
unfolding any
any_later f x xs e = rw e

pub any_nil : (f : ℕ → Bool) → any f [] ≡ false
unfolding any
any_nil f = refl

pub drop_next : (l : List ℕ) (i : ℕ) → i < length l → drop i l ≡ get_or l i 0 ∷ drop (i + 1) l
drop_next l i h = rw (add-one, drop-cons l i 0 h)

pub first_here : (f : ℕ → Bool) (x : ℕ) (xs : List ℕ) → f x ≡ true → first f (x ∷ xs) ≡ hit x
unfolding first
first_here f x xs e = rw (first, e)

pub first_later : (f : ℕ → Bool) (x : ℕ) (xs : List ℕ) → f x ≡ false → first f (x ∷ xs) ≡ first f xs
unfolding first
first_later f x xs e = rw (first, e)

pub first_nil : (f : ℕ → Bool) → first f [] ≡ miss
unfolding first
first_nil f = refl

-- ---- What a search tells of the whole list

-- the test holds of none exactly if it fails of each
pub any_none : (f : ℕ → Bool) (l : List ℕ) → (any f l ≡ false) ↔ ((x : ℕ) → In x l → f x ≡ false)
unfolding any
any_none f [] = ((λ e x i. absurd i), (λ h. refl))
any_none f (y ∷ l) =
    let r = any_none f l in (
      (λ e x i. let c = or_clear (f y) (any f l) e in elim i [ inl q ↦ rw q c.0 | inr j ↦ r.0 c.1 x j ]),
      (λ h. or_neither (f y) (any f l) (h y (inl refl)) (r.1 (λ x i. h x (inr i)))),
    )

-- it holds of one exactly if one in the list passes it
pub any_some : (f : ℕ → Bool) (l : List ℕ) → any f l ≡ true → (x : ℕ) × In x l × (f x ≡ true)
unfolding any
any_some f [] e = absurd (false≢true e)
any_some f (y ∷ l) e =
    elim (or_split (f y) (any f l) e) [ inl h ↦ (y, inl refl, h) | inr h ↦ let r = any_some f l h in (r.0, inr r.1, r.2) ]

pub any_in : (f : ℕ → Bool) (l : List ℕ) (x : ℕ) → In x l → f x ≡ true → any f l ≡ true
any_in f l x i e = elim (test (any f l)) [ inl h ↦ h | inr h ↦ absurd (not_both (f x) ((any_none f l).0 h x i) e) ]

-- what is found is of the list and passes the test
pub first_hit : (f : ℕ → Bool) (l : List ℕ) (x : ℕ) → first f l ≡ hit x → In x l × (f x ≡ true)
unfolding first
first_hit f [] x e = let z : ◌≡◌ {A = ℕ} 0 1 = cc in absurd (omega arith)
first_hit f (y ∷ l) x e =
    elim (picks (f y) (hit y) (first f l) (hit x) e) [
      | inl h ↦ let q : x ≡ y = cc in rw q (inl refl, h.0)
      | inr h ↦ let r = first_hit f l x h.1 in (inr r.0, r.1)
    ]

-- and it fails of each before
pub first_split : (f : ℕ → Bool) (l : List ℕ) (x : ℕ) → first f l ≡ hit x
    → (before : List ℕ) × (after : List ℕ) × (l ≡ before ++ (x ∷ after)) × ((y : ℕ) → In y before → f y ≡ false)
unfolding first
first_split f [] x e = let z : ◌≡◌ {A = ℕ} 0 1 = cc in absurd (omega arith)
first_split f (y ∷ l) x e =
    elim (picks (f y) (hit y) (first f l) (hit x) e) [
      | inl h ↦ let q : y ≡ x = cc in ([], l, ap (λ z. z ∷ l) q, λ z i. absurd i)
      | inr h ↦
          let r = first_split f l x h.1 in
          (y ∷ r.0, r.1, ap (λ z. y ∷ z) r.2, λ z i. elim i [ inl q ↦ rw q h.0 | inr j ↦ r.3 z j ])
    ]

-- where nothing is found the test fails of each
pub first_miss : (f : ℕ → Bool) (l : List ℕ) → first f l ≡ miss → (x : ℕ) → In x l → f x ≡ false
unfolding first
first_miss f [] e x i = absurd i
first_miss f (y ∷ l) e x i =
    elim (picks (f y) (hit y) (first f l) miss e) [
      | inl h ↦ let z : ◌≡◌ {A = ℕ} 0 1 = cc in absurd (omega arith)
      | inr h ↦ elim i [ inl q ↦ rw q h.0 | inr j ↦ first_miss f l h.1 x j ]
    ]

pub keep_takes : (f : ℕ → Bool) (x : ℕ) (l : List ℕ) → f x ≡ true → keep f (x ∷ l) ≡ x ∷ keep f l
unfolding keep
keep_takes f x l e = on_true (f x) (x ∷ keep f l) (keep f l) e

pub keep_skips : (f : ℕ → Bool) (x : ℕ) (l : List ℕ) → f x ≡ false → keep f (x ∷ l) ≡ keep f l
unfolding keep
keep_skips f x l e = on_false (f x) (x ∷ keep f l) (keep f l) e
