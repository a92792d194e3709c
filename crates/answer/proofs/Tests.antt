-- Tests taken apart into facts, and what holds of one or of every two of a list. Assumes nothing.
use Prim.Native.Nat.{ℕ, zero, suc, ◌≤◌}
use native.Mathlib.Omega.{arith}
use mathlib.Core.Path.{◌≡◌, refl, sym, ap, ◌∙◌}
use mathlib.Core.Logic.{◌↔◌, ◌⊎◌, inl, inr}
use mathlib.Core.List.{List, [], ◌∷◌, ◌++◌}
use mathlib.Core.Bool.{Bool, true, false, not, ◌&&◌, ◌||◌, true≢false, false≢true}
use lib.Dec.{leb, eqb}
use borrow.Author.Tests.{leb-true, leb-false, eqb-true, eqb-false, not-true}
use Rattle.answer.specs.Search.{In, Pairwise}

-- ---- Tests

-- a test's value picks the case
pub on_true : {A : Type 0} (b : Bool) (x y : A) → b ≡ true → ◌≡◌ {A = A} (elim b [ true ↦ x | false ↦ y ]) x
on_true true x y e = refl
on_true false x y e = absurd (false≢true e)

pub on_false : {A : Type 0} (b : Bool) (x y : A) → b ≡ false → ◌≡◌ {A = A} (elim b [ true ↦ x | false ↦ y ]) y
on_false false x y e = refl
on_false true x y e = absurd (true≢false e)

-- a value that is one of two cases
pub picks : {A : Type 0} (b : Bool) (x y z : A) → ◌≡◌ {A = A} (elim b [ true ↦ x | false ↦ y ]) z → ((b ≡ true) × (x ≡ z)) ⊎ ((b ≡ false) × (y ≡ z))
picks true x y z e = inl (refl, e)
picks false x y z e = inr (refl, e)

pub and_split : (a b : Bool) → a && b ≡ true → (a ≡ true) × (b ≡ true)
and_split true b e = (refl, e)
and_split false b e = absurd (false≢true e)

pub and_both : (a b : Bool) → a ≡ true → b ≡ true → a && b ≡ true
and_both true b e f = f
and_both false b e f = e

pub and_fails : (a b : Bool) → a && b ≡ false → (a ≡ false) ⊎ (b ≡ false)
and_fails false b e = inl refl
and_fails true b e = inr e

pub or_split : (a b : Bool) → a || b ≡ true → (a ≡ true) ⊎ (b ≡ true)
or_split true b e = inl refl
or_split false b e = inr e

pub or_either : (a b : Bool) → (a ≡ true) ⊎ (b ≡ true) → a || b ≡ true
or_either true b h = refl
or_either false b (inl e) = absurd (false≢true e)
or_either false b (inr e) = e

pub or_clear : (a b : Bool) → a || b ≡ false → (a ≡ false) × (b ≡ false)
or_clear false b e = (refl, e)
or_clear true b e = absurd (true≢false e)

pub or_neither : (a b : Bool) → a ≡ false → b ≡ false → a || b ≡ false
or_neither false b e f = f
or_neither true b e f = e

pub test : (b : Bool) → (b ≡ true) ⊎ (b ≡ false)
test true = inl refl
test false = inr refl

-- a test that has to fail
pub not_is : (b : Bool) (Fails : Type 0) → (b ≡ false) ↔ Fails → (not b ≡ true) ↔ Fails
not_is b Fails h = ((λ e. h.0 (not-true b e)), (λ f. ap not (h.1 f)))

pub not_both : (a : Bool) → a ≡ false → a ≡ true → ⊥
not_both a e f = false≢true (sym e ∙ f)

-- a test that cannot hold fails
pub fails : (b : Bool) → (b ≡ true → ⊥) → b ≡ false
fails true h = absurd (h refl)
fails false h = refl

-- a fact that a test decides
pub by_test : (b : Bool) (Holds : Type 0) → (b ≡ true) ↔ Holds → Holds ⊎ (Holds → ⊥)
by_test b Holds t = elim (test b) [ inl e ↦ inl (t.0 e) | inr e ↦ inr (λ h. not_both b e (t.1 h)) ]

pub same? : (a b : ℕ) → (a ≡ b) ⊎ (a ≡ b → ⊥)
same? a b = elim (test (eqb a b)) [ inl e ↦ inl (eqb-true a b e) | inr e ↦ inr (eqb-false a b e) ]

pub le? : (a b : ℕ) → (a ≤ b) ⊎ (a ≤ b → ⊥)
le? a b = elim (test (leb a b)) [ inl e ↦ inl (leb-true a b e) | inr e ↦ inr (λ l. omega (arith, leb-false a b e)) ]

pub zero? : (n : ℕ) → (n ≡ 0) ⊎ ((m : ℕ) × (n ≡ suc m))
zero? zero = inl refl
zero? (suc m) = inr (m, refl)

-- ---- One of a list

pub in_left : (x : ℕ) (xs ys : List ℕ) → In x xs → In x (xs ++ ys)
in_left x [] ys h = absurd h
in_left x (y ∷ xs) ys (inl e) = inl e
in_left x (y ∷ xs) ys (inr h) = inr (in_left x xs ys h)

pub in_right : (x : ℕ) (xs ys : List ℕ) → In x ys → In x (xs ++ ys)
in_right x [] ys h = h
in_right x (y ∷ xs) ys h = inr (in_right x xs ys h)

pub in_append : (x : ℕ) (xs ys : List ℕ) → In x (xs ++ ys) → In x xs ⊎ In x ys
in_append x [] ys h = inr h
in_append x (y ∷ xs) ys (inl e) = inl (inl e)
in_append x (y ∷ xs) ys (inr h) = elim (in_append x xs ys h) [ inl i ↦ inl (inr i) | inr i ↦ inr i ]

-- one more at the end
pub in_parted : (x : ℕ) (l : List ℕ) → In x l → (before : List ℕ) × (after : List ℕ) × (l ≡ before ++ (x ∷ after))
in_parted x [] i = elim i [ ]
in_parted x (y ∷ l) (inl e) = ([], l, ap (λ z. z ∷ l) (sym e))
in_parted x (y ∷ l) (inr i) = let r = in_parted x l i in (y ∷ r.0, r.1, ap (λ m. y ∷ m) r.2)

pub in_snoc : (x : ℕ) (xs : List ℕ) (y : ℕ) → In x (xs ++ (y ∷ [])) → In x xs ⊎ (x ≡ y)
in_snoc x xs y i = elim (in_append x xs (y ∷ []) i) [ inl j ↦ inl j | inr j ↦ elim j [ inl e ↦ inr e | inr z ↦ absurd z ] ]

-- ---- Every two of a list

pub pairwise_append : (R : ℕ → ℕ → Type 0) (xs ys : List ℕ)
    → Pairwise R (xs ++ ys) ↔ (Pairwise R xs × Pairwise R ys × ((x y : ℕ) → In x xs → In y ys → R x y))
pairwise_append R [] ys = ((λ h. (tt, h, λ x y i j. absurd i)), (λ h. h.1))
pairwise_append R (z ∷ xs) ys =
    let r = pairwise_append R xs ys in (
      (λ h. let t = r.0 h.1 in (
        ((λ y i. h.0 y (in_left y xs ys i)), t.0),
        t.1,
        (λ x y i j. elim i [ inl e ↦ rw e (h.0 y (in_right y xs ys j)) | inr k ↦ t.2 x y k j ]),
      )),
      (λ h. (
        (λ y i. elim (in_append y xs ys i) [ inl j ↦ h.0.0 y j | inr j ↦ h.2 z y (inl refl) j ]),
        r.1 (h.0.1, h.1, λ x y i j. h.2 x y (inr i) j),
      )),
    )

pub pairwise_snoc : (R : ℕ → ℕ → Type 0) (xs : List ℕ) (x : ℕ) → Pairwise R (xs ++ (x ∷ [])) ↔ (Pairwise R xs × ((y : ℕ) → In y xs → R y x))
pairwise_snoc R xs x =
    let r = pairwise_append R xs (x ∷ []) in (
      (λ h. let t = r.0 h in (t.0, λ y i. t.2 y x i (inl refl))),
      (λ h. r.1 (h.0, ((λ y i. absurd i), tt), λ y z i j. elim j [ inl e ↦ rw e (h.1 y i) | inr k ↦ absurd k ])),
    )

-- in either order, where R does not mind
pub pairwise_in : (R : ℕ → ℕ → Type 0) → ((x y : ℕ) → R x y → R y x) → (l : List ℕ) → Pairwise R l
    → (x y : ℕ) → In x l → In y l → (x ≡ y → ⊥) → R x y
pairwise_in R s [] h x y i j n = absurd i
pairwise_in R s (z ∷ l) h x y (inl e) (inl f) n = absurd (n (e ∙ sym f))
pairwise_in R s (z ∷ l) h x y (inl e) (inr j) n = rw e (h.0 y j)
pairwise_in R s (z ∷ l) h x y (inr i) (inl f) n = rw f (s z x (h.0 x i))
pairwise_in R s (z ∷ l) h x y (inr i) (inr j) n = pairwise_in R s l h.1 x y i j n
