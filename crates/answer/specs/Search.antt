-- Rules in order, and searches through a list. Assumes nothing.
use Rattle.std.specs.Prelude.{ℕ, ◌≡◌, ◌⊎◌, List, [], ◌∷◌, Bool, true, false, ◌||◌}

-- the number of a rule whose test fails, else what the rules after it give: a list of rules ends in 0
unfoldable pub must : Bool → ℕ → ℕ → ℕ
must true number rest = rest
must false number rest = number

-- whether the test holds of one in the list
unfoldable pub any : (ℕ → Bool) → List ℕ → Bool
any f [] = false
any f (x ∷ xs) = f x || any f xs

-- the first in the list of which the test holds
pub data Hit : Type 0 where
  hit : ℕ → Hit
  miss : Hit

unfoldable pub first : (ℕ → Bool) → List ℕ → Hit
first f [] = miss
first f (x ∷ xs) = elim (f x) [ true ↦ hit x | false ↦ first f xs ]

-- those of the list of which the test holds
unfoldable pub keep : (ℕ → Bool) → List ℕ → List ℕ
keep f [] = []
keep f (x ∷ xs) = elim (f x) [ true ↦ x ∷ keep f xs | false ↦ keep f xs ]

-- x is one of the list
abbrev pub In : ℕ → List ℕ → Type 0
In x [] = ⊥
In x (y ∷ ys) = (x ≡ y) ⊎ In x ys

-- R holds of every two of the list, the earlier one first
abbrev pub Pairwise : (ℕ → ℕ → Type 0) → List ℕ → Type 0
Pairwise R [] = Unit {0}
Pairwise R (x ∷ xs) = ((y : ℕ) → In y xs → R x y) × Pairwise R xs
