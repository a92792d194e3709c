-- Lists that stand column by column in a record and row by row in lent memory. Assumes nothing.
use Rattle.std.specs.Prelude.{ℕ, zero, suc, ◌+◌, List, [], ◌∷◌, get_or}

-- rows of two
unfoldable pub rows2 : List ℕ → List ℕ → List ℕ
rows2 [] ys = []
rows2 (x ∷ xs) [] = []
rows2 (x ∷ xs) (y ∷ ys) = x ∷ y ∷ rows2 xs ys

-- rows of four
unfoldable pub rows4 : List ℕ → List ℕ → List ℕ → List ℕ → List ℕ
rows4 [] ys zs ws = []
rows4 (x ∷ xs) [] zs ws = []
rows4 (x ∷ xs) (y ∷ ys) [] ws = []
rows4 (x ∷ xs) (y ∷ ys) (z ∷ zs) [] = []
rows4 (x ∷ xs) (y ∷ ys) (z ∷ zs) (w ∷ ws) = x ∷ y ∷ z ∷ w ∷ rows4 xs ys zs ws

-- so many entries, from an index on and so many apart: a column of such rows
unfoldable pub every : ℕ → ℕ → ℕ → List ℕ → List ℕ
every first step zero xs = []
every first step (suc count) xs = get_or xs first 0 ∷ every (first + step) step count xs
