-- Links: numbers each of which names the next one, by a function from the one to the other. Assumes nothing.
use Rattle.std.specs.Prelude.{ℕ, zero, suc, List, [], ◌∷◌}

-- the number k links after b
unfoldable pub link_after : (ℕ → ℕ) → ℕ → ℕ → ℕ
link_after next zero b = b
link_after next (suc k) b = link_after next k (next b)

-- k numbers, of which the first is b and each names the next
unfoldable pub links_after : (ℕ → ℕ) → ℕ → ℕ → List ℕ
links_after next zero b = []
links_after next (suc k) b = b ∷ links_after next k (next b)
