-- Links followed one by one, and searched. Assumes nothing.
use Prim.Native.Nat.{ℕ, zero, suc, ◌+◌, ◌-◌, ◌<◌, ◌≤◌}
use native.Mathlib.Omega.{arith}
use native.Mathlib.Numerals.{add-one}
use mathlib.Core.Path.{◌≡◌, refl, sym, ap, ◌∙◌}
use mathlib.Core.Logic.{inl, inr}
use mathlib.Core.List.{[], ◌∷◌, ◌++◌}
use mathlib.Core.Bool.{Bool, true, false}
use lib.ListN.{length}
use Rattle.answer.specs.Search.{any, In}
use Rattle.answer.specs.Links.{link_after, links_after}
use Rattle.answer.proofs.Tests.{or_neither}
use Rattle.answer.proofs.Search.{any_here, any_later, any_nil}

module _ (next : ℕ → ℕ) where
  -- ---- One link further from the first

  pub link_step : (k b : ℕ) → (k ≡ 0 → ⊥) → link_after next k b ≡ link_after next (k - 1) (next b)
  unfolding link_after
  link_step k b h = let e : k ≡ suc (k - 1) = omega arith in ap (λ n. link_after next n b) e

  pub link_none : (k b : ℕ) → k ≡ 0 → link_after next k b ≡ b
  unfolding link_after
  link_none k b e = ap (λ n. link_after next n b) e

  links_step : (k b : ℕ) → 0 < k → links_after next k b ≡ b ∷ links_after next (k - 1) (next b)
  unfolding links_after
  links_step k b h = let e : k ≡ suc (k - 1) = omega arith in ap (λ n. links_after next n b) e

  links_none : (k b : ℕ) → k ≤ 0 → links_after next k b ≡ []
  unfolding links_after
  links_none k b h = let e : k ≡ 0 = omega arith in ap (λ n. links_after next n b) e

  -- ---- One link further from the last

  link_suc : (k b : ℕ) → link_after next (suc k) b ≡ next (link_after next k b)
  unfolding link_after
  link_suc zero b = refl
  link_suc (suc k) b = link_suc k (next b)

  pub link_next : (k b : ℕ) → link_after next (k + 1) b ≡ next (link_after next k b)
  link_next k b = rw add-one (link_suc k b)

  -- so many links further again
  pub link_on : (k i b : ℕ) → link_after next i (link_after next k b) ≡ link_after next (k + i) b
  unfolding link_after
  link_on zero i b = let n : i ≡ zero + i = omega arith in ap (λ n. link_after next n b) n
  link_on (suc k) i b = let n : suc (k + i) ≡ suc k + i = omega arith in link_on k i (next b) ∙ ap (λ n. link_after next n b) n

  links_suc : (k b : ℕ) → links_after next (suc k) b ≡ links_after next k b ++ (link_after next k b ∷ [])
  unfolding links_after link_after
  links_suc zero b = refl
  links_suc (suc k) b = ap (λ l. b ∷ l) (links_suc k (next b))

  pub links_snoc : (k b : ℕ) → links_after next (k + 1) b ≡ links_after next k b ++ (link_after next k b ∷ [])
  links_snoc k b = rw add-one (links_suc k b)

  pub length_links : (k b : ℕ) → length (links_after next k b) ≡ k
  unfolding links_after
  length_links zero b = refl
  length_links (suc k) b = ap suc (length_links k (next b))

  -- ---- The numbers that are reached

  pub link_in : (k i b : ℕ) → i < k → In (link_after next i b) (links_after next k b)
  unfolding link_after links_after
  link_in zero i b h = absurd (omega arith)
  link_in (suc k) zero b h = inl refl
  link_in (suc k) (suc i) b h = inr (link_in k i (next b) (omega arith))

  pub in_links : (k b x : ℕ) → In x (links_after next k b) → (i : ℕ) × (i < k) × (link_after next i b ≡ x)
  unfolding link_after links_after
  in_links zero b x h = absurd h
  in_links (suc k) b x (inl e) = (0, omega arith, sym e)
  in_links (suc k) b x (inr h) = let r = in_links k (next b) x h in (suc r.0, omega (arith, r.1), r.2)

  -- ---- A search along the links

  module _ (f : ℕ → Bool) where
    -- a test that fails of each
    pub along_none : (k b : ℕ) → ((i : ℕ) → i < k → f (link_after next i b) ≡ false) → any f (links_after next k b) ≡ false
    unfolding any links_after link_after
    along_none zero b h = refl
    along_none (suc k) b h =
        or_neither (f b) (any f (links_after next k (next b))) (h 0 (omega arith)) (along_none k (next b) (λ i l. h (suc i) (omega arith)))

    pub along_end : (k b : ℕ) → k ≤ 0 → any f (links_after next k b) ≡ false
    along_end k b h = ap (any f) (links_none k b h) ∙ any_nil f

    pub along_hit : (k b : ℕ) → 0 < k → f b ≡ true → any f (links_after next k b) ≡ true
    along_hit k b more e = ap (any f) (links_step k b more) ∙ any_here f b _ e

    pub along_next : (k b : ℕ) → 0 < k → f b ≡ false → any f (links_after next k b) ≡ any f (links_after next (k - 1) (next b))
    along_next k b more e = ap (any f) (links_step k b more) ∙ any_later f b _ e
