-- The slots before one, slot by slot and block by block. Assumes nothing.
use Prim.Native.Nat.{ℕ, zero, suc, ◌+◌, ◌*◌}
use native.Mathlib.Omega.{arith}
use native.Mathlib.Numerals.{add-one}
use mathlib.Core.Path.{◌≡◌, refl, sym, ap, ◌∙◌}
use mathlib.Core.Logic.{◌⊎◌}
use mathlib.Core.List.{List, [], ◌∷◌, ◌++◌, append_assoc, append-nil}
use mathlib.Core.Bool.{Bool, true, false, ◌||◌}
use Rattle.answer.specs.Search.{any, In}
use Rattle.answer.specs.Links.{link_after}
use Rattle.directory.specs.Blocks.{slot_count, next_block}
use Rattle.directory.specs.Slots.{rows}
use Rattle.directory.specs.Links.{slots_after, block_after}
use Rattle.directory.specs.Steps.Doubts.{slot_at, earlier_of}
use Rattle.answer.proofs.Links.{link_next}
use Rattle.answer.proofs.Tests.{in_snoc}

-- ---- A block of the chain

pub next_at : (s : List ℕ) (k b : ℕ) → block_after s k 4 ≡ b → block_after s (k + 1) 4 ≡ next_block s b
next_at s k b at = link_next (next_block s) k 4 ∙ ap (next_block s) at

pub slot_place : (s : List ℕ) (k b : ℕ) → block_after s k 4 ≡ b → (i : ℕ) → b + 6 + 12 * i ≡ slot_at s k i
slot_place s k b at i = ap (λ x. x + 6 + 12 * i) (sym at)

-- ---- One slot further

rows_suc : (p i : ℕ) → rows p (suc i) ≡ rows p i ++ ((p + 12 * i) ∷ [])
unfolding rows
rows_suc p zero = let e : p ≡ p + 12 * zero = omega arith in ap (λ x. x ∷ []) e
rows_suc p (suc i) = let e : p + 12 + 12 * i ≡ p + 12 * suc i = omega arith in ap (λ l. p ∷ l) (rows_suc (p + 12) i ∙ ap (λ x. rows (p + 12) i ++ (x ∷ [])) e)

rows_snoc : (p i : ℕ) → rows p (i + 1) ≡ rows p i ++ ((p + 12 * i) ∷ [])
rows_snoc p i = rw add-one (rows_suc p i)

slots_suc : (s : List ℕ) (k b : ℕ) → slots_after s (suc k) b ≡ slots_after s k b ++ rows (block_after s k b + 6) (slot_count s (block_after s k b))
unfolding slots_after link_after
slots_suc s zero b = append-nil (rows (b + 6) (slot_count s b))
slots_suc s (suc k) b = ap (λ l. rows (b + 6) (slot_count s b) ++ l) (slots_suc s k (next_block s b)) ∙ sym (append_assoc (rows (b + 6) (slot_count s b)) (slots_after s k (next_block s b)) _)

module _ (s : List ℕ) (k : ℕ) where
  pub earlier_next : (i : ℕ) → earlier_of s k (i + 1) ≡ earlier_of s k i ++ (slot_at s k i ∷ [])
  earlier_next i = rw (rows_snoc (block_after s k 4 + 6) i) (sym (append_assoc (slots_after s k 4) (rows (block_after s k 4 + 6) i) (slot_at s k i ∷ [])))

  -- after the last slot of a block, and before the first of the next one
  pub earlier_block : earlier_of s (k + 1) 0 ≡ earlier_of s k (slot_count s (block_after s k 4))
  unfolding rows
  earlier_block = append-nil (slots_after s (k + 1) 4) ∙ ap (λ n. slots_after s n 4) (add-one k) ∙ slots_suc s k 4

  pub earlier_none : earlier_of s k 0 ≡ slots_after s k 4
  unfolding rows
  earlier_none = append-nil (slots_after s k 4)

  pub earlier_in : (i q : ℕ) → In q (earlier_of s k (i + 1)) → In q (earlier_of s k i) ⊎ (q ≡ slot_at s k i)
  earlier_in i q h = in_snoc q (earlier_of s k i) (slot_at s k i) (rw (earlier_next i) at h)

pub earlier_first : (s : List ℕ) → earlier_of s 0 0 ≡ []
unfolding rows slots_after
earlier_first s = refl

-- ---- A search

pub any_append : (f : ℕ → Bool) (xs ys : List ℕ) → any f (xs ++ ys) ≡ any f xs || any f ys
unfolding any
any_append f [] ys = refl
any_append f (x ∷ xs) ys = rw (any_append f xs ys) (or_assoc (f x) (any f xs) (any f ys))
  where
    or_assoc : (a b c : Bool) → a || (b || c) ≡ (a || b) || c
    or_assoc true b c = refl
    or_assoc false b c = refl
