-- Blocks followed by their links, each from the one before it in the image: their slots, the last one, and a search. Assumes nothing.
use Prim.Native.Nat.{ℕ, zero, suc, ◌+◌, ◌-◌, ◌<◌, ◌≤◌}
use native.Mathlib.Numerals.{add-one}
use native.Mathlib.Omega.{arith}
use mathlib.Core.Path.{◌≡◌, refl, sym, ap, ◌∙◌}
use mathlib.Core.List.{List, [], ◌∷◌, ◌++◌}
use mathlib.Core.Bool.{Bool, true, false}
use lib.ListN.{length, get_or}
use Rattle.answer.specs.Search.{any}
use Rattle.answer.specs.Links.{link_after, links_after}
use Rattle.directory.specs.Blocks.{slot_count, next_block}
use Rattle.directory.specs.Slots.{rows, slot_places}
use Rattle.directory.specs.Links.{slots_after, last_of, block_after, blocks_after}
use Rattle.directory.specs.Rules.{Linked}
use Rattle.answer.proofs.Links.{link_none, link_next, along_none, along_end, along_hit, along_next}

-- the slots of the blocks
pub slots_along : (s : List ℕ) (k b : ℕ) → slot_places s (blocks_after s k b) ≡ slots_after s k b
unfolding links_after slots_after slot_places
slots_along s zero b = refl
slots_along s (suc k) b = ap (λ l. rows (b + 6) (slot_count s b) ++ l) (slots_along s k (next_block s b))

-- ---- The first block of some

pub blocks_none : (s : List ℕ) (k b : ℕ) → k ≡ 0 → blocks_after s k b ≡ []
unfolding links_after
blocks_none s k b e = ap (λ n. blocks_after s n b) e

pub blocks_next : (s : List ℕ) (k b : ℕ) → (k ≡ 0 → ⊥) → blocks_after s k b ≡ b ∷ blocks_after s (k - 1) (next_block s b)
unfolding links_after
blocks_next s k b h = let e : k ≡ suc (k - 1) = omega arith in ap (λ n. blocks_after s n b) e

-- ---- A chain that ends

linked_blocks : (s : List ℕ) (b : ℕ) (bs : List ℕ) → Linked s (b ∷ bs) → blocks_after s (suc (length bs)) b ≡ b ∷ bs
unfolding links_after
linked_blocks s b [] h = refl
linked_blocks s b (c ∷ bs) h = ap (λ l. b ∷ l) (rw h.0 (linked_blocks s c bs h.1))

linked_last : (s : List ℕ) (b : ℕ) (bs : List ℕ) → Linked s (b ∷ bs) → block_after s (length bs) b ≡ last_of b bs
unfolding link_after last_of
linked_last s b [] h = refl
linked_last s b (c ∷ bs) h = ap (λ x. block_after s (length bs) x) h.0 ∙ linked_last s c bs h.1

-- a chain that stands at 4 is followed to its blocks and its last block
pub linked_chain : (s bs : List ℕ) → get_or bs 0 0 ≡ 4 → Linked s bs → (blocks_after s (length bs) 4 ≡ bs) × (block_after s (length bs - 1) 4 ≡ last_of 4 bs)
unfolding last_of
linked_chain s [] f h = absurd h
linked_chain s (b ∷ bs) f h =
    let n : suc (length bs) - 1 ≡ length bs = omega arith in
    (rw (← f) (linked_blocks s b bs h), rw (← f, n) (linked_last s b bs h))

-- ---- A search of the blocks

-- what is still to be followed decides
pub record Following (s : List ℕ) (f : ℕ → Bool) (blocks b left : ℕ) : Type 0 where
  pub low : b < 4294967296
  pub decides : any f (blocks_after s left b) ≡ any f (blocks_after s blocks 4)

pub follow_all : (s : List ℕ) (f : ℕ → Bool) (blocks : ℕ) → Following s f blocks 4 blocks
follow_all s f blocks = record { low = omega arith; decides = refl }

module _ (s : List ℕ) (f : ℕ → Bool) (blocks b left : ℕ) (w : Following s f blocks b left) where
  -- nothing more has to be followed, where the test fails of each block left
  pub follow_none : ((i : ℕ) → i < left → f (block_after s i b) ≡ false) → (c : ℕ) → c < 4294967296 → Following s f blocks c 0
  follow_none h c low =
      record { low = low; decides = along_end (next_block s) f 0 c (omega arith) ∙ sym (along_none (next_block s) f left b h) ∙ w.decides }

  pub follow_end : left ≤ 0 → any f (blocks_after s blocks 4) ≡ false
  follow_end h = sym w.decides ∙ along_end (next_block s) f left b h

  module _ (more : 0 < left) where
    pub follow_hit : f b ≡ true → any f (blocks_after s blocks 4) ≡ true
    follow_hit e = sym w.decides ∙ along_hit (next_block s) f left b more e

    pub follow_next : f b ≡ false → next_block s b < 4294967296 → (n : ℕ) → n ≡ left - 1 → Following s f blocks (next_block s b) n
    follow_next e low n less = record { low = low; decides = rw less (sym (along_next (next_block s) f left b more e) ∙ w.decides) }

-- nothing is found before a block, where the test fails of each block before it
module _ (s : List ℕ) (f : ℕ → Bool) (blocks : ℕ) where
  pub follow_skip : (j : ℕ) → j ≤ blocks → ((i : ℕ) → i < j → f (block_after s i 4) ≡ false)
      → any f (blocks_after s (blocks - j) (block_after s j 4)) ≡ any f (blocks_after s blocks 4)
  follow_skip zero le h =
      let n : blocks - 0 ≡ blocks = omega arith in
      rw (n, link_none (next_block s) 0 4 refl) refl
  follow_skip (suc j) le h =
      let b = block_after s j 4 in
      let n : blocks - suc j ≡ blocks - j - 1 = omega arith in
      let next : block_after s (suc j) 4 ≡ next_block s b = ap (λ k. block_after s k 4) (sym (add-one j)) ∙ link_next (next_block s) j 4 in
      ap (λ k. any f (blocks_after s k (block_after s (suc j) 4))) n
      ∙ ap (λ c. any f (blocks_after s (blocks - j - 1) c)) next
      ∙ sym (along_next (next_block s) f (blocks - j) b (omega arith) (h j (omega arith)))
      ∙ follow_skip j (omega arith) (λ i k. h i (omega arith))
