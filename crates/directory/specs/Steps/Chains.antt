-- What the walk along the chain tells of its blocks, each named by the one before it in the image. Assumes nothing.
use Rattle.std.specs.Prelude.{ℕ, ◌<◌, ◌≤◌, ◌≡◌, true, List, length, Result, Ok, Err}
use Rattle.directory.specs.Blocks.{walked, broken, chain, block_end}
use Rattle.directory.specs.Links.{slots_after, block_after, blocks_after}
use Rattle.directory.specs.declared.chain.Shape.{Shape}
use Rattle.answer.specs.Refusals.{number_of}
use Rattle.answer.specs.declared.Refusal.{Refusal}

-- the first blocks all end at or before a place
abbrev pub EndBelow : List ℕ → ℕ → ℕ → Type 0
EndBelow s blocks top = (i : ℕ) → i < blocks → block_end s (block_after s i 4) ≤ top

-- each of the first blocks starts at or after the end of those before it
abbrev pub Rising : List ℕ → ℕ → Type 0
Rising s blocks = (i j : ℕ) → i < j → j < blocks → block_end s (block_after s i 4) ≤ block_after s j 4

-- a whole chain of some shape: its blocks end at or before top, which is inside the image, and rise if so told
pub record Laid (s : List ℕ) (c : Shape) : Type 0 where
  pub some : 0 < c.blocks
  pub few : c.blocks ≤ 256
  pub high : 4 ≤ c.top
  pub below : EndBelow s c.blocks c.top
  pub inside : c.top ≤ length s
  pub rises : c.rising ≡ true → Rising s c.blocks

-- the block at b, inside the image, comes after k others
pub record InChain (s : List ℕ) (blocks k b : ℕ) : Type 0 where
  pub more : k < blocks
  pub at : block_after s k 4 ≡ b
  pub whole : block_end s b ≤ length s

-- what the walk tells: the shape of the whole chain, or its first fault
abbrev pub WalkedTo : List ℕ → Result Shape Refusal → Type 0
WalkedTo s (Ok c) =
    (chain s ≡ walked (blocks_after s c.blocks 4)) × (length (slots_after s c.blocks 4) ≡ c.slots) × Laid s c
WalkedTo s (Err r) = chain s ≡ broken (number_of r.rule) r.place
