-- What is known of an image that opened. Assumes nothing.
use Rattle.std.specs.Prelude.{ℕ, ◌≡◌, List}
use Rattle.directory.specs.Blocks.{blocks_of}
use Rattle.directory.specs.Slots.{slots_of}
use Rattle.directory.specs.Opening.{open_of}
use Rattle.directory.specs.Links.{slots_after, blocks_after}

-- the image opens, and its directory has so many blocks
pub record Opens (s : List ℕ) (blocks : ℕ) : Type 0 where
  pub sound : (open_of s).number ≡ 0
  pub slots : slots_after s blocks 4 ≡ slots_of s
  pub chain : blocks_after s blocks 4 ≡ blocks_of s
