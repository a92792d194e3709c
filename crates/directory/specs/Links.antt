-- The blocks and slots of a chain by its links, for calls that know how many blocks an image has. Assumes nothing.
use Rattle.std.specs.Prelude.{ℕ, zero, suc, ◌+◌, List, [], ◌∷◌, ◌++◌}
use Rattle.answer.specs.Links.{link_after, links_after}
use Rattle.directory.specs.Blocks.{slot_count, next_block}
use Rattle.directory.specs.Slots.{rows}

-- the places of the slots of k blocks, of which the first stands at b and each names the next
unfoldable pub slots_after : List ℕ → ℕ → ℕ → List ℕ
slots_after s zero b = []
slots_after s (suc k) b = rows (b + 6) (slot_count s b) ++ slots_after s k (next_block s b)

-- the block k links after the one at b
abbrev pub block_after : List ℕ → ℕ → ℕ → ℕ
block_after s k b = link_after (next_block s) k b

-- k blocks, of which the first stands at b and each names the next
abbrev pub blocks_after : List ℕ → ℕ → ℕ → List ℕ
blocks_after s k b = links_after (next_block s) k b

-- the last of a list, or b where it is empty
unfoldable pub last_of : ℕ → List ℕ → ℕ
last_of b [] = b
last_of b (c ∷ cs) = last_of c cs
