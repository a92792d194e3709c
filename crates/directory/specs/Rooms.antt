-- Where a new element's slot goes, and which places are next fields, by the links between the blocks. Assumes nothing.
use Rattle.std.specs.Prelude.{ℕ, ◌+◌, ◌-◌, List, Bool, not, eqb}
use Rattle.answer.specs.Search.{Hit, hit, miss, first}
use Rattle.directory.specs.Slots.{live_at}
use Rattle.directory.specs.Links.{slots_after, block_after}
use Rattle.directory.specs.declared.places.Room.{Room}
use Rattle.directory.specs.declared.places.Room.TheVariants.{Slot, Block}

-- the place of a block's next field
abbrev pub is_link : ℕ → ℕ → Bool
is_link place b = eqb place (b + 2)

abbrev pub room_at : Hit → ℕ → Room
room_at (hit p) last = Slot p
room_at miss last = Block last

-- the first free slot, or the last block
unfoldable pub room_of : List ℕ → ℕ → Room
room_of s blocks = room_at (first (λ p. not (live_at s p)) (slots_after s blocks 4)) (block_after s (blocks - 1) 4)
