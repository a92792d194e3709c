-- A cursor that steps from slot to slot along the chain in the image, and what it has still to give. Assumes nothing.
use Rattle.std.specs.Prelude.{ℕ, ◌+◌, ◌*◌, ◌-◌, ◌<◌, ◌≤◌, ◌≡◌, List, [], ◌++◌}
use Rattle.directory.specs.Slots.{rows}
use Rattle.directory.specs.Links.{slots_after}
use Rattle.directory.specs.declared.cursor.Cursor.{Cursor}

-- the slots left in the cursor's block, then those of the blocks after it
unfoldable pub ahead : List ℕ → Cursor → List ℕ
ahead s c = rows c.place c.left ++ slots_after s c.blocks c.next

-- a place of 32 bits, a block's header and 65,536 slots
abbrev pub most_place : ℕ
most_place = 4294967296 + 6 + 12 * 65536

pub record Bounded (c : Cursor) : Type 0 where
  pub low : c.place + 12 * c.left ≤ most_place
  pub next : c.next < 4294967296

-- the cursor stands at the first of the slots l, or past the last where there is none
pub record Stands (s : List ℕ) (c : Cursor) (l : List ℕ) : Type 0 where
  pub is : ahead s c ≡ l
  pub settled : c.left ≡ 0 → l ≡ []
  pub bounded : Bounded c

-- one slot further, in the cursor's block
abbrev pub stepped : Cursor → Cursor
stepped c = record { place = c.place + 12; left = c.left - 1; next = c.next; blocks = c.blocks }
