-- What is left of a walk over the blocks or the slots of a chain. Assumes nothing.
use Rattle.std.specs.Prelude.{ℕ, ◌<◌, ◌≤◌, List, Option, IfSome}
use Rattle.std.specs.Iterator.{YieldsFirst}
use Rattle.directory.specs.Links.{blocks_after}
use Rattle.directory.specs.Steps.Cursors.{ahead, most_place}
use Rattle.directory.specs.declared.chain.Blocks.{Blocks}
use Rattle.directory.specs.declared.cursor.Slots.{Slots}

-- the blocks that are still to come
abbrev pub blocks_left : Blocks → List ℕ
blocks_left w = blocks_after w.image.now w.left w.at

-- a call gives the first of them, at a place of 32 bits
abbrev pub GivesBlock : Blocks → Option ℕ → Blocks → Type 0
GivesBlock w r after = YieldsFirst blocks_left w r after × IfSome r (λ b. b < 4294967296)

-- the slots that are still to come
abbrev pub slots_left : Slots → List ℕ
slots_left w = ahead w.image.now w.at

-- a call gives the first of them, at a place that a cursor may reach
abbrev pub GivesSlot : Slots → Option ℕ → Slots → Type 0
GivesSlot w r after = YieldsFirst slots_left w r after × IfSome r (λ p. p ≤ most_place)
