-- `journal::put_new` meets its contract. Assumes nothing.
use native.Mathlib.Omega.{arith}
use mathlib.Core.Path.{sym, ◌∙◌}
use Rattle.journal.proofs.Adding
use Rattle.journal.proofs.put_new.Goals as goal
use Rattle.journal.proofs.put_new.Goals.{then-counts-ge-MOST_BLOCKS-via-then-counts-ge-MOST_BLOCKS, then-counts-ge-MOST_BLOCKS-via-else-counts-ge-MOST_BLOCKS+then-counts-gt-MOST_SLOTS}

pub put_slot-requires : goal.put_slot-requires
put_slot-requires c = Adding.slot_room _ _ _ _ _ c.requires.0 c.requires.1 _ (sym c.find_room-room.ensures ∙ c.in-Slot.is)

pub overflow_add-counts : goal.overflow_add-counts
overflow_add-counts c = omega (arith, Adding.slots_few _ _ _ _ _ c.requires.0 c.requires.1)

pub returns-then-counts-ge-MOST_BLOCKS : goal.returns-then-counts-ge-MOST_BLOCKS
returns-then-counts-ge-MOST_BLOCKS c =
    let room = sym c.find_room-room.ensures ∙ c.in-Block.is in
    rw c.at.ensures
    (elim c.then-counts-ge-MOST_BLOCKS.branch [
      | then-counts-ge-MOST_BLOCKS-via-then-counts-ge-MOST_BLOCKS w ↦ Adding.add_blocks _ _ _ _ _ c.requires.0 c.requires.1 _ room _ _ _ _ w.if-counts-ge-MOST_BLOCKS.true
      | then-counts-ge-MOST_BLOCKS-via-else-counts-ge-MOST_BLOCKS+then-counts-gt-MOST_SLOTS w ↦ Adding.add_slots _ _ _ _ _ c.requires.0 c.requires.1 _ room _ _ _ _ w.if-counts-gt-MOST_SLOTS.true
    ])

pub put_block-requires : goal.put_block-requires
put_block-requires c = Adding.last_room _ _ _ _ _ c.requires.0 c.requires.1 _ (sym c.find_room-room.ensures ∙ c.in-Block.is)

pub returns-in-Slot : goal.returns-in-Slot
returns-in-Slot c =
    Adding.add_slot _ _ _ _ _ c.requires.0 c.requires.1 _ (sym c.find_room-room.ensures ∙ c.in-Slot.is) _ _ _ _ _
    c.put_slot.result c.put_slot.ensures

pub returns-else-counts-gt-MOST_SLOTS : goal.returns-else-counts-gt-MOST_SLOTS
returns-else-counts-gt-MOST_SLOTS c =
    Adding.add_block _ _ _ _ _ c.requires.0 c.requires.1 _ (sym c.find_room-room.ensures ∙ c.in-Block.is) _ _ _ _
    c.if-counts-ge-MOST_BLOCKS.false c.if-counts-gt-MOST_SLOTS.false _ c.put_block.result c.put_block.ensures
