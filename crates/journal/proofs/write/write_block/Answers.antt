-- `journal::write::write_block` meets its contract. Assumes nothing.
use Rattle.journal.proofs.Runs
use Rattle.journal.proofs.write.write_block.Goals as goal

pub returns : goal.returns
returns c = Runs.block_run _ _ _ (Runs.length_slot _ _ _ _) c.write16.ensures c.write32.ensures c.write_slot.ensures c.write_free_slots.ensures
