-- `journal::write::write_slot` meets its contract. Assumes nothing.
use Rattle.journal.proofs.Runs
use Rattle.journal.proofs.write.write_slot.Goals as goal

pub returns : goal.returns
returns c = Runs.slot_run _ _ _ _ _ _ c.write16.ensures c.write16-2.ensures c.write32.ensures c.write32-2.ensures
