-- `journal::change::write_back` meets its contract. Assumes nothing.
use Rattle.journal.proofs.Trailers
use Rattle.journal.proofs.change.write_back.Goals as goal

pub returns-then-change-eq-SLOT : goal.returns-then-change-eq-SLOT
returns-then-change-eq-SLOT c = Trailers.slot_back _ _ c.write32.ensures c.if-change-eq-SLOT.true c.write32-then-change-eq-SLOT.ensures c.write32-then-change-eq-SLOT-2.ensures

pub returns-else-change-eq-SLOT : goal.returns-else-change-eq-SLOT
returns-else-change-eq-SLOT c = Trailers.link_back _ _ c.write32.ensures c.if-change-eq-SLOT.false
