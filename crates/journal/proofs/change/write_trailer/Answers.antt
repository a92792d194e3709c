-- `journal::change::write_trailer` meets its contract. Assumes nothing.
use Rattle.journal.proofs.Trailers
use Rattle.journal.proofs.change.write_trailer.Goals as goal

pub returns : goal.returns
returns c =
    Trailers.trailer_run _ _ _ c.write32.ensures c.write32-2.ensures c.write32-3.ensures c.write32-4.ensures c.write32-5.ensures c.write32-6.ensures c.write32-7.ensures c.write32-8.ensures c.write32-9.ensures
