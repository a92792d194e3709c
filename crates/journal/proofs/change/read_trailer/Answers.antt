-- `journal::change::read_trailer` meets its contract. Assumes nothing.
use mathlib.Core.Path.{sym}
use Rattle.journal.proofs.Trailers
use Rattle.journal.proofs.change.read_trailer.Goals as goal

pub returns : goal.returns
returns c =
    rw (c.read32.ensures.is, c.read32-2.ensures.is, c.read32-3.ensures.is, c.read32-4.ensures.is, c.read32-5.ensures.is, c.read32-6.ensures.is, c.read32-7.ensures.is, c.desk_at.ensures) (sym (Trailers.trailer_fields _ _ _))
