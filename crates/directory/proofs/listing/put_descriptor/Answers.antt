-- `directory::listing::put_descriptor` meets its contract. Assumes nothing.
use Rattle.directory.proofs.Descriptors
use Rattle.directory.proofs.listing.put_descriptor.Goals as goal

pub returns : goal.returns
returns c =
    let a = c.args in
    rw (c.read16.ensures.is, c.read16-2.ensures.is, c.read32.ensures.is, c.read32-2.ensures.is)
    (Descriptors.four_stores a.table.now a.i _ _ _ _)
