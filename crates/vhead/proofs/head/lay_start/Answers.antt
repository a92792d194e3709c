-- `vhead::head::lay_start` meets its contract. Assumes nothing.
use Rattle.vhead.proofs.HeadsPacked
use Rattle.vhead.proofs.head.lay_start.Goals as goal

pub returns : goal.returns
returns c = HeadsPacked.laid_start _ _ _ _ _ _ _ c.write16.ensures c.write32.ensures c.write16-2.ensures c.write16-3.ensures
