-- `vhead::head::parse` meets its contract. Assumes nothing.
use Rattle.vhead.proofs.Heads
use Rattle.vhead.proofs.head.parse.Goals as goal

pub returns : goal.returns
returns c = Heads.head_reads _ _ _ _ _ _ c.read16-fields.ensures c.read16.ensures c.read32.ensures c.read16-2.ensures c.parse.ensures
