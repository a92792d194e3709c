-- `vset::tail::lay_text` meets its contract. Assumes nothing.
use Rattle.vset.proofs.Tails
use Rattle.vset.proofs.tail.lay_text.Goals as goal

pub returns : goal.returns
returns c = Tails.laid_text _ _ _ _ _ c.write16.ensures c.write_bytes.ensures
