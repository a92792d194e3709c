-- `vset::tail::lay_ending` meets its contract. Assumes nothing.
use Rattle.vset.proofs.Tails
use Rattle.vset.proofs.tail.lay_ending.Goals as goal

pub returns : goal.returns
returns c = Tails.laid_ending _ _ _ _ _ _ _ c.write16.ensures c.write16-2.ensures c.write16-3.ensures c.write16-4.ensures
