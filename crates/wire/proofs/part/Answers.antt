-- `wire::part` meets its contract. Assumes nothing.
use Rattle.wire.proofs.Numbers
use Rattle.wire.proofs.part.Goals as goal

pub returns : goal.returns
returns c = Numbers.part_clipped _ _ _ _ _ c.min-start.ensures c.min.ensures
