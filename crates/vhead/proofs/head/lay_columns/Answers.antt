-- `vhead::head::lay_columns` meets its contract. Assumes nothing.
use Rattle.vhead.proofs.HeadsPacked
use Rattle.vhead.proofs.head.lay_columns.Goals as goal

pub returns : goal.returns
returns c = HeadsPacked.laid_columns _ _ _ _ _ _ _ c.lay_column.ensures c.lay_column-2.ensures c.lay_column-3.ensures c.lay_column-4.ensures
