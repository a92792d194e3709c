-- `vdata::column::read` meets its contract. Assumes nothing.
use Rattle.directory.proofs.Opens
use Rattle.vdata.specs.Columns.{column_of}
use Rattle.vdata.proofs.Columns
use Rattle.vdata.proofs.column.read.Goals as goal

pub returns-in_default : goal.returns-in_default
unfolding column_of
returns-in_default c = Opens.unopened_does _ _ c.open-opened.ensures 2 _ _ _ _ c.unwrap_err.ensures

pub returns : goal.returns
returns c = Columns.read_opened _ _ _ _ _ (Opens.accepted_with _ _ c.open-opened.ensures _ c.in-Ok.is) _ _ _ c.read_in.ensures
