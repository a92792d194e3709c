-- `vdata::value::read` meets its contract. Assumes nothing.
use Rattle.directory.proofs.Opens
use Rattle.vdata.specs.Values.{value_of}
use Rattle.vdata.proofs.Values
use Rattle.vdata.proofs.value.read.Goals as goal

pub returns-in_default : goal.returns-in_default
unfolding value_of
returns-in_default c = Values.gives_refused _ _ _ (Opens.refused_is _ _ c.open-opened.ensures 2 _ _ c.unwrap_err.ensures)

pub returns : goal.returns
returns c = Values.read_opened _ _ _ _ _ _ (Opens.accepted_with _ _ c.open-opened.ensures _ c.in-Ok.is) c.read_in.result c.read_in.ensures
