-- `directory::key::Key::mark` meets its contract. Assumes nothing.
use native.Mathlib.Omega.{arith}
use mathlib.Core.Path.{refl}
use Rattle.directory.specs.Steps.Keys.{mark_by}
use Rattle.directory.proofs.key.Key.mark.Goals as goal

pub returns : goal.returns
unfolding mark_by
returns c = (refl, omega arith)
