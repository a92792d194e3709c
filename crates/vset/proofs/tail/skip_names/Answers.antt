-- `vset::tail::skip_names` meets its contract. Assumes nothing.
use native.Mathlib.Omega.{arith}
use mathlib.Core.Path.{◌∙◌}
use Rattle.vset.proofs.Tails
use Rattle.vset.proofs.tail.skip_names.Goals as goal

pub loop-preserved : goal.loop-preserved
loop-preserved c = (
  Tails.names_next _ _ _ _ _ c.read16.ensures.is c.loop-test.true ∙ c.loop.invariant.0,
  omega (arith, c.read16.ensures.small),
)

pub returns : goal.returns
returns c = (Tails.names_done _ _ _ _ c.loop-test.false ∙ c.loop.invariant.0, omega arith)
