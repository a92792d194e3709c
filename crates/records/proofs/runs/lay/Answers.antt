-- `records::runs::lay` meets its contract. Assumes nothing.
use native.Mathlib.Omega.{arith}
use mathlib.Core.Path.{sym, ◌∙◌}
use Rattle.records.proofs.Loops
use Rattle.records.proofs.runs.lay.Goals as goal

pub loop-i-preserved : goal.loop-i-preserved
loop-i-preserved g c =
    rw (c.write.ensures, c.WIDTH.ensures) (Loops.lays _ _ _ _ _ _ c.loop-i-test.true _ c.index-list-i.is) ∙ c.loop-i.invariant

pub returns : goal.returns
returns g c = sym (Loops.laid _ _ _ _ _ _ (omega arith)) ∙ c.loop-i.invariant ∙ Loops.laying_all _ _ _ _ _
