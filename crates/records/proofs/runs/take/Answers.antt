-- `records::runs::take` meets its contract. Assumes nothing.
use mathlib.Core.Path.{sym, ap, ◌∙◌}
use lib.Seq.{sets}
use Rattle.records.proofs.Loops
use Rattle.records.proofs.runs.take.Goals as goal

pub loop-i-preserved : goal.loop-i-preserved
loop-i-preserved g c = Loops.takes _ _ _ _ _ _ _ c.loop-i-test.true _ (rw c.WIDTH.ensures at c.read.ensures) ∙ c.loop-i.invariant

pub returns : goal.returns
returns g c =
    sym (Loops.taken _ _ _ _ _ _ _ c.loop-i-test.false)
    ∙ c.loop-i.invariant
    ∙ ap (sets c.args.list.now 0) (Loops.to_take_all _ _ _ _ _)
