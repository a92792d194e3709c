-- `vhead::head::check_fields` meets its contract. The invariant: judging the fields that are left gives the whole. Assumes nothing.
use mathlib.Core.Path.{◌∙◌}
use Rattle.vhead.proofs.HeadsJudged
use Rattle.vhead.proofs.head.check_fields.Goals as goal

pub loop-i-preserved : goal.loop-i-preserved
loop-i-preserved g c =
    let given = c.requires.1.1.0 _ _ c.loop-i-test.true c.field.ensures in
    HeadsJudged.judges_next _ _ _ _ c.loop-i.invariant c.loop-i-test.true _ given.0 given.1.size _ c.judge-so_far.ensures

pub returns : goal.returns
returns g c = c.verdict.ensures ∙ HeadsJudged.judges_done _ _ _ _ c.loop-i.invariant c.loop-i-test.false _
