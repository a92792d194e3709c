-- `vhead::head::check_fields` meets its contract. The invariant: judging the fields that are left gives the whole. Assumes nothing.
use Rattle.vhead.proofs.HeadsJudged
use Rattle.vhead.proofs.head.check_fields.Given as goal

abbrev pub invariant-loop-i : goal.invariant-loop-i
invariant-loop-i g l = HeadsJudged.Judges g.at l.count l.so_far l.i
