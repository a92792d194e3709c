-- `records::runs::take` meets its contract. Assumes nothing.
use mathlib.Core.Path.{◌≡◌}
use Rattle.records.proofs.Loops
use Rattle.records.proofs.runs.take.Given as goal

abbrev pub invariant-loop-i : goal.invariant-loop-i
invariant-loop-i g l =
    let taking = Loops.taking g.T.Number.of g.T.Number.WIDTH l.count l.part l.at in
    taking l.list l.i ≡ taking l.initial.list 0
