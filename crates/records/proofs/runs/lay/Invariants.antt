-- `records::runs::lay` meets its contract. Assumes nothing.
use mathlib.Core.Path.{◌≡◌}
use Rattle.records.proofs.Loops
use Rattle.records.proofs.runs.lay.Given as goal

abbrev pub invariant-loop-i : goal.invariant-loop-i
invariant-loop-i g l =
    let laying = Loops.laying g.T.Number.value g.T.Number.WIDTH l.list l.at in
    laying l.out l.i ≡ laying l.initial.out 0
