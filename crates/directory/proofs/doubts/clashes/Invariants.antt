-- `directory::doubts::clashes` meets its contract. The invariant: what is still to be searched of the blocks before decides. Assumes nothing.
use Prim.Native.Nat.{◌+◌, ◌*◌, ◌-◌}
use Rattle.directory.proofs.Checking
use Rattle.directory.proofs.doubts.clashes.Given as goal

abbrev pub invariant-loop-passed : goal.invariant-loop-passed
invariant-loop-passed l = Checking.Searching l.image l.before l.i (l.b + 6 + 12 * l.i) l.earlier (l.before - l._passed)
