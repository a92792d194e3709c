-- `wire::write_whole` meets its contract. The invariant: the first i bytes are put in place. Assumes nothing.
use mathlib.Core.Path.{◌≡◌}
use lib.ListN.{take}
use Rattle.wire.specs.Numbers.{bytes, put}
use Rattle.wire.proofs.write_whole.Given as goal

abbrev pub invariant-loop-i : goal.invariant-loop-i
invariant-loop-i g l = l.s ≡ put l.initial.s l.at (take l.i (bytes g.row.WIDTH l.x))
