-- `wire::write_zeros` meets its contract. The invariant: the first i zeros are put in place. Assumes nothing.
use mathlib.Core.Path.{◌≡◌}
use lib.ListN.{take, replicate}
use Rattle.wire.specs.Numbers.{put}
use Rattle.wire.proofs.write_zeros.Given as goal

abbrev pub invariant-loop-i : goal.invariant-loop-i
invariant-loop-i l = l.s ≡ put l.initial.s l.at (take l.i (replicate l.count 0))
