-- `marks::set` meets its contract. Assumes nothing.
use Prim.Native.Nat.{◌%◌}
use native.Mathlib.Omega.{arith}
use mathlib.Core.Path.{refl, sym}
use Rattle.std.proofs.lemmas.Nat.{one_shl}
use Rattle.marks.specs.Marks.{with_mark}
use Rattle.marks.proofs.Marks.{mark_outside}
use Rattle.marks.proofs.set.Goals as goal

pub returns-then-n-marks : goal.returns-then-n-marks
unfolding with_mark
returns-then-n-marks c = rw (one_shl (c.args.n % 64) 64 (omega arith)) refl

pub returns-else-n-marks : goal.returns-else-n-marks
returns-else-n-marks c = sym (mark_outside _ _ c.if-n-marks.false)
