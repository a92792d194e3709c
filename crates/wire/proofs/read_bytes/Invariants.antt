-- `wire::read_bytes` meets its contract. The invariant: n is the number in the i highest bytes. Assumes nothing.
use Prim.Native.Nat.{◌-◌}
use Rattle.wire.specs.Numbers.{high_at, ReadsIn}
use Rattle.wire.proofs.read_bytes.Given as goal

abbrev pub invariant-loop-i : goal.invariant-loop-i
invariant-loop-i l = ReadsIn l.order l.i l.s (high_at l.order (l.count - l.i) l.at) l.n
