-- `wire::read_bytes` meets its contract. The invariant: n is the number in the i highest bytes. Assumes nothing.
use native.Mathlib.Omega.{arith}
use Rattle.std.proofs.Common.{rules}
use Rattle.wire.proofs.Numbers
use Rattle.wire.proofs.read_bytes.Goals as goal

pub returns-then-s-at : goal.returns-then-s-at
returns-then-s-at c = Numbers.reads_past _ _ _ _ c.if-s-at.true

pub loop-i-init : goal.loop-i-init
loop-i-init c = Numbers.reads_none _ _ _

pub overflow_mul-n : goal.overflow_mul-n
overflow_mul-n c = omega (arith, Numbers.byte_room c.loop-i.i c.loop-i.n 0 (omega arith) c.loop-i.invariant.small (omega arith))

pub overflow_add-n : goal.overflow_add-n
overflow_add-n c = omega (arith, Numbers.byte_room c.loop-i.i c.loop-i.n c.read8.result (omega arith) c.loop-i.invariant.small c.read8.ensures.small)

pub loop-i-preserved : goal.loop-i-preserved
loop-i-preserved c = Numbers.reads_next _ _ c.loop-i.i _ _ _ _ (omega arith) c.loop-i.invariant (rw c.next_byte.ensures at c.read8.ensures)

-- written out, so that a refusal names this function: an open goal is told at the line of its attribute
pub returns : goal.returns
returns c = search rules
