-- `wire::write_bytes` meets its contract. The invariant: the first i bytes are put in place. Assumes nothing.
use native.Mathlib.Omega.{arith}
use mathlib.Core.Path.{refl}
use Rattle.wire.specs.Numbers.{put}
use Rattle.wire.proofs.Numbers
use Rattle.wire.proofs.write_bytes.Goals as goal

pub loop-i-init : goal.loop-i-init
unfolding put
loop-i-init c = refl

pub loop-i-preserved : goal.loop-i-preserved
loop-i-preserved c = Numbers.put_more _ _ _ _ c.loop-i.i _ c.loop-i.invariant (omega arith) refl

pub returns : goal.returns
returns c = Numbers.put_all _ _ _ _ c.loop-i.i c.loop-i.invariant (omega arith)
