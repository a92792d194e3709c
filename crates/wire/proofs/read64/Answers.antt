-- `wire::read64` meets its contract: two halves. Assumes nothing.
use native.Mathlib.Omega.{arith}
use Rattle.wire.specs.declared.ByteOrder.TheVariants.{BigEndian}
use Rattle.wire.proofs.Numbers
use Rattle.wire.proofs.read64.Goals as goal

pub returns-then-s-at : goal.returns-then-s-at
returns-then-s-at c = Numbers.reads_past BigEndian 8 _ _ c.if-s-at.true

pub returns : goal.returns
returns c =
    let a = c.args in
    record { is = omega (arith, Numbers.number_split BigEndian 4 4 a.s.now a.at); small = omega arith }
