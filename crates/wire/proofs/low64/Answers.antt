-- `wire::low64` meets its contract: two halves. Assumes nothing.
use native.Mathlib.Omega.{arith}
use Rattle.wire.specs.declared.ByteOrder.TheVariants.{LittleEndian}
use Rattle.wire.proofs.Numbers
use Rattle.wire.proofs.low64.Goals as goal

pub returns-then-s-at : goal.returns-then-s-at
returns-then-s-at c = Numbers.reads_past LittleEndian 8 _ _ c.if-s-at.true

pub returns : goal.returns
returns c =
    let a = c.args in
    record { is = omega (arith, Numbers.number_split LittleEndian 4 4 a.s.now a.at); small = omega arith }
