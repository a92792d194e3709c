-- `wire::read32` meets its contract. Assumes nothing.
use native.Mathlib.Omega.{arith}
use Rattle.wire.specs.declared.ByteOrder.TheVariants.{BigEndian}
use Rattle.wire.proofs.Numbers
use Rattle.wire.proofs.read32.Goals as goal

pub returns-then-s-at : goal.returns-then-s-at
returns-then-s-at c = Numbers.reads_past BigEndian 4 _ _ c.if-s-at.true

pub returns-then-s-at-lt4 : goal.returns-then-s-at-lt4
returns-then-s-at-lt4 c =
    let a = c.args in
    record { is = omega (arith, Numbers.number_split BigEndian 2 2 a.s.now a.at); small = omega arith }

pub returns : goal.returns
returns c =
    let a = c.args in
    record { is = omega (arith, Numbers.be_four a.s.now a.at); small = omega arith }
