-- `vdata::inside::low64` meets its contract. Assumes nothing.
use native.Mathlib.Omega.{arith}
use Rattle.wire.specs.declared.ByteOrder.TheVariants.{LittleEndian}
use Rattle.wire.proofs.Numbers
use Rattle.vdata.proofs.inside.low64.Goals as goal

pub returns : goal.returns
returns c =
    let a = c.args in
    record { is = omega (arith, Numbers.number_split LittleEndian 4 4 a.part.now a.at); small = omega arith }
