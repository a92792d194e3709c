-- `vdata::inside::read_number` meets its contract. Assumes nothing.
use native.Mathlib.Omega.{arith}
use Rattle.wire.specs.declared.ByteOrder.TheVariants.{BigEndian, LittleEndian}
use Rattle.wire.proofs.Numbers
use Rattle.vdata.proofs.Columns
use Rattle.vdata.proofs.inside.read_number.Goals as goal

pub returns-in-1 : goal.returns-in-1
returns-in-1 c =
    let a = c.args in
    Columns.reads_own _ BigEndian c.in-BigEndian.is _ 1 c.in-1.is a.part.now a.at _ (record { is = omega (arith, Numbers.number_one BigEndian a.part.now a.at); small = omega arith })

pub returns-in-1-width : goal.returns-in-1-width
returns-in-1-width c =
    let a = c.args in
    Columns.reads_own _ LittleEndian c.in-LittleEndian.is _ 1 c.in-1-width.is a.part.now a.at _ (record { is = omega (arith, Numbers.number_one LittleEndian a.part.now a.at); small = omega arith })
