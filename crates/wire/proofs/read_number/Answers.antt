-- `wire::read_number` meets its contract. Assumes nothing.
use native.Mathlib.Omega.{arith}
use Rattle.wire.specs.declared.ByteOrder.TheVariants.{BigEndian, LittleEndian}
use Rattle.wire.proofs.Numbers
use Rattle.wire.proofs.read_number.Goals as goal

pub returns-in-1 : goal.returns-in-1
returns-in-1 c = Numbers.reads_asked _ BigEndian c.in-BigEndian.is _ 1 c.in-1.is (omega arith) _ _ _ c.read8.ensures

pub returns-in-2 : goal.returns-in-2
returns-in-2 c = Numbers.reads_asked _ BigEndian c.in-BigEndian.is _ 2 c.in-2.is (omega arith) _ _ _ c.read16.ensures

pub returns-in-4 : goal.returns-in-4
returns-in-4 c = Numbers.reads_asked _ BigEndian c.in-BigEndian.is _ 4 c.in-4.is (omega arith) _ _ _ c.read32.ensures

pub returns-in-8 : goal.returns-in-8
returns-in-8 c = Numbers.reads_asked _ BigEndian c.in-BigEndian.is _ 8 c.in-8.is (omega arith) _ _ _ c.read64.ensures

pub returns-in-1-width : goal.returns-in-1-width
returns-in-1-width c =
    Numbers.reads_asked _ LittleEndian c.in-LittleEndian.is _ 1 c.in-1-width.is (omega arith) _ _ _ (Numbers.reads_one LittleEndian _ _ _ c.read8-in-1-width.ensures)

pub returns-in-2-width : goal.returns-in-2-width
returns-in-2-width c = Numbers.reads_asked _ LittleEndian c.in-LittleEndian.is _ 2 c.in-2-width.is (omega arith) _ _ _ c.low16.ensures

pub returns-in-4-width : goal.returns-in-4-width
returns-in-4-width c = Numbers.reads_asked _ LittleEndian c.in-LittleEndian.is _ 4 c.in-4-width.is (omega arith) _ _ _ c.low32.ensures

pub returns-in-8-width : goal.returns-in-8-width
returns-in-8-width c = Numbers.reads_asked _ LittleEndian c.in-LittleEndian.is _ 8 c.in-8-width.is (omega arith) _ _ _ c.low64.ensures
