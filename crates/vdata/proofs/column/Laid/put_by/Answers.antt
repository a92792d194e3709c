-- `vdata::column::Laid::put_by` meets its contract. The invariant: the values that are left, put on what is there, give the whole. Assumes nothing.
use native.Mathlib.Omega.{arith}
use mathlib.Core.Path.{sym, subst}
use Rattle.vdata.specs.Steps.{Fixed}
use Rattle.vdata.proofs.Widths
use Rattle.vdata.proofs.Columns
use Rattle.vdata.proofs.column.Laid.put_by.Goals as goal

pub read_number-n-requires : goal.read_number-n-requires
read_number-n-requires g c =
    let w = c.requires.0 in
    let there = c.args.self.now.there in
    (subst Fixed (sym w) (Widths.width_fixed _ there.known), omega (arith, there.inside _ c.loop-i-test.true, w))

pub bits-requires : goal.bits-requires
bits-requires g c = let p = c.requires in Columns.bits_room _ _ _ _ _ _ _ p.0 p.1 c.read_number-n.ensures c.greatest-most.ensures

pub loop-i-preserved : goal.loop-i-preserved
loop-i-preserved g c =
    let p = c.requires in
    Columns.putting_next c.loop-i.invariant c.loop-i-test.true _ (Columns.bits_read _ _ _ _ _ _ _ p.0 p.1 c.read_number-n.ensures c.greatest-most.ensures _ c.bits.ensures)

pub returns : goal.returns
returns g c = Columns.putting_done c.loop-i.invariant c.loop-i-test.false
