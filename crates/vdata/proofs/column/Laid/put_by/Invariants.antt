-- `vdata::column::Laid::put_by` meets its contract. The invariant: the values that are left, put on what is there, give the whole. Assumes nothing.
use Rattle.vdata.proofs.Columns
use Rattle.vdata.proofs.column.Laid.put_by.Given as goal

abbrev pub invariant-loop-i : goal.invariant-loop-i
invariant-loop-i g l =
    let x = l.self in
    Columns.Putting x.code x.part.now x.first x.step x.count l.initial.out l.out l.i
