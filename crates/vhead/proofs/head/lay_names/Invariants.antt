-- `vhead::head::lay_names` meets its contract. The invariant: the names that are left, laid on what is there, give the whole. Assumes nothing.
use Rattle.vhead.proofs.HeadsPacked
use Rattle.vhead.proofs.head.lay_names.Given as goal

abbrev pub invariant-loop-i : goal.invariant-loop-i
invariant-loop-i l = HeadsPacked.LayingNames l.lengths l.names l.initial.out l.at l.out l.from l.i
