-- `vhead::head::put_fields` meets its contract. The invariant: the fields that are left, put on what is there, give the whole. Assumes nothing.
use Rattle.vset.proofs.Columns
use Rattle.vhead.proofs.Heads
use Rattle.vhead.proofs.head.put_fields.Given as goal

abbrev pub invariant-loop-i : goal.invariant-loop-i
invariant-loop-i l = Columns.Filling 4 l.fields (Heads.all_fields l.part l.fields) l.initial.list (Heads.fields_after l.part l.fields l.i) l.list l.i
