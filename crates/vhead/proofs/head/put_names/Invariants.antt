-- `vhead::head::put_names` meets its contract. The invariant: the names that are left, put on what is there, give the whole. Assumes nothing.
use Prim.Native.Nat.{◌+◌, ◌*◌, ◌-◌, ◌≤◌}
use Rattle.vhead.specs.Heads.{name_rows}
use Rattle.vset.proofs.Columns
use Rattle.vhead.proofs.head.put_names.Given as goal

abbrev pub invariant-loop-i : goal.invariant-loop-i
invariant-loop-i l = (l.at ≤ 10 + 8 * l.fields + 65537 * l.i) × Columns.Filling 2 l.fields (name_rows l.start l.part l.fields (10 + 8 * l.fields)) l.initial.list (name_rows l.start l.part (l.fields - l.i) l.at) l.list l.i
