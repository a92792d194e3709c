-- `vset::column::lay_column` meets its contract. The invariant: the numbers that are left, laid on what is there, give the whole. Assumes nothing.
use mathlib.Core.Path.{◌≡◌}
use Rattle.vset.proofs.Columns
use Rattle.vset.proofs.column.lay_column.Given as goal

abbrev pub invariant-loop-i : goal.invariant-loop-i
invariant-loop-i l = let laying = Columns.laying l.at l.table l.first l.step l.count in laying l.out l.i ≡ laying l.initial.out 0
