-- `hdf4::field_table::hdf4_read_fields` meets its contract. The invariant: the first i entries are the first i fields. Assumes nothing.
use mathlib.Core.Path.{◌≡◌}
use Rattle.hdf4.specs.Steps.{filled}
use Rattle.hdf4.proofs.field_table.hdf4_read_fields.Given as goal

abbrev pub invariant-loop-i : goal.invariant-loop-i
invariant-loop-i l = l.table ≡ filled l.image l.r l.i l.initial.table
