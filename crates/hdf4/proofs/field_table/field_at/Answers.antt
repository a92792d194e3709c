-- `hdf4::field_table::field_at` meets its contract. Assumes nothing.
use native.Mathlib.Omega.{arith}
use Rattle.hdf4.proofs.Tables
use Rattle.hdf4.proofs.field_table.field_at.Goals as goal

pub overflow_add-result : goal.overflow_add-result
overflow_add-result c = omega (arith, Tables.name_fits _ _ _ _ c.part.ensures _ c.field-f.ensures.0 c.requires.0 c.requires.1)

pub overflow_cast-result-5 : goal.overflow_cast-result-5
overflow_cast-result-5 c = omega (arith, Tables.name_fits _ _ _ _ c.part.ensures _ c.field-f.ensures.0 c.requires.0 c.requires.1)
