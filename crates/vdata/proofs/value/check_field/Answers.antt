-- `vdata::value::check_field` meets its contract. Assumes nothing.
use native.Mathlib.Omega.{arith}
use mathlib.Core.Path.{ap}
use Rattle.vhead.proofs.Heads
use Rattle.vdata.proofs.value.check_field.Goals as goal

pub overflow_cast-field : goal.overflow_cast-field
overflow_cast-field c = omega (arith, c.if-h-field.false, ap (λ h. h.fields) c.requires, Heads.fields_few c.args.part.now (λ i. (c.type_inv.part i).fits))
