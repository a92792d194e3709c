-- `hdf4::vset_calls::hdf4_read_group` meets its contract. Assumes nothing.
use native.Mathlib.Omega.{arith}
use mathlib.Core.Path.{sym, ap, ◌∙◌}
use Rattle.vgroup.specs.Groups.{group_numbers}
use Rattle.vgroup.proofs.Groups
use Rattle.hdf4.proofs.vset_calls.hdf4_read_group.Goals as goal

pub overflow_add-result : goal.overflow_add-result
overflow_add-result c = omega (arith, (Groups.group_names _ _ _ _ c.in-Ok.found.group (sym c.read.ensures.answer.answers ∙ ap group_numbers c.in-Ok.is)).0)

pub overflow_add-result-in-Ok : goal.overflow_add-result-in-Ok
overflow_add-result-in-Ok c = omega (arith, (Groups.group_names _ _ _ _ c.in-Ok.found.group (sym c.read.ensures.answer.answers ∙ ap group_numbers c.in-Ok.is)).1)
