-- `directory::slot::base` meets its contract. Assumes nothing.
use native.Mathlib.Omega.{arith}
use mathlib.Core.Path.{sym}
use Rattle.directory.proofs.Slots
use Rattle.directory.proofs.slot.base.Goals as goal

pub returns-in-16384-to-32767 : goal.returns-in-16384-to-32767
returns-in-16384-to-32767 c = sym (Slots.base_between _ (omega arith) (omega arith))

pub returns-in_default : goal.returns-in_default
returns-in_default c = sym (Slots.base_below _ (omega arith))

pub returns-in_default-2 : goal.returns-in_default-2
returns-in_default-2 c = sym (Slots.base_above _ (omega arith))
