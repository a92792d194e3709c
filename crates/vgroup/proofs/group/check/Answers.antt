-- `vgroup::group::check` meets its contract. Assumes nothing.
use mathlib.Core.Path.{sym}
use Rattle.vgroup.proofs.Groups
use Rattle.vgroup.proofs.group.check.Goals as goal

pub returns-then-part-group : goal.returns-then-part-group
returns-then-part-group c = sym (Groups.group_long _ (rw c.parse-group.ensures at c.if-part-group.true))

pub returns-then-group-ne-VERSION : goal.returns-then-group-ne-VERSION
returns-then-group-ne-VERSION c = sym (Groups.group_version _ (rw c.parse-group.ensures at c.if-part-group.false) (rw c.parse-group.ensures at c.if-group-ne-VERSION.true))

pub returns : goal.returns
returns c = sym (Groups.group_sound _ (rw c.parse-group.ensures at c.if-part-group.false) (rw c.parse-group.ensures at c.if-group-ne-VERSION.false))
