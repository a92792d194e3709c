-- `vgroup::group::check_pack` meets its contract. Assumes nothing.
use mathlib.Core.Path.{sym, ◌∙◌}
use Rattle.vgroup.proofs.Groups
use Rattle.vgroup.proofs.group.check_pack.Goals as goal

pub returns-then-members-ne0 : goal.returns-then-members-ne0
returns-then-members-ne0 c = sym (Groups.pack_odd _ _ _ _ c.if-members-ne0.true)

pub returns-then-members-gt-MOST_COUNT : goal.returns-then-members-gt-MOST_COUNT
returns-then-members-gt-MOST_COUNT c = sym (Groups.pack_many _ _ _ _ c.if-members-ne0.false c.if-members-gt-MOST_COUNT.true)

pub returns : goal.returns
returns c = c.check_pack.ensures ∙ sym (Groups.pack_tail_fault _ _ _ _ c.if-members-ne0.false c.if-members-gt-MOST_COUNT.false)
