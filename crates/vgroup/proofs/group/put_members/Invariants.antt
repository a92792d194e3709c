-- `vgroup::group::put_members` meets its contract. The invariant: the members that are left, put on what is there, give the whole. Assumes nothing.
use Rattle.vset.proofs.Columns
use Rattle.vgroup.proofs.Groups
use Rattle.vgroup.proofs.group.put_members.Given as goal

abbrev pub invariant-loop-i : goal.invariant-loop-i
invariant-loop-i l = Columns.Filling 2 l.count (Groups.all_members l.part l.count) l.initial.list (Groups.members_after l.part l.count l.i) l.list l.i
