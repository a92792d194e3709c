-- `vgroup::group::put_members` meets its contract. The invariant: the members that are left, put on what is there, give the whole. Assumes nothing.
use Rattle.vset.proofs.Columns
use Rattle.vgroup.proofs.Groups
use Rattle.vgroup.proofs.group.put_members.Goals as goal

pub loop-i-preserved : goal.loop-i-preserved
loop-i-preserved c =
    rw (c.read16.ensures.is, c.read16-in-loop-i.ensures.is)
    (Columns.filling_two c.loop-i-test.true c.loop-i.invariant (Groups.members_next _ _ _ c.loop-i-test.true))

pub returns : goal.returns
returns c = Columns.filling_done c.loop-i.invariant (Groups.members_none _ _ _ c.loop-i-test.false)
