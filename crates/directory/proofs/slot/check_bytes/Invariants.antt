-- `directory::slot::check_bytes` meets its contract. The invariant: what is still to be followed decides, and the blocks followed leave
-- the gap free. Assumes nothing.
use Rattle.directory.proofs.Gaps
use Rattle.directory.proofs.slot.check_bytes.Given as goal

abbrev pub invariant-loop-left : goal.invariant-loop-left
invariant-loop-left l = Gaps.Searched l.image l.shape.blocks l.a l.e l.around l.b l.left

abbrev pub decreases-loop-left : goal.decreases-loop-left
decreases-loop-left l = l.left
