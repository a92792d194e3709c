-- `directory::cursor::Cursor::settled` meets its contract. The invariant: what is ahead stays. Assumes nothing.
use native.Mathlib.Omega.{arith}
use Rattle.directory.proofs.Cursors
use Rattle.directory.proofs.cursor.Cursor.settled.Goals as goal

pub loop-at-init : goal.loop-at-init
loop-at-init c = Cursors.passing_none _ _ c.requires

pub loop-at-preserved : goal.loop-at-preserved
loop-at-preserved c =
    let count = c.read16.ensures in
    let link = c.read32.ensures in
    rw (count.is, link.is) (Cursors.next_block_lem _ _ _ _ _ _ c.loop-at.invariant (omega arith) (omega arith) (rw count.is at count.small) (rw link.is at link.small))

pub returns-else-at-gt0 : goal.returns-else-at-gt0
returns-else-at-gt0 c = Cursors.stands_at_end _ _ _ _ _ _ c.loop-at.invariant (omega arith) (omega arith)
