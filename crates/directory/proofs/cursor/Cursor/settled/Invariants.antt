-- `directory::cursor::Cursor::settled` meets its contract. The invariant: what is ahead stays. Assumes nothing.
use Rattle.directory.proofs.Cursors
use Rattle.directory.proofs.cursor.Cursor.settled.Given as goal

abbrev pub invariant-loop-at : goal.invariant-loop-at
invariant-loop-at l = Cursors.Passing l.image l.initial.at l.at

abbrev pub decreases-loop-at : goal.decreases-loop-at
decreases-loop-at l = l.at.blocks
