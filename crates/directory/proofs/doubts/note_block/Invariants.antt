-- `directory::doubts::note_block` meets its contract. The invariant: what holds of the slots before slot i. Assumes nothing.
use Rattle.directory.proofs.Doubting
use Rattle.directory.proofs.doubts.note_block.Given as goal

abbrev pub invariant-loop-i : goal.invariant-loop-i
invariant-loop-i l = Doubting.Noting l.image l.before l.i l.window l.seen l.initial.doubts l.doubts
