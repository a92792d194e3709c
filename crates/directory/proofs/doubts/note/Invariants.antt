-- `directory::doubts::note` meets its contract. The invariant: what holds of the slots of the blocks so far. Assumes nothing.
use Rattle.directory.proofs.Doubting
use Rattle.directory.proofs.doubts.note.Given as goal

abbrev pub invariant-loop-before : goal.invariant-loop-before
invariant-loop-before l = Doubting.Notes l.image l.before l.b l.window l.seen l.initial.doubts l.doubts
