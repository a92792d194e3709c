-- `directory::doubts::suspect` meets its contract. The invariant: what holds of the slots of the blocks so far. Assumes nothing.
use Rattle.directory.proofs.Doubting
use Rattle.directory.proofs.doubts.suspect.Given as goal

abbrev pub invariant-loop-before : goal.invariant-loop-before
invariant-loop-before l = Doubting.Suspects l.image l.before l.b l.highest l.windows
