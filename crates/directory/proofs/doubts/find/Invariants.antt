-- `directory::doubts::find` meets its contract. The invariant: the windows so far are noted, if they are marked. Assumes nothing.
use Rattle.directory.proofs.Doubting
use Rattle.directory.proofs.doubts.find.Given as goal

abbrev pub invariant-loop-window : goal.invariant-loop-window
invariant-loop-window l = Doubting.Noticed l.image l.shape.blocks l.window l.windows l.doubts
