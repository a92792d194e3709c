-- `directory::doubts::find` meets its contract. The invariant: the windows so far are noted, if they are marked. Assumes nothing.
use mathlib.Core.Path.{sym, ◌∙◌}
use Rattle.directory.proofs.Doubting
use Rattle.directory.proofs.doubts.find.Goals as goal
use Rattle.directory.proofs.doubts.find.Goals.{then-is_set, else-is_set}

pub loop-window-init : goal.loop-window-init
loop-window-init c = Doubting.noticed_start _ _ _ _ c.requires.1

pub loop-window-preserved : goal.loop-window-preserved
loop-window-preserved c =
    let inv = c.loop-window.invariant in
    let is = c.is_set.ensures in
    elim c.if-is_set.branch [
      | then-is_set w ↦ rw w.doubts-is (Doubting.noticed_next _ _ _ _ _ inv _ w.note.ensures)
      | else-is_set w ↦ rw w.doubts-is (Doubting.noticed_skip _ _ _ _ _ inv (sym is ∙ w.if-is_set.false))
    ]

pub returns : goal.returns
returns c = Doubting.noticed_all _ _ _ _ _ c.loop-window.invariant c.loop-window-test.false c.suspect.ensures
