-- `directory::doubts::note_slot` meets its contract. Assumes nothing.
use mathlib.Core.Path.{sym, ◌∙◌}
use borrow.Author.Tests.{not-true, not-false}
use Rattle.directory.proofs.Doubting
use Rattle.directory.proofs.doubts.note_slot.Goals as goal
use Rattle.directory.proofs.doubts.note_slot.Goals.{then-mark-window-via-then-mark-window, then-mark-window-via-else-mark-window+then-read16-eq-FREE, Start}

pub returns-then-mark-window : goal.returns-then-mark-window
returns-then-mark-window c =
    let p = c.requires in
    Doubting.note_other _ _ _ _ _ p.3 p.4 _ (λ live e. elim c.then-mark-window.branch [
      | then-mark-window-via-then-mark-window w ↦ w.if-mark-window.true (rw c.mark_at-mark.ensures.0 e)
      | then-mark-window-via-else-mark-window+then-read16-eq-FREE w ↦ live (sym w.read16.ensures.is ∙ w.if-read16-eq-FREE.true)
    ])

pub returns-then-not-is_set : goal.returns-then-not-is_set
returns-then-not-is_set c =
    let p = c.requires in
    let m = c.mark_at-mark.ensures in
    rw c.set.ensures (Doubting.note_new _ _ _ _ _ p.3 p.4 _ _ m.0 m.1 (sym c.is_set.ensures ∙ not-true _ c.if-not-is_set.true-raw))

pub returns-then-clashes : goal.returns-then-clashes
returns-then-clashes c =
    let p = c.requires in
    let m = c.mark_at-mark.ensures in
    rw c.set-then-clashes.ensures (Doubting.note_doubted _ _ _ _ _ p.3 p.4 _ _ m.0 m.1 (sym c.is_set.ensures ∙ not-false _ c.if-not-is_set.false-raw))

pub returns-else-clashes : goal.returns-else-clashes
returns-else-clashes c =
    let p = c.requires in
    let m = c.mark_at-mark.ensures in
    Doubting.note_sure _ _ _ _ _ p.3 p.4 _ _ m.0 m.1 (sym c.is_set.ensures ∙ not-false _ c.if-not-is_set.false-raw) (c.clashes.ensures c.if-clashes.false)
