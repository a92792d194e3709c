-- `directory::doubts::suspect_slot` meets its contract. Assumes nothing.
use mathlib.Core.Path.{sym, ◌∙◌}
use Rattle.directory.proofs.Doubting
use Rattle.directory.proofs.doubts.suspect_slot.Goals as goal

pub returns-then-read16-eq-FREE : goal.returns-then-read16-eq-FREE
returns-then-read16-eq-FREE c =
    let p = c.requires in
    Doubting.suspect_free _ _ _ _ p.1 p.2 (sym c.read16.ensures.is ∙ c.if-read16-eq-FREE.true)

pub returns-then-not-raise : goal.returns-then-not-raise
returns-then-not-raise c =
    let m = c.mark.ensures in
    rw c.set.ensures (Doubting.suspect_marked _ _ _ _ _ c.of-key.ensures _ c.requires.2 (rw c.if-not-raise.true at c.raise.ensures) _ m.0 m.1)

pub returns-else-not-raise : goal.returns-else-not-raise
returns-else-not-raise c = Doubting.suspect_above _ _ _ _ _ c.of-key.ensures _ c.requires.2 (rw c.if-not-raise.false at c.raise.ensures)
