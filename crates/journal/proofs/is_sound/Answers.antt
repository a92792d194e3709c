-- `journal::is_sound` meets its contract. Assumes nothing.
use mathlib.Core.Path.{◌∙◌}
use borrow.Author.Tests.{eq-eqb, ne_eqb}
use Rattle.journal.specs.Undos.{sound}
use Rattle.journal.proofs.Outcomes
use Rattle.journal.proofs.is_sound.Goals as goal

pub returns-then-previous-previous_of : goal.returns-then-previous-previous_of
unfolding sound
returns-then-previous-previous_of c =
    rw (sound, ← c.previous_of.ensures, eq-eqb _ _ c.if-previous-previous_of.true) (c.is_ok.ensures.value ∙ Outcomes.opens_is _ _ c.open.ensures)

pub returns-else-previous-previous_of : goal.returns-else-previous-previous_of
unfolding sound
returns-else-previous-previous_of c = rw (sound, ← c.previous_of.ensures, ne_eqb _ _ c.if-previous-previous_of.false)
