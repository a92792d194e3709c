-- `journal::change::change_at` meets its contract. Assumes nothing.
use borrow.Author.Tests.{eq-eqb, ne_eqb}
use Rattle.journal.specs.Trailers.{past_first}
use Rattle.journal.proofs.change.change_at.Goals as goal
use Rattle.journal.proofs.change.change_at.Goals.{then-altered-eq-SLOT, else-altered-eq-SLOT}

pub returns : goal.returns
unfolding past_first
returns c =
    rw (c.read32-2.ensures.is, c.previous_of.ensures)
    (elim c.if-altered-eq-SLOT.branch [
      | then-altered-eq-SLOT w ↦
          rw (w.second-is, w.read32.ensures.is, w.read32-then-altered-eq-SLOT.ensures.is, past_first, eq-eqb _ _ w.if-altered-eq-SLOT.true)
      | else-altered-eq-SLOT w ↦ rw (w.second-is, past_first, ne_eqb _ _ w.if-altered-eq-SLOT.false)
    ])
