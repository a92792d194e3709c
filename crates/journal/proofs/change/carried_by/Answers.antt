-- `journal::change::carried_by` meets its contract. Assumes nothing.
use mathlib.Core.Path.{sym, ◌∙◌}
use Rattle.journal.proofs.Trailers
use Rattle.journal.proofs.change.carried_by.Goals as goal

pub returns-then-carries : goal.returns-then-carries
returns-then-carries c = sym (Trailers.ending_long _ (sym c.carries.ensures ∙ c.if-carries.true))

pub returns-then-carries-2 : goal.returns-then-carries-2
returns-then-carries-2 c = sym (Trailers.ending_old _ (sym c.carries.ensures ∙ c.if-carries.false) (sym c.carries-2.ensures ∙ c.if-carries-2.true))

pub returns : goal.returns
returns c = sym (Trailers.ending_none _ (sym c.carries.ensures ∙ c.if-carries.false) (sym c.carries-2.ensures ∙ c.if-carries-2.false))
