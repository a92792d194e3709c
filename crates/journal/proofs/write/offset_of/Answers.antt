-- `journal::write::offset_of` meets its contract. Assumes nothing.
use mathlib.Core.Path.{sym, ◌∙◌}
use borrow.Author.Tests.{eqb-true, eqb-false}
use Rattle.journal.proofs.Runs
use Rattle.journal.proofs.write.offset_of.Goals as goal

pub returns-then-is_empty : goal.returns-then-is_empty
returns-then-is_empty c = sym (Runs.offset_empty _ _ (eqb-true _ _ (sym c.is_empty.ensures ∙ c.if-is_empty.true)))

pub returns-else-is_empty : goal.returns-else-is_empty
returns-else-is_empty c = sym (Runs.offset_full _ _ (eqb-false _ _ (sym c.is_empty.ensures ∙ c.if-is_empty.false)))
