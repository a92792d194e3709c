-- `storage::linked::Lookups::seen` meets its contract. Assumes nothing.
use mathlib.Core.Path.{refl, sym, ◌∙◌}
use Rattle.storage.proofs.Steps
use Rattle.storage.proofs.linked.Lookups.seen.Goals as goal

pub returns-else-is_set : goal.returns-else-is_set
returns-else-is_set c = (
  c.if-is_set.false ∙ sym (Steps.unmarked _ _ _ _ c.requires _ (rw c.mark_of.ensures at (sym c.is_set.ensures ∙ c.if-is_set.false))),
  refl,
)
