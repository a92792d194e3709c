-- `storage::element::find` meets its contract. Assumes nothing.
use mathlib.Core.Path.{sym, ◌∙◌}
use Rattle.directory.specs.Rules.{IsStored}
use Rattle.directory.proofs.Slots
use Rattle.storage.proofs.Found
use Rattle.storage.proofs.element.find.Goals as goal
use Rattle.storage.proofs.element.find.Goals.{Else-is_unstored}

-- past the first test it is stored
stored : (c : Else-is_unstored) → IsStored c.args.image.now c.in-Ok.slot
stored c = (Slots.stored_is _ _).0 (sym c.is_unstored.ensures ∙ c.if-is_unstored.false)

pub is_unstored-requires : goal.is_unstored-requires
is_unstored-requires c = (Found.found_low _ (λ i. (c.type_inv.image i).fits) _ _ _ _ c.find_slot.ensures _ c.in-Ok.is)

pub size-length-requires : goal.size-length-requires
size-length-requires c =
    ((Found.found_low _ (λ i. (c.type_inv.image i).fits) _ _ _ _ c.find_slot.ensures _ c.in-Ok.is), stored (goal.at.size-length-requires c).Else-is_unstored)

pub start-requires : goal.start-requires
start-requires c = ((Found.found_low _ (λ i. (c.type_inv.image i).fits) _ _ _ _ c.find_slot.ensures _ c.in-Ok.is), c.size-length.ensures)
