-- The claims about what is granted and what is refused: an edit or an undo is granted exactly if its rules hold, and a number and a place are
-- answered exactly if the first rule that is broken has them. Assumes nothing.
use Prim.Native.Nat.{ℕ}
use mathlib.Core.Path.{◌≡◌}
use mathlib.Core.Logic.{◌↔◌}
use mathlib.Core.List.{List}
use lib.ListN.{take}
use Rattle.wire.specs.Numbers.{Bytes}
use Rattle.answer.specs.Rules.{AllHold, FirstBroken}
use Rattle.journal.specs.Outcomes.{granted, refused}
use Rattle.journal.specs.Buffers.{add_in, replace_in, remove_in, undo_in}
use Rattle.journal.specs.Rules.{add_rules, replace_rules, remove_rules, undo_rules, image_before}
use Rattle.journal.proofs.Rules.{outcome_exactly, add_by, replace_by, remove_by}
use Rattle.journal.proofs.UndoRules.{undo_by_lem, undo_is}

module _ (buffer : List ℕ) (n desk tag ref : ℕ) (content : List ℕ) where
  pub add_granted : ((t : List ℕ) × (add_in buffer n desk tag ref content ≡ granted t)) ↔ AllHold (add_rules buffer n tag ref content)
  add_granted = (outcome_exactly _ _ (add_by buffer n desk tag ref content)).0

  pub add_refused : (number place : ℕ) → (add_in buffer n desk tag ref content ≡ refused number place) ↔ FirstBroken (add_rules buffer n tag ref content) number place
  add_refused = (outcome_exactly _ _ (add_by buffer n desk tag ref content)).1

  pub replace_granted : ((t : List ℕ) × (replace_in buffer n desk tag ref content ≡ granted t)) ↔ AllHold (replace_rules buffer n tag ref content)
  replace_granted = (outcome_exactly _ _ (replace_by buffer n desk tag ref content)).0

  pub replace_refused : (number place : ℕ)
      → (replace_in buffer n desk tag ref content ≡ refused number place) ↔ FirstBroken (replace_rules buffer n tag ref content) number place
  replace_refused = (outcome_exactly _ _ (replace_by buffer n desk tag ref content)).1

module _ (buffer : List ℕ) (n desk tag ref : ℕ) where
  pub remove_granted : ((t : List ℕ) × (remove_in buffer n desk tag ref ≡ granted t)) ↔ AllHold (remove_rules buffer n tag ref)
  remove_granted = (outcome_exactly _ _ (remove_by buffer n desk tag ref)).0

  pub remove_refused : (number place : ℕ) → (remove_in buffer n desk tag ref ≡ refused number place) ↔ FirstBroken (remove_rules buffer n tag ref) number place
  remove_refused = (outcome_exactly _ _ (remove_by buffer n desk tag ref)).1

-- the image that undo restores is as long as the trailer says, with the old bytes in their place
module _ (buffer : List ℕ) (n desk : ℕ) (bytes : Bytes buffer) where
  pub undo_granted : ((t : List ℕ) × (undo_in buffer n desk ≡ granted t)) ↔ AllHold (undo_rules buffer n desk)
  undo_granted = (outcome_exactly _ _ (undo_by_lem buffer n desk bytes)).0

  pub undo_refused : (number place : ℕ) → (undo_in buffer n desk ≡ refused number place) ↔ FirstBroken (undo_rules buffer n desk) number place
  undo_refused = (outcome_exactly _ _ (undo_by_lem buffer n desk bytes)).1

  pub undo_restores : (t : List ℕ) → undo_in buffer n desk ≡ granted t → t ≡ image_before (take n buffer)
  undo_restores = undo_is buffer n desk bytes
