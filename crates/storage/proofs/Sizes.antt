-- The size of an element, case by case. Assumes nothing.
use Prim.Native.Nat.{ℕ}
use mathlib.Core.Path.{◌≡◌, ap, ◌∙◌}
use mathlib.Core.List.{List, [], ◌∷◌}
use Rattle.answer.specs.Answer.{grant, refuse}
use Rattle.answer.proofs.Answer.{unless_passes, unless_stops}
use Rattle.directory.specs.Opening.{open_of}
use Rattle.directory.specs.Lookup.{find}
use Rattle.directory.proofs.Opens.{opened_goes}
use Rattle.storage.specs.Elements.{element_at}
use Rattle.storage.specs.Copies.{Stored}
use Rattle.storage.specs.Sizes.{size_of_stored, size_found, size_of}
use Rattle.storage.specs.declared.element.Element.{Element}

module _ (p : ℕ) (x : Stored) where
  pub size_broken : (x.record_fault ≡ 0 → ⊥) → size_of_stored p x ≡ refuse 1 x.record_fault p
  unfolding size_of_stored
  size_broken z = unless_stops 1 x.record_fault p _ z

  pub size_granted : x.record_fault ≡ 0 → size_of_stored p x ≡ grant (x.size ∷ [])
  unfolding size_of_stored
  size_granted e = unless_passes 1 x.record_fault p _ e

-- where the image opens
pub size_goes : (s : List ℕ) (tag ref : ℕ) → (open_of s).number ≡ 0 → (x : Element) → element_at s (find s tag ref) ≡ x → size_of s tag ref ≡ size_found s x
unfolding size_of
size_goes s tag ref sound x found = opened_goes 1 s _ sound ∙ ap (size_found s) found
