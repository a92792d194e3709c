-- The answer of a choice between two images from what is found in each, and the bytes that it names. Assumes nothing.
use Prim.Native.Nat.{ℕ}
use mathlib.Core.Path.{◌≡◌, ap, ◌∙◌}
use mathlib.Core.Bool.{true, false}
use mathlib.Core.List.{List, [], ◌∷◌}
use Rattle.answer.specs.Answer.{Answer, grant, refusal}
use Rattle.answer.specs.declared.Refusal.{Refusal}
use Rattle.answer.proofs.Tests.{on_true, on_false}
use Rattle.wire.specs.Numbers.{part}
use Rattle.directory.specs.Opening.{open_of, opened}
use Rattle.directory.specs.Lookup.{find}
use Rattle.directory.proofs.Opens.{opened_goes}
use Rattle.storage.specs.Elements.{element_at, is_absent, plain_only}
use Rattle.storage.specs.Choices.{part_in, choose_found, choose_of, chosen_bytes}
use Rattle.storage.specs.declared.element.Element.{Element}

-- where both images open
module _ (s t : List ℕ) (tag ref : ℕ) (sound : (open_of s).number ≡ 0) (other : (open_of t).number ≡ 0) (x : Element) (e : element_at s (find s tag ref) ≡ x) where
  pub choose_goes : choose_of s t tag ref ≡ choose_found x (element_at t (find t tag ref))
  unfolding choose_of
  choose_goes =
      let found : Answer = choose_found (element_at s (find s tag ref)) (element_at t (find t tag ref)) in
      opened_goes 3 s (opened 3 t found) sound ∙ opened_goes 3 t found other ∙ ap (λ z. choose_found z (element_at t (find t tag ref))) e

  pub choose_current : is_absent x ≡ false → choose_of s t tag ref ≡ part_in 1 (plain_only x)
  unfolding choose_found
  choose_current z = choose_goes ∙ on_false (is_absent x) _ _ z

  pub choose_fallback : is_absent x ≡ true → (y : Element) → element_at t (find t tag ref) ≡ y → choose_of s t tag ref ≡ part_in 2 (plain_only y)
  unfolding choose_found
  choose_fallback z y f = choose_goes ∙ on_true (is_absent x) _ _ z ∙ ap (λ z. part_in 2 (plain_only z)) f

-- ---- The bytes that an answer names

module _ (s t : List ℕ) (answer : Answer) where
  pub bytes_current : (offset size : ℕ) → answer ≡ grant (1 ∷ offset ∷ size ∷ []) → chosen_bytes s t answer ≡ part s offset size
  unfolding chosen_bytes
  bytes_current offset size e = rw e

  pub bytes_fallback : (offset size : ℕ) → answer ≡ grant (2 ∷ offset ∷ size ∷ []) → chosen_bytes s t answer ≡ part t offset size
  unfolding chosen_bytes
  bytes_fallback offset size e = rw e

  pub bytes_neither : (r : Refusal) → answer ≡ refusal 3 r → chosen_bytes s t answer ≡ []
  unfolding chosen_bytes
  bytes_neither r e = rw e
