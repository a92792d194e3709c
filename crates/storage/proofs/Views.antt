-- A view's answer from what is found, and that it names bytes inside the image. Assumes nothing.
use Prim.Native.Nat.{ℕ}
use mathlib.Core.Path.{◌≡◌, refl, sym, ap, ◌∙◌}
use mathlib.Core.List.{List, [], ◌∷◌}
use lib.ListN.{get_or}
use Rattle.answer.specs.Answer.{Answer, grant, refusal}
use Rattle.answer.specs.declared.Refusal.{Refusal}
use Rattle.wire.specs.Numbers.{part}
use Rattle.directory.specs.Opening.{open_of}
use Rattle.directory.specs.Lookup.{find, find_in}
use Rattle.directory.specs.Steps.Opens.{Opens}
use Rattle.directory.proofs.Opens.{opened_goes, opened_passed}
use Rattle.storage.specs.Elements.{part_at, Located, element_at, plain_only, located_at}
use Rattle.std.specs.Prelude.{Ok, Err}
use Rattle.storage.specs.Views.{viewed_numbers, view_at, view_of, bytes_of}
use Rattle.storage.specs.declared.element.Element.{Element}
use Rattle.storage.specs.declared.element.Element.TheVariants.{Plain}
use Rattle.storage.proofs.Elements.{FoundPlain, found_plain, plain_passed, located_opened}

pub view_goes : (s : List ℕ) (tag ref : ℕ) → (open_of s).number ≡ 0 → (x : Element) → element_at s (find s tag ref) ≡ x → view_of s tag ref ≡ view_at (plain_only x)
unfolding view_of
view_goes s tag ref sound x e = opened_goes 2 s _ sound ∙ ap (λ y. view_at (plain_only y)) e

-- the same of what was located in a chain of blocks
pub view_opened : (s : List ℕ) (blocks tag ref : ℕ) → Opens s blocks → (l : Located) → l ≡ located_at s (find_in s blocks tag ref) → viewed_numbers l ≡ view_of s tag ref
unfolding view_of
view_opened s blocks tag ref o l is = told l ∙ ap view_at (is ∙ located_opened s blocks tag ref o) ∙ sym (opened_goes 2 s _ o.sound)
  where
    told : (m : Located) → viewed_numbers m ≡ view_at m
    told (Ok x) = refl
    told (Err r) = refl

-- a view that is granted found a plain element, and answers where it stands
pub granted_view : (s : List ℕ) (tag ref offset size : ℕ) → view_of s tag ref ≡ grant (offset ∷ size ∷ []) → (p : ℕ) × FoundPlain s tag ref p offset size
unfolding view_of
granted_view s tag ref offset size e =
    let sound = opened_passed 2 s (view_at (plain_only (element_at s (find s tag ref)))) (ap (λ a. a.number) e) in
    let goes = opened_goes 2 s (view_at (plain_only (element_at s (find s tag ref)))) sound in
    let f = plain_passed 2 (λ p o n. grant (o ∷ n ∷ [])) (element_at s (find s tag ref)) (ap (λ a. a.number) (sym goes ∙ e)) in
    let q = sym e ∙ view_goes s tag ref sound _ f.3 in
    let o : offset ≡ f.1 = ap (λ a. get_or a.values 0 0) q in
    let n : size ≡ f.2 = ap (λ a. get_or a.values 1 0) q in
    let same : Plain (part_at f.0 f.1 f.2) ≡ Plain (part_at f.0 offset size) = cc in
    (f.0, found_plain s tag ref f.0 offset size sound (f.3 ∙ same))

-- ---- The bytes that an answer names

pub bytes_granted : (s : List ℕ) (answer : Answer) (offset size : ℕ) → answer ≡ grant (offset ∷ size ∷ []) → bytes_of s answer ≡ part s offset size
unfolding bytes_of
bytes_granted s answer offset size e = rw e

pub bytes_refused : (s : List ℕ) (answer : Answer) (r : Refusal) → answer ≡ refusal 2 r → bytes_of s answer ≡ []
unfolding bytes_of part
bytes_refused s answer r e = rw e
