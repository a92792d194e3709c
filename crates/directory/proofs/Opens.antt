-- What opening's answer tells a caller: a refusal to pass on, or the blocks, among which lookups then search. Assumes nothing.
use Prim.Native.Nat.{ℕ, ◌-◌}
use mathlib.Core.Path.{◌≡◌, sym, ap, ◌∙◌}
use mathlib.Core.List.{List, [], ◌∷◌}
use lib.ListN.{length, get_or}
use Rattle.answer.specs.Search.{Hit, first}
use Rattle.answer.specs.Lent.{laid_over, Does}
use Rattle.answer.proofs.Lent.{refuses}
use Rattle.answer.specs.Answer.{Answer, grant, refuse, refusal}
use Rattle.std.specs.Prelude.{Result, Ok, Err}
use Rattle.answer.specs.Refusals.{number_of}
use Rattle.answer.specs.declared.Refusal.{Refusal}
use Rattle.answer.proofs.Answer.{unless_passes, unless_stops, unless_passed, number_positive, refusal_is}
use Rattle.directory.specs.Blocks.{blocks_of}
use Rattle.directory.specs.Slots.{slot_places, slots_of}
use Rattle.directory.specs.Opening.{opened_numbers, open_of, opened}
use Rattle.directory.specs.Links.{last_of, block_after, blocks_after}
use Rattle.directory.specs.Lookup.{has, find, find_in}
use Rattle.directory.specs.Steps.Opens.{Opens}
use Rattle.directory.specs.declared.Counts.{Counts}
use Rattle.directory.proofs.Links.{slots_along, linked_chain}
use Rattle.directory.proofs.Rules.{kept_opens, opens_kept}

-- a call goes on exactly with an image that opens
pub opened_goes : (k : ℕ) (s : List ℕ) (answer : Answer) → (open_of s).number ≡ 0 → opened k s answer ≡ answer
unfolding opened
opened_goes k s answer h = unless_passes k _ _ answer h

pub opened_stops : (k : ℕ) (s : List ℕ) (answer : Answer) → ((open_of s).number ≡ 0 → ⊥)
    → opened k s answer ≡ refuse k (open_of s).number (open_of s).place
unfolding opened
opened_stops k s answer h = unless_stops k _ _ answer h

-- a call that is not refused opened the image
pub opened_passed : (k : ℕ) (s : List ℕ) (answer : Answer) → (opened k s answer).number ≡ 0 → (open_of s).number ≡ 0
unfolding opened
opened_passed k s answer e = unless_passed k _ _ answer e

-- a refusal that opening returns
pub refusal_opens : (s : List ℕ) (r : Refusal) → open_of s ≡ refuse 3 (number_of r.rule) r.place → refusal 3 r ≡ open_of s
refusal_opens s r e = refusal_is 3 r ∙ sym e

-- ---- The blocks that opening counts

module _ (s : List ℕ) (b n l : ℕ) (e : open_of s ≡ grant (b ∷ n ∷ l ∷ [])) where
  counted : b ≡ length (blocks_of s)
  counted = ap (λ a. get_or a.values 0 0) (sym e ∙ kept_opens s (blocks_of s) (opens_kept s (ap (λ a. a.number) e)))

  opened_chain : (blocks_after s b 4 ≡ blocks_of s) × (block_after s (b - 1) 4 ≡ last_of 4 (blocks_of s))
  opened_chain = let k = opens_kept s (ap (λ a. a.number) e) in rw counted (linked_chain s (blocks_of s) k.first k.linked)

  pub opened_last : block_after s (b - 1) 4 ≡ last_of 4 (blocks_of s)
  opened_last = opened_chain.1

  pub opened_with : Opens s b
  unfolding slots_of
  opened_with =
      record {
        sound = ap (λ a. a.number) e;
        slots = sym (slots_along s b 4) ∙ ap (slot_places s) opened_chain.0;
        chain = opened_chain.0;
      }

-- the lookup among them is the image's
pub opened_find : (s : List ℕ) (blocks tag ref : ℕ) → Opens s blocks → find_in s blocks tag ref ≡ find s tag ref
unfolding find
opened_find s blocks tag ref o = ap (first (has s tag ref)) o.slots

-- a call goes on with what that lookup finds
pub opened_answer : (k : ℕ) (s : List ℕ) (blocks tag ref : ℕ) → Opens s blocks → (answer : Hit → Answer) → answer (find_in s blocks tag ref) ≡ opened k s (answer (find s tag ref))
opened_answer k s blocks tag ref o answer = ap answer (opened_find s blocks tag ref o) ∙ sym (opened_goes k s (answer (find s tag ref)) o.sound)

pub opened_does : {A : Type 0} (k : ℕ) (s : List ℕ) (blocks tag ref : ℕ) → Opens s blocks → (answer : Hit → Answer) (given : Hit → List A) (before after : List A) (numbers : Answer)
    → Does (answer (find_in s blocks tag ref)) (given (find_in s blocks tag ref)) before after numbers
    → Does (opened k s (answer (find s tag ref))) (given (find s tag ref)) before after numbers
opened_does k s blocks tag ref o answer given before after numbers d =
    let g = ap given (opened_find s blocks tag ref o) in
    let a = opened_answer k s blocks tag ref o answer in
    record { answers = d.answers ∙ a; leaves = d.leaves ∙ ap (λ x. laid_over x (given (find_in s blocks tag ref)) before) a ∙ ap (λ x. laid_over (opened k s (answer (find s tag ref))) x before) g }

-- ---- What a caller learns from opening's answer

module _ (s : List ℕ) (o : Result Counts Refusal) (answers : opened_numbers o ≡ open_of s) where
  pub accepted_with : (c : Counts) → o ≡ Ok c → Opens s c.blocks
  accepted_with c e = opened_with s _ _ _ (sym answers ∙ ap opened_numbers e)

  pub accepted_is : (c : Counts) → o ≡ Ok c → open_of s ≡ grant (c.blocks ∷ c.slots ∷ c.live ∷ [])
  accepted_is c e = sym answers ∙ ap opened_numbers e

  refused_answer : (r : Refusal) → o ≡ Err r → open_of s ≡ refuse 3 (number_of r.rule) r.place
  refused_answer r e = sym answers ∙ ap opened_numbers e ∙ refusal_is 3 r

  -- the refusal that the caller passes on
  pub refused_is : (k : ℕ) (answer : Answer) (r : Refusal) → o ≡ Err r → opened k s answer ≡ refusal k r
  refused_is k answer r e =
      let q = refused_answer r e in
      opened_stops k s answer (λ h. number_positive r.rule (sym (ap (λ a. a.number) q) ∙ h)) ∙ ap (λ a. refuse k a.number a.place) q
      ∙ sym (refusal_is k r)

  pub unopened_does : {A : Type 0} (k : ℕ) (answer : Answer) (given lent : List A) (r : Refusal) → o ≡ Err r
      → Does (opened k s answer) given lent lent (refusal k r)
  unopened_does k answer given lent r e = refuses (opened k s answer) given lent k r (refused_is k answer r e ∙ refusal_is k r)
