-- The answer of a copy and what it leaves in the lent buffer, case by case. Assumes nothing.
use Prim.Native.Nat.{ℕ, ◌<◌, ◌≤◌}
use native.Mathlib.Nat.{suc-ne-zero}
use native.Mathlib.Omega.{arith}
use mathlib.Core.Path.{◌≡◌, refl, sym, ap, ◌∙◌}
use mathlib.Core.Logic.{inl, inr}
use mathlib.Core.List.{List, [], ◌∷◌}
use lib.ListN.{length}
use borrow.Author.Tests.{le-leb, lt-leb}
use Rattle.answer.specs.Answer.{Answer, grant, refuse, carried, refuse_carrying, refusal, carrying, unless_carrying}
use Rattle.answer.specs.Lent.{Does}
use Rattle.answer.specs.Refusals.{number_of}
use Rattle.answer.specs.declared.refusals.Rule.{Rule}
use Rattle.answer.specs.declared.refusals.Rule.TheVariants.{Small}
use Rattle.answer.proofs.Answer.{number_positive, unless_with_passes, unless_with_stops, unless_passes, unless_stops, in_room_enough, in_room_short}
use Rattle.answer.proofs.Tests.{same?, le?}
use Rattle.answer.proofs.Lent.{refuses_with, refuses, grants}
use Rattle.wire.specs.Numbers.{put, part}
use Rattle.wire.proofs.Numbers.{put_front}
use Rattle.directory.specs.Slots.{content_at}
use Rattle.directory.specs.Opening.{open_of}
use Rattle.directory.specs.Lookup.{find}
use Rattle.directory.specs.Rules.{IsStored}
use Rattle.directory.specs.Named.{Named}
use Rattle.directory.proofs.Opens.{opened_goes, opened_passed}
use Rattle.std.specs.Prelude.{Result, Ok, Err}
use Rattle.storage.specs.Elements.{element_at}
use Rattle.storage.specs.Descriptions.{description_of, record_length, record_fault}
use Rattle.storage.specs.Walks.{Walk, chain_of}
use Rattle.storage.specs.Copies.{Stored, in_place, in_blocks, copy_at, copy_found, copy_of, bytes_found, element_bytes}
use Rattle.storage.specs.declared.element.Element.{Element}
use Rattle.storage.specs.declared.element.Element.TheVariants.{Absent, NotStored, Plain, Extended}
use Rattle.storage.specs.Steps.{BreaksAt, Followed}
use Rattle.storage.specs.declared.linked.Broken.{Broken}
use Rattle.storage.specs.declared.description.Description.{Description}
use Rattle.storage.proofs.Named.{named_unstored}
use Rattle.storage.proofs.Elements.{found_plain}
use Rattle.storage.proofs.Descriptions.{description_length}
use Rattle.storage.proofs.Walks.{chain_length}

-- ---- The answer

-- what an element's copy comes to: its record breaks a rule, the buffer is too short, its chain has a fault, or it is copied
pub data Case (room : ℕ) (x : Stored) : Type 0 where
  by_record : (x.record_fault ≡ 0 → ⊥) → Case room x
  by_room : x.record_fault ≡ 0 → room < x.size → Case room x
  by_chain : x.record_fault ≡ 0 → x.size ≤ room → (x.chain_fault ≡ 0 → ⊥) → Case room x
  granted : x.record_fault ≡ 0 → x.size ≤ room → x.chain_fault ≡ 0 → Case room x

module _ (room p : ℕ) (x : Stored) where
  -- what comes after the record and the room
  chained : Answer
  chained = unless_carrying 1 x.chain_fault p x.chain_index (grant (x.size ∷ 0 ∷ []))

  pub copy_record : (x.record_fault ≡ 0 → ⊥) → copy_at room p x ≡ refuse 2 x.record_fault p
  unfolding copy_at
  copy_record z = unless_stops 2 x.record_fault p _ z

  module _ (sound : x.record_fault ≡ 0) where
    pub copy_small : room < x.size → copy_at room p x ≡ refuse 2 14 0
    unfolding copy_at
    copy_small h = unless_passes 2 x.record_fault p _ sound ∙ in_room_short 2 _ _ (lt-leb _ _ h)

    module _ (fits : x.size ≤ room) where
      past_room : copy_at room p x ≡ chained
      unfolding copy_at chained
      past_room = unless_passes 2 x.record_fault p _ sound ∙ in_room_enough 2 _ _ (le-leb _ _ fits)

      pub copy_chain : (x.chain_fault ≡ 0 → ⊥) → copy_at room p x ≡ refuse_carrying 1 x.chain_fault p x.chain_index
      unfolding chained
      copy_chain z = past_room ∙ unless_with_stops (carried 1 x.chain_index) x.chain_fault p _ z

      pub copy_granted : x.chain_fault ≡ 0 → copy_at room p x ≡ grant (x.size ∷ 0 ∷ [])
      unfolding chained
      copy_granted e = past_room ∙ unless_with_passes (carried 1 x.chain_index) x.chain_fault p _ e

  pub copy_case : Case room x
  copy_case =
      elim (same? x.record_fault 0) [
        | inr z ↦ by_record z
        | inl sound ↦ elim (le? x.size room) [
          | inr z ↦ by_room sound (omega (arith, z))
          | inl fits ↦ elim (same? x.chain_fault 0) [ inl e ↦ granted sound fits e | inr z ↦ by_chain sound fits z ]
        ]
      ]

  -- a copy that is not refused broke no rule
  pub copy_passed : (copy_at room p x).number ≡ 0 → (x.record_fault ≡ 0) × (x.size ≤ room) × (x.chain_fault ≡ 0)
  copy_passed e =
      elim copy_case [
        | by_record z ↦ absurd (z (ap (λ a. a.number) (sym (copy_record z)) ∙ e))
        | by_room sound small ↦ absurd (suc-ne-zero 13 (ap (λ a. a.number) (sym (copy_small sound small)) ∙ e))
        | by_chain sound fits z ↦ absurd (z (ap (λ a. a.number) (sym (copy_chain sound fits z)) ∙ e))
        | granted sound fits c ↦ (sound, fits, c)
      ]

-- ---- An element in blocks, by its record

module _ (s : List ℕ) (p : ℕ) (r out : List ℕ) where
  -- what the call does with them
  abbrev InBlocks : List ℕ → Answer → Type 0
  InBlocks after numbers = Does (copy_at (length out) p (in_blocks s r)) (in_blocks s r).bytes out after numbers

  pub blocks_record : (x : Rule) → number_of x ≡ record_fault r → InBlocks out (refusal 2 (record { rule = x; place = p }))
  unfolding in_blocks
  blocks_record x e = refuses _ _ out 2 _ (copy_record (length out) p (in_blocks s r) (λ q. number_positive x (e ∙ q)) ∙ ap (λ n. refuse 2 n p) (sym e))

  module _ (sound : record_fault r ≡ 0) where
    pub blocks_small : length out < record_length r → InBlocks out (refusal 2 (record { rule = Small; place = 0 }))
    unfolding in_blocks
    blocks_small h = refuses _ _ out 2 (record { rule = Small; place = 0 }) (copy_small (length out) p (in_blocks s r) sound h)

    module _ (fits : record_length r ≤ length out) (d : Description) (is : d ≡ description_of s r) where
      pub blocks_chain : (b : Broken) → BreaksAt (chain_of s d) b → InBlocks out (carrying 1 (record { rule = b.rule; place = p; value = b.index }))
      unfolding in_blocks
      blocks_chain b e =
          let f : (chain_of s (description_of s r)).fault ≡ number_of b.rule = rw is at e.0 in
          let g : (chain_of s (description_of s r)).index ≡ b.index = rw is at e.1 in
          let positive = number_positive b.rule in
          refuses_with _ _ out (carried 1 b.index) (number_of b.rule) p (copy_chain (length out) p (in_blocks s r) sound fits (λ h. positive (sym f ∙ h)) ∙ rw (f, g)) positive

      pub blocks_granted : (chain_of s d).fault ≡ 0 → (after : List ℕ) → after ≡ put out 0 (chain_of s d).bytes → InBlocks after (grant (d.length ∷ 0 ∷ []))
      unfolding in_blocks
      blocks_granted e after q =
          let f : (chain_of s (description_of s r)).fault ≡ 0 = rw is at e in
          let n = chain_length s (description_of s r) f in
          let l : d.length ≡ record_length r = ap (λ x. x.length) is ∙ description_length r s in
          rw l (grants _ _ out (record_length r ∷ 0 ∷ []) (copy_granted (length out) p (in_blocks s r) sound fits f) after ((rw is at q) ∙ put_front out _ (omega (arith, description_length r s))))

-- whatever a walk comes to, its bytes are in the buffer
pub followed_leaves : (w : Walk) (out after : List ℕ) (r : Result Unit Broken) → Followed w out after r → after ≡ put out 0 w.bytes
followed_leaves w out after (Ok x) f = f.1
followed_leaves w out after (Err b) f = f.1

-- ---- The call, where the image opens

module _ (s : List ℕ) (tag ref : ℕ) (sound : (open_of s).number ≡ 0) (x : Element) (found : element_at s (find s tag ref) ≡ x) where
  pub copy_goes : (room : ℕ) → copy_of s tag ref room ≡ copy_found s room x
  unfolding copy_of
  copy_goes room = opened_goes 2 s _ sound ∙ ap (copy_found s room) found

  pub bytes_found_lem : element_bytes s tag ref ≡ bytes_found s x
  unfolding element_bytes
  bytes_found_lem = ap (bytes_found s) found

  pub copied : (out after : List ℕ) (numbers : Answer) → Does (copy_found s (length out) x) (bytes_found s x) out after numbers
      → Does (copy_of s tag ref (length out)) (element_bytes s tag ref) out after numbers
  copied out after numbers c = rw (copy_goes (length out), bytes_found_lem) c

-- what it does with an element in plain storage
module _ (s : List ℕ) (p offset size : ℕ) (out : List ℕ) where
  pub plain_small : length out < size → Does (copy_at (length out) p (in_place s offset size)) (in_place s offset size).bytes out out (refusal 2 (record { rule = Small; place = 0 }))
  unfolding in_place
  plain_small h = refuses _ _ out 2 (record { rule = Small; place = 0 }) (copy_small (length out) p (in_place s offset size) refl h)

  pub plain_granted : size ≤ length out → length (part s offset size) ≡ size → (after : List ℕ) → after ≡ put out 0 (part s offset size)
      → Does (copy_at (length out) p (in_place s offset size)) (in_place s offset size).bytes out after (grant (size ∷ 0 ∷ []))
  unfolding in_place
  plain_granted h l after e =
      grants _ _ out (size ∷ 0 ∷ []) (copy_granted (length out) p (in_place s offset size) refl h refl) after (e ∙ put_front out _ (omega arith))

-- ---- What a granted copy tells

-- the image opens, and the element's bytes are as many as the call answers
pub record Grants (s : List ℕ) (tag ref room n : ℕ) : Type 0 where
  pub sound : (open_of s).number ≡ 0
  pub answers : copy_of s tag ref room ≡ grant (n ∷ 0 ∷ [])
  pub holds : length (element_bytes s tag ref) ≡ n
  pub fits : n ≤ room

pub granted_copy : (s : List ℕ) (tag ref room : ℕ) → (copy_of s tag ref room).number ≡ 0 → (n : ℕ) × Grants s tag ref room n
unfolding copy_of in_place in_blocks
granted_copy s tag ref room e = go (element_at s (find s tag ref)) refl
  where
    sound : (open_of s).number ≡ 0
    sound = opened_passed 2 s (copy_found s room (element_at s (find s tag ref))) e

    found : (p : ℕ) (x : Stored) → copy_of s tag ref room ≡ copy_at room p x → (x.chain_fault ≡ 0 → length (element_bytes s tag ref) ≡ x.size) → (n : ℕ) × Grants s tag ref room n
    found p x is long =
        let h = copy_passed room p x (ap (λ a. a.number) (sym is) ∙ e) in
        (x.size, record { sound = sound; answers = is ∙ copy_granted room p x h.0 h.1 h.2; holds = long h.2; fits = h.1 })

    go : (x : Element) → element_at s (find s tag ref) ≡ x → (n : ℕ) × Grants s tag ref room n
    go Absent f = absurd (suc-ne-zero 10 (ap (λ a. a.number) (sym (copy_goes s tag ref sound Absent f room)) ∙ e))
    go (NotStored p) f = absurd (suc-ne-zero 28 (ap (λ a. a.number) (sym (copy_goes s tag ref sound _ f room)) ∙ e))
    go (Plain x) f =
        found x.slot (in_place s x.offset x.length) (copy_goes s tag ref sound _ f room)
        (λ c. ap length (bytes_found_lem s tag ref sound _ f) ∙ (found_plain s tag ref x.slot x.offset x.length sound f).long)
    go (Extended p) f =
        found p (in_blocks s (content_at s p)) (copy_goes s tag ref sound _ f room)
        (λ c. ap length (bytes_found_lem s tag ref sound _ f) ∙ chain_length s (description_of s (content_at s p)) c ∙ description_length (content_at s p) s)

-- what was copied is stored
pub copied_stored : (s : List ℕ) (tag ref p room : ℕ) → Named s tag ref p → (copy_of s tag ref room).number ≡ 0 → IsStored s p
copied_stored s tag ref p room named done u =
    let opens = (granted_copy s tag ref room done).1.sound in
    suc-ne-zero 28 (ap (λ a. a.number) (sym (copy_goes s tag ref opens _ (named_unstored s tag ref p opens named u) room)) ∙ done)
