-- The claims about the size of an element: what it is, when it is refused, and what it tells of a copy. Assumes nothing.
use Prim.Native.Nat.{ℕ, ◌<◌, ◌≤◌}
use native.Mathlib.Nat.{suc-ne-zero}
use native.Mathlib.Omega.{arith}
use mathlib.Core.Path.{◌≡◌, refl, sym, ap, ◌∙◌}
use mathlib.Core.Logic.{◌↔◌, inl, inr}
use mathlib.Core.List.{List, [], ◌∷◌}
use mathlib.Core.Bool.{true, false}
use lib.ListN.{get_or}
use Rattle.answer.specs.Answer.{grant, refuse}
use Rattle.answer.specs.Rules.{AllHold, FirstBroken}
use Rattle.answer.proofs.Tests.{same?}
use Rattle.answer.proofs.Rules.{Goes, exactly}
use Rattle.directory.specs.Slots.{size_at, content_at}
use Rattle.directory.specs.Opening.{open_of}
use Rattle.directory.specs.Lookup.{find}
use Rattle.directory.specs.Rules.{IsStored}
use Rattle.directory.specs.Named.{Named}
use Rattle.directory.proofs.Opens.{opened_stops}
use Rattle.storage.specs.Elements.{extended_at, element_at}
use Rattle.storage.specs.Descriptions.{record_length, record_fault}
use Rattle.storage.specs.Links.{record_rules}
use Rattle.storage.specs.Copies.{Stored, in_place, in_blocks, copy_at, copy_of}
use Rattle.storage.specs.Sizes.{size_of_stored, size_of}
use Rattle.storage.specs.declared.element.Element.{Element}
use Rattle.storage.specs.declared.element.Element.TheVariants.{Absent, NotStored, Plain, Extended}
use Rattle.storage.proofs.Named.{named_absent, named_plain, named_extended}
use Rattle.storage.proofs.Descriptions.{record_tells}
use Rattle.storage.proofs.Copies
use Rattle.storage.proofs.Copies.{by_record, by_room, by_chain, granted}
use Rattle.storage.proofs.CopyRules.{chain_numbers, copy_closed}
use Rattle.storage.proofs.Sizes.{size_broken, size_granted, size_goes}

-- ---- What it is

-- an image that does not open is refused as opening refuses it
pub size_unopened : (s : List ℕ) (tag ref : ℕ) → ((open_of s).number ≡ 0 → ⊥) → size_of s tag ref ≡ refuse 1 (open_of s).number (open_of s).place
unfolding size_of
size_unopened s tag ref closed = opened_stops 1 s _ closed

pub size_absent : (s : List ℕ) (tag ref : ℕ) → (open_of s).number ≡ 0 → ((p : ℕ) → Named s tag ref p → ⊥) → size_of s tag ref ≡ refuse 1 11 0
size_absent s tag ref opens none = size_goes s tag ref opens _ (named_absent s tag ref none)

module _ (s : List ℕ) (tag ref p : ℕ) (opens : (open_of s).number ≡ 0) (named : Named s tag ref p) where
  -- in plain storage: how many bytes it has there
  pub size_plain : IsStored s p → extended_at s p ≡ false → size_of s tag ref ≡ grant (size_at s p ∷ [])
  unfolding in_place
  size_plain h e = size_goes s tag ref opens _ (named_plain s tag ref p opens named h e) ∙ size_granted p (in_place s _ (size_at s p)) refl

  -- in linked blocks: the length that its record has, exactly if that keeps its rules; no table and no block is looked at
  module _ (stored : IsStored s p) (extended : extended_at s p ≡ true) where
    linked_is : size_of s tag ref ≡ size_of_stored p (in_blocks s (content_at s p))
    linked_is = size_goes s tag ref opens _ (named_extended s tag ref p opens named stored extended)

    goes : Goes (record_rules (content_at s p) p) (size_of s tag ref ≡ grant (record_length (content_at s p) ∷ []))
        (λ n q. (size_of s tag ref ≡ refuse 1 n q) × (n ≡ 0 → ⊥))
    unfolding in_blocks
    goes =
        let t = record_tells (content_at s p) p in
        record {
          decided = t.decided;
          grants = λ a. linked_is ∙ size_granted p (in_blocks s (content_at s p)) (t.grants a);
          refuses = λ n q b.
              let f = t.refuses n q b in
              let z : record_fault (content_at s p) ≡ 0 → ⊥ = λ e. f.1 (sym f.0 ∙ e) in
              (linked_is ∙ size_broken p (in_blocks s (content_at s p)) z ∙ rw (f.0, f.2), f.1);
        }

    both : ((size_of s tag ref ≡ grant (record_length (content_at s p) ∷ [])) ↔ AllHold (record_rules (content_at s p) p))
        × ((n q : ℕ) → ((size_of s tag ref ≡ refuse 1 n q) × (n ≡ 0 → ⊥)) ↔ FirstBroken (record_rules (content_at s p) p) n q)
    both =
        exactly _ (λ n q. (size_of s tag ref ≡ refuse 1 n q) × (n ≡ 0 → ⊥)) (record_rules (content_at s p) p) goes
        (λ g n q r. r.1 (ap (λ a. a.number) (sym r.0 ∙ g)))
        (λ n q m k a b. let e = sym b.0 ∙ a.0 in (ap (λ x. x.number) e, ap (λ x. x.place) e))

    pub size_linked : (size_of s tag ref ≡ grant (record_length (content_at s p) ∷ [])) ↔ AllHold (record_rules (content_at s p) p)
    size_linked = both.0

    -- 12 and 13 are answered exactly for the record
    pub size_record : (n q : ℕ) → ((size_of s tag ref ≡ refuse 1 n q) × (n ≡ 0 → ⊥)) ↔ FirstBroken (record_rules (content_at s p) p) n q
    size_record = both.1

-- ---- What it tells of a copy

-- both calls go on to the same element, or neither does
data Beside (s : List ℕ) (tag ref : ℕ) : Type 0 where
  neither : (n q : ℕ) → (n ≡ 0 → ⊥) → size_of s tag ref ≡ refuse 1 n q → ((room : ℕ) → copy_of s tag ref room ≡ refuse 2 n q) → Beside s tag ref
  both_at : (p : ℕ) (x : Stored) → size_of s tag ref ≡ size_of_stored p x → ((room : ℕ) → copy_of s tag ref room ≡ copy_at room p x) → ((x.chain_fault ≡ 0 → ⊥) → 23 ≤ x.chain_fault)
      → Beside s tag ref

beside : (s : List ℕ) (tag ref : ℕ) → Beside s tag ref
unfolding in_place in_blocks
beside s tag ref =
    elim (same? (open_of s).number 0) [
      | inr closed ↦ neither (open_of s).number (open_of s).place closed (size_unopened s tag ref closed) (λ room. copy_closed s tag ref room closed)
      | inl opens ↦ go opens (element_at s (find s tag ref)) refl
    ]
  where
    go : (open_of s).number ≡ 0 → (x : Element) → element_at s (find s tag ref) ≡ x → Beside s tag ref
    go opens Absent f = neither 11 0 (suc-ne-zero 10) (size_goes s tag ref opens _ f) (Copies.copy_goes s tag ref opens _ f)
    go opens (NotStored p) f = neither 29 p (suc-ne-zero 28) (size_goes s tag ref opens _ f) (Copies.copy_goes s tag ref opens _ f)
    go opens (Plain x) f =
        both_at x.slot (in_place s x.offset x.length) (size_goes s tag ref opens _ f) (Copies.copy_goes s tag ref opens _ f) (λ z. absurd (z refl))
    go opens (Extended p) f =
        both_at p (in_blocks s (content_at s p)) (size_goes s tag ref opens _ f) (Copies.copy_goes s tag ref opens _ f) (λ z. (chain_numbers s opens (content_at s p) p 0 z).0)

-- what is copied has that many bytes
pub size_copied : (s : List ℕ) (tag ref room n : ℕ) → copy_of s tag ref room ≡ grant (n ∷ 0 ∷ []) → size_of s tag ref ≡ grant (n ∷ [])
size_copied s tag ref room n e = elim (beside s tag ref) [
  | neither m q z size copy ↦ absurd (z (ap (λ a. a.number) (sym (copy room) ∙ e)))
  | both_at p x size copy late ↦
      let h = Copies.copy_passed room p x (ap (λ a. a.number) (sym (copy room) ∙ e)) in
      let long : x.size ≡ n = ap (λ a. get_or a.values 0 0) (sym (Copies.copy_granted room p x h.0 h.1 h.2) ∙ sym (copy room) ∙ e) in
      size ∙ size_granted p x h.0 ∙ ap (λ k. grant (k ∷ [])) long
]

-- a buffer is too short for a copy exactly if it has fewer
pub size_room : (s : List ℕ) (tag ref n : ℕ) → size_of s tag ref ≡ grant (n ∷ []) → (room : ℕ) → (copy_of s tag ref room ≡ refuse 2 14 0) ↔ (room < n)
size_room s tag ref n e room = elim (beside s tag ref) [
  | neither m q z size copy ↦ absurd (z (ap (λ a. a.number) (sym size ∙ e)))
  | both_at p x size copy late ↦
      let sound : x.record_fault ≡ 0 = passed p x (ap (λ a. a.number) (sym size ∙ e)) in
      let long : x.size ≡ n = ap (λ a. get_or a.values 0 0) (sym (size_granted p x sound) ∙ sym size ∙ e) in (
        (λ c. elim (Copies.copy_case room p x) [
          | by_record z ↦ absurd (z sound)
          | by_room s₁ small ↦ omega arith
          | by_chain s₁ fits z ↦
              let m = ap (λ a. a.number) (sym (Copies.copy_chain room p x sound fits z) ∙ sym (copy room) ∙ c) in
              absurd (omega (arith, m, late z))
          | granted s₁ fits f ↦ absurd (suc-ne-zero 13 (ap (λ a. a.number) (sym (sym (copy room) ∙ c) ∙ Copies.copy_granted room p x sound fits f)))
        ]),
        (λ h. copy room ∙ Copies.copy_small room p x sound (omega arith)),
      )
]
  where
    passed : (p : ℕ) (x : Stored) → (size_of_stored p x).number ≡ 0 → x.record_fault ≡ 0
    passed p x g = elim (same? x.record_fault 0) [ inl z ↦ z | inr z ↦ absurd (z (ap (λ a. a.number) (sym (size_broken p x z)) ∙ g)) ]

-- where it is refused a copy is, in the same way, whatever the buffer
pub size_refused : (s : List ℕ) (tag ref : ℕ) → ((size_of s tag ref).number ≡ 0 → ⊥) → (room : ℕ) → copy_of s tag ref room ≡ refuse 2 (size_of s tag ref).number (size_of s tag ref).place
size_refused s tag ref refused room = elim (beside s tag ref) [
  | neither n q z size copy ↦ copy room ∙ rw size
  | both_at p x size copy late ↦ elim (same? x.record_fault 0) [
    | inl e ↦ absurd (refused (ap (λ a. a.number) (size ∙ size_granted p x e)))
    | inr z ↦ copy room ∙ Copies.copy_record room p x z ∙ rw (size, size_broken p x z)
  ]
]
