-- The claims about elements that are named and not stored yet: which pairs are, which calls answer 29 and when, what is made of such a table or
-- block, and that nothing which opened before is read otherwise. Assumes nothing.
use Prim.Native.Nat.{ℕ, zero, suc, ◌<◌, ◌≤◌}
use native.Mathlib.Nat.{suc-ne-zero}
use native.Mathlib.Omega.{arith}
use mathlib.Core.Path.{◌≡◌, refl, sym, ap, ap₂, ◌∙◌}
use mathlib.Core.Logic.{◌↔◌, ◌⊎◌, inl, inr}
use mathlib.Core.List.{List}
use mathlib.Core.Bool.{true, false}
use lib.Dec.{eqb}
use Rattle.answer.specs.Answer.{Answer, refuse, refuse_carrying}
use Rattle.answer.specs.Search.{Hit, hit, miss}
use Rattle.answer.specs.Rules.{AllHold}
use Rattle.answer.proofs.Tests.{test, same?}
use Rattle.wire.specs.Numbers.{part}
use Rattle.directory.specs.Slots.{offset_at, size_at, content_at}
use Rattle.directory.specs.Opening.{open_of, opened}
use Rattle.directory.specs.Lookup.{find}
use Rattle.directory.specs.Rules.{Unstored, IsStored}
use Rattle.directory.specs.Named.{Named, NamedUnstored}
use Rattle.directory.specs.Before.{OpenedBefore}
use Rattle.directory.proofs.Before.{stored_size}
use Rattle.directory.proofs.Faults.{open_below}
use Rattle.directory.proofs.Opens.{opened_goes, opened_stops}
use Rattle.directory.proofs.Named.{found_named, named_once}
use Rattle.directory.proofs.Claims.{opens_as_before, all_stored_before}
use Rattle.storage.specs.Elements.{part_at, Located, extended_at, start_at, element_at, plain_only, located_at}
use Rattle.storage.specs.Views.{view_at, view_of}
use Rattle.storage.specs.Sizes.{size_found, size_of}
use Rattle.storage.specs.Descriptions.{description_of}
use Rattle.storage.specs.Copies.{Stored, in_place, in_blocks, copy_at, copy_found, copy_of}
use Rattle.storage.specs.Choices.{part_in, choose_found, choose_of}
use Rattle.storage.specs.Tables.{linked_at}
use Rattle.storage.specs.Links.{table_at, block_at, copy_rules, LinkSlot, New, Unwritten, ReachesTable, ReachesBlock, no_table, no_block}
use Rattle.storage.specs.Before.{start_before, element_before, content_before, linked_before}
use Rattle.storage.specs.declared.element.Element.{Element}
use Rattle.storage.specs.declared.element.Element.TheVariants.{Absent, NotStored, Plain, Extended}
use Rattle.storage.proofs.Elements.{unstored, plain, extended, kind_at, element_plain, element_extended}
use Rattle.storage.proofs.Named.{named_absent, absent_named, named_unstored}
use Rattle.storage.proofs.Descriptions.{record_early}
use Rattle.storage.proofs.Copies
use Rattle.storage.proofs.Copies.{by_record, by_room, by_chain, granted}
use Rattle.storage.proofs.CopyRules.{chain_numbers}
use Rattle.storage.proofs.Sizes.{size_broken, size_granted, size_goes}
use Rattle.storage.proofs.Views.{view_goes}
use Rattle.storage.proofs.Choices
use Rattle.storage.proofs.Claims.{copy_broken}

-- ---- Which pairs

-- a pair is named and not stored exactly if the slot that has it is so marked
pub pair_unstored : (s : List ℕ) (tag ref p : ℕ) → (open_of s).number ≡ 0 → (element_at s (find s tag ref) ≡ NotStored p) ↔ (Named s tag ref p × Unstored s p)
unfolding element_at
pair_unstored s tag ref p opens = (go (find s tag ref) refl, λ h. named_unstored s tag ref p opens h.0 h.1)
  where
    go : (h : Hit) → find s tag ref ≡ h → element_at s h ≡ NotStored p → Named s tag ref p × Unstored s p
    go miss f e = let z : ◌≡◌ {A = ℕ} 0 1 = cc in absurd (omega arith)
    go (hit q) f e =
        elim (kind_at s q) [
          | unstored u k ↦
              let r : NotStored q ≡ NotStored p = sym k ∙ e in
              let same : q ≡ p = cc in (rw same at (found_named s tag ref q f), rw same at u)
          | plain h x k ↦ let r : Plain (part_at q (start_at s q) (size_at s q)) ≡ NotStored p = sym k ∙ e in let z : ◌≡◌ {A = ℕ} 0 1 = cc in absurd (omega arith)
          | extended h x k ↦ let r : Extended q ≡ NotStored p = sym k ∙ e in let z : ◌≡◌ {A = ℕ} 0 1 = cc in absurd (omega arith)
        ]

-- ---- Which calls answer 29

-- a call that opens an image and goes on to what a pair is there: 29 at such a slot, and for no other element
module _ (k : ℕ) (s : List ℕ) (tag ref : ℕ) (answer : Element → Answer) (marked : (p : ℕ) → answer (NotStored p) ≡ refuse k 29 p)
    (absent : (answer Absent).number ≡ 29 → ⊥) (in_plain : (p offset size : ℕ) → (answer (Plain (part_at p offset size))).number ≡ 29 → ⊥)
    (in_extended : (open_of s).number ≡ 0 → (p : ℕ) → (answer (Extended p)).number ≡ 29 → ⊥) where
  at_element : (open_of s).number ≡ 0 → (x : Element) (p : ℕ) → answer x ≡ refuse k 29 p → x ≡ NotStored p
  at_element opens Absent p e = absurd (absent (ap (λ a. a.number) e))
  at_element opens (NotStored q) p e = ap (λ a. NotStored a.place) (sym (marked q) ∙ e)
  at_element opens (Plain x) p e = absurd (in_plain x.slot x.offset x.length (ap (λ a. a.number) e))
  at_element opens (Extended q) p e = absurd (in_extended opens q (ap (λ a. a.number) e))

  answers_29 : (p : ℕ) → (opened k s (answer (element_at s (find s tag ref))) ≡ refuse k 29 p) ↔ NamedUnstored s tag ref p
  answers_29 p = (
    (λ e. elim (same? (open_of s).number 0) [
      | inr z ↦ absurd (omega (arith, open_below s, ap (λ a. a.number) (sym (opened_stops k s _ z) ∙ e)))
      | inl opens ↦ let h = (pair_unstored s tag ref p opens).0 (at_element opens _ p (sym (opened_goes k s _ opens) ∙ e)) in (opens, h.0, h.1)
    ]),
    (λ h. opened_goes k s _ h.0 ∙ ap answer ((pair_unstored s tag ref p h.0).1 (h.1, h.2)) ∙ marked p),
  )

module _ (s : List ℕ) (tag ref p : ℕ) where
  -- each of these answers 29, at the slot, exactly if the pair's slot is so marked; an extended one too
  pub view_unstored : (view_of s tag ref ≡ refuse 2 29 p) ↔ NamedUnstored s tag ref p
  unfolding view_of
  view_unstored = answers_29 2 s tag ref (λ x. view_at (plain_only x)) (λ q. refl) (λ e. omega (arith, e)) (λ q o n e. omega (arith, e)) (λ opens q e. omega (arith, e)) p

  pub size_unstored : (size_of s tag ref ≡ refuse 1 29 p) ↔ NamedUnstored s tag ref p
  unfolding size_of in_place in_blocks
  size_unstored =
      answers_29 1 s tag ref (size_found s) (λ q. refl) (λ e. omega (arith, e))
      (λ q o n e. absurd (suc-ne-zero 28 (sym e ∙ ap (λ a. a.number) (size_granted q (in_place s o n) refl))))
      (λ opens q e. let x = in_blocks s (content_at s q) in elim (same? x.record_fault 0) [
        | inl z ↦ suc-ne-zero 28 (sym e ∙ ap (λ a. a.number) (size_granted q x z))
        | inr z ↦ let r = record_early (content_at s q) q in omega (arith, r, sym e ∙ ap (λ a. a.number) (size_broken q x z))
      ]) p

  pub copy_unstored : (room : ℕ) → (copy_of s tag ref room ≡ refuse 2 29 p) ↔ NamedUnstored s tag ref p
  unfolding copy_of in_place in_blocks
  copy_unstored room =
      answers_29 2 s tag ref (copy_found s room) (λ q. refl) (λ e. omega (arith, e))
      (λ q o n. other q (in_place s o n) (omega arith) (λ z. absurd (z refl)))
      (λ opens q. other q (in_blocks s (content_at s q)) (record_early (content_at s q) q) (λ z. (chain_numbers s opens (content_at s q) q room z).1)) p
    where
      other : (q : ℕ) (x : Stored) → x.record_fault < 23 → ((x.chain_fault ≡ 0 → ⊥) → x.chain_fault ≤ 27) → (copy_at room q x).number ≡ 29 → ⊥
      other q x early late e =
          elim (Copies.copy_case room q x) [
            | by_record z ↦ omega (arith, early, sym e ∙ ap (λ a. a.number) (Copies.copy_record room q x z))
            | by_room sound small ↦ omega (arith, sym e ∙ ap (λ a. a.number) (Copies.copy_small room q x sound small))
            | by_chain sound fits z ↦ omega (arith, late z, sym e ∙ ap (λ a. a.number) (Copies.copy_chain room q x sound fits z))
            | granted sound fits c ↦ omega (arith, sym e ∙ ap (λ a. a.number) (Copies.copy_granted room q x sound fits c))
          ]

-- the choice: the current image's answers, and does not fall through; the fallback's where the current one has not the pair
pub choose_unstored : (s t : List ℕ) (tag ref p : ℕ) → (choose_of s t tag ref ≡ refuse 3 29 p)
    ↔ (((open_of s).number ≡ 0) × ((open_of t).number ≡ 0)
    × ((Named s tag ref p × Unstored s p) ⊎ (((q : ℕ) → Named s tag ref q → ⊥) × Named t tag ref p × Unstored t p)))
unfolding choose_of
choose_unstored s t tag ref p = (
  (λ e. elim (same? (open_of s).number 0) [
    | inr z ↦ absurd (omega (arith, open_below s, ap (λ a. a.number) (sym (opened_stops 3 s _ z) ∙ e)))
    | inl opens ↦ elim (same? (open_of t).number 0) [
      | inr z ↦ absurd (omega (arith, open_below t, ap (λ a. a.number) (sym (opened_goes 3 s _ opens ∙ opened_stops 3 t _ z) ∙ e)))
      | inl other ↦ (opens, other, current opens other e (element_at s (find s tag ref)) refl)
    ]
  ]),
  (λ h. elim h.2 [
    | inl x ↦ Choices.choose_current s t tag ref h.0 h.1 _ (named_unstored s tag ref p h.0 x.0 x.1) refl
    | inr x ↦
        Choices.choose_fallback s t tag ref h.0 h.1 _ (named_absent s tag ref x.0) refl _ (named_unstored t tag ref p h.1 x.1 x.2)
  ]),
)
  where
    part_29 : (which : ℕ) (x : Element) → part_in which (plain_only x) ≡ refuse 3 29 p → x ≡ NotStored p
    part_29 which Absent e = absurd (omega (arith, ap (λ a. a.number) e))
    part_29 which (NotStored q) e = ap (λ a. NotStored a.place) e
    part_29 which (Plain x) e = absurd (omega (arith, ap (λ a. a.number) e))
    part_29 which (Extended q) e = absurd (omega (arith, ap (λ a. a.number) e))

    current : (open_of s).number ≡ 0 → (open_of t).number ≡ 0 → choose_of s t tag ref ≡ refuse 3 29 p → (x : Element) → element_at s (find s tag ref) ≡ x
        → (Named s tag ref p × Unstored s p) ⊎ (((q : ℕ) → Named s tag ref q → ⊥) × Named t tag ref p × Unstored t p)
    current opens other e Absent f =
        let u = (pair_unstored t tag ref p other).0 (part_29 2 _ (sym (Choices.choose_fallback s t tag ref opens other _ f refl _ refl) ∙ e)) in
        inr (absent_named s tag ref opens f, u.0, u.1)
    current opens other e (NotStored q) f = inl ((pair_unstored s tag ref p opens).0 (f ∙ part_29 1 _ (sym (Choices.choose_current s t tag ref opens other _ f refl) ∙ e)))
    current opens other e (Plain x) f = inl ((pair_unstored s tag ref p opens).0 (f ∙ part_29 1 _ (sym (Choices.choose_current s t tag ref opens other _ f refl) ∙ e)))
    current opens other e (Extended q) f = inl ((pair_unstored s tag ref p opens).0 (f ∙ part_29 1 _ (sym (Choices.choose_current s t tag ref opens other _ f refl) ∙ e)))

-- ---- Tables and blocks

module _ (s : List ℕ) (tag ref p room : ℕ) (opens : (open_of s).number ≡ 0) (named : Named s tag ref p) (stored : IsStored s p) (linked : extended_at s p ≡ true)
    (rules : AllHold (copy_rules (content_at s p) p room)) where
  none_linked : (link q : ℕ) → Named s 20 link q → Unstored s q → (r : ℕ) → LinkSlot s link r → ⊥
  none_linked link q n u r l = l.stored (rw (named_once s 20 link q r opens n l.named) at u)

  -- a table that is needed and not stored is not there: 23, with its index
  pub unstored_table : (i q : ℕ) → let d = description_of s (content_at s p) in
      ReachesTable s d i → New s d i → Named s 20 (table_at s d i) q → Unstored s q → copy_of s tag ref room ≡ refuse_carrying 1 23 p i
  unstored_table i q reached new n u =
      ((copy_broken s tag ref p room opens named stored linked 23 i).1 (rules, no_table refl (record { reached = reached; new = new; missing = none_linked _ q n u }))).0

  -- and so is a block: 25. Block 0 too, whose length a record of 16 bytes does not say
  pub unstored_block : (j q : ℕ) → let d = description_of s (content_at s p) in
      ReachesBlock s d j → (Unwritten s d j → ⊥) → Named s 20 (block_at s d j) q → Unstored s q → copy_of s tag ref room ≡ refuse_carrying 1 25 p j
  unstored_block j q reached meant n u =
      ((copy_broken s tag ref p room opens named stored linked 25 j).1 (rules, no_block refl (record { reached = reached; meant = meant; missing = none_linked _ q n u }))).0

-- ---- Files that opened before

module _ (s bs : List ℕ) (before : OpenedBefore s bs) where
  start_same : (p : ℕ) → IsStored s p → start_at s p ≡ start_before s p
  unfolding start_at start_before
  start_same p h = ap {B = ℕ} (λ n. elim n [ zero ↦ 0 | suc m ↦ offset_at s p ]) (stored_size s p h)

  found_same : (h : Hit) → ((p : ℕ) → h ≡ hit p → IsStored s p) → element_at s h ≡ element_before s h
  unfolding element_at element_before
  found_same miss stored = refl
  found_same (hit p) stored =
      let h = stored p refl in
      elim (test (extended_at s p)) [
        | inl x ↦ element_extended s p h x ∙ sym (rw (element_before, x))
        | inr x ↦ element_plain s p h x ∙ ap₂ (λ o n. Plain (part_at p o n)) (start_same p h) (stored_size s p h) ∙ sym (rw (element_before, x))
      ]

  -- a pair names what it named: every call that reads an element goes on from there
  pub element_as_before : (tag ref : ℕ) → element_at s (find s tag ref) ≡ element_before s (find s tag ref)
  element_as_before tag ref =
      found_same (find s tag ref) (λ p f. let n = found_named s tag ref p f in all_stored_before s bs before p n.slot n.live)

  -- in plain storage: every record, group, head, value and listing is read from there
  pub located_as_before : (tag ref : ℕ) → located_at s (find s tag ref) ≡ plain_only (element_before s (find s tag ref))
  located_as_before tag ref = ap plain_only (element_as_before tag ref)

  -- its slot has the bytes that it had: the record of an element in linked blocks among them
  pub content_as_before : (tag ref p : ℕ) → Named s tag ref p → content_at s p ≡ content_before s p
  unfolding content_at content_before
  content_as_before tag ref p n = ap (part s (offset_at s p)) (stored_size s p (all_stored_before s bs before p n.slot n.live))

  -- and so is a table or block
  pub linked_as_before : (ref : ℕ) → linked_at s ref ≡ linked_before s ref
  unfolding linked_at linked_before
  linked_as_before ref = ap {B = Located} (λ x. elim (eqb ref 0) [ true ↦ plain_only Absent | false ↦ plain_only x ]) (element_as_before 20 ref)

  -- so each call goes on to it as it did, in an image that opens as it did
  opens_still : (open_of s).number ≡ 0
  opens_still = ap (λ a. a.number) (opens_as_before s bs before)

  pub view_as_before : (tag ref : ℕ) → view_of s tag ref ≡ view_at (plain_only (element_before s (find s tag ref)))
  view_as_before tag ref = view_goes s tag ref opens_still _ (element_as_before tag ref)

  pub size_as_before : (tag ref : ℕ) → size_of s tag ref ≡ size_found s (element_before s (find s tag ref))
  size_as_before tag ref = size_goes s tag ref opens_still _ (element_as_before tag ref)

  pub copy_as_before : (tag ref room : ℕ) → copy_of s tag ref room ≡ copy_found s room (element_before s (find s tag ref))
  copy_as_before tag ref room = Copies.copy_goes s tag ref opens_still _ (element_as_before tag ref) room

pub choose_as_before : (s bs t cs : List ℕ) → OpenedBefore s bs → OpenedBefore t cs → (tag ref : ℕ)
    → choose_of s t tag ref ≡ choose_found (element_before s (find s tag ref)) (element_before t (find t tag ref))
choose_as_before s bs t cs before other tag ref =
    Choices.choose_goes s t tag ref (opens_still s bs before) (opens_still t cs other) _ (element_as_before s bs before tag ref)
    ∙ ap (choose_found (element_before s (find s tag ref))) (element_as_before t cs other tag ref)
