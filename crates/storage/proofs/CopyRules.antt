-- A copy of an element in linked blocks goes by the rules of its record and the buffer, and then by its tables and blocks. Assumes nothing.
use Prim.Native.Nat.{ℕ, ◌<◌, ◌≤◌}
use native.Mathlib.Nat.{suc-ne-zero}
use native.Mathlib.Omega.{arith}
use mathlib.Core.Path.{◌≡◌, refl, sym, ap, ◌∙◌}
use mathlib.Core.Logic.{◌↔◌, ◌⊎◌, inl, inr}
use mathlib.Core.List.{List}
use lib.ListN.{get_or}
use mathlib.Core.Bool.{◌&&◌, and-false}
use lib.Dec.{leb}
use borrow.Author.Tests.{le-leb, lt-leb}
use Rattle.answer.specs.Answer.{Answer, grant, refuse, carried, refuse_carrying, ProperWith}
use Rattle.answer.specs.Rules.{done, rule, AllHold, FirstBroken}
use Rattle.answer.proofs.Tests.{on_true, on_false, and_both, same?, le?}
use Rattle.answer.proofs.Rules.{Goes, goes_done, goes_rule, goes_then, exactly}
use Rattle.directory.specs.Slots.{content_at}
use Rattle.directory.specs.Opening.{open_of}
use Rattle.directory.specs.Lookup.{find}
use Rattle.directory.proofs.Faults.{open_below}
use Rattle.directory.proofs.Opens.{opened_stops}
use Rattle.storage.specs.Elements.{element_at}
use Rattle.storage.specs.Descriptions.{description_of, record_length, record_fault}
use Rattle.storage.specs.Walks.{chain_of}
use Rattle.storage.specs.Links.{record_rules, copy_rules, Unbroken, Broken}
use Rattle.storage.specs.Copies.{Stored, in_place, in_blocks, copy_at, copy_of, link_index}
use Rattle.storage.specs.declared.element.Element.{Element}
use Rattle.storage.specs.declared.element.Element.TheVariants.{Absent, NotStored, Plain, Extended}
use Rattle.storage.proofs.Descriptions
use Rattle.storage.proofs.Copies.{by_record, by_room, by_chain, granted, copy_record, copy_small, copy_chain, copy_granted, copy_case, copy_passed, copy_goes}
use Rattle.storage.proofs.Links.{chain_unbroken, chain_broken, broken_numbers}

-- ---- The rules of the record and the buffer

-- the record keeps the rules, and the buffer has room
abbrev Ready : List ℕ → ℕ → Type 0
Ready r room = (record_fault r ≡ 0) × (record_length r ≤ room)

-- refused by them
abbrev Early : List ℕ → List ℕ → ℕ → ℕ → ℕ → ℕ → Type 0
Early s r p room n q = (copy_at room p (in_blocks s r) ≡ refuse 2 n q) × (n ≡ 0 → ⊥) × (n < 23)

module _ (s : List ℕ) (opens : (open_of s).number ≡ 0) (r : List ℕ) (p room : ℕ) where
  goes_by : Goes (copy_rules r p room) (Ready r room) (Early s r p room)
  unfolding in_blocks
  goes_by =
      goes_then (Ready r room) (Early s r p room) (record_rules r p) (rule 14 0 (record_length r ≤ room) done) p (record_fault r) (Descriptions.record_tells r p)
      (λ z. (copy_record room p (in_blocks s r) z, z, Descriptions.record_early r p))
      (λ sound. goes_rule (Ready r room) (Early s r p room) 14 0 _ _ (le? (record_length r) room)
      (λ z. (copy_small room p (in_blocks s r) sound (omega (arith, z)), suc-ne-zero 13, omega arith))
      (λ fits. goes_done (Ready r room) (Early s r p room) (sound, fits)))

  -- ---- The answer

  -- a fault of the chain has a number past theirs
  pub chain_numbers : let w = chain_of s (description_of s r) in (w.fault ≡ 0 → ⊥) → (23 ≤ w.fault) × (w.fault ≤ 27)
  chain_numbers z =
      let w = chain_of s (description_of s r) in
      broken_numbers s (description_of s r) w.fault w.index ((chain_broken s opens (description_of s r) w.fault w.index).0 (refl, refl, z))

  -- past the record and the buffer it is granted, or refused by the chain
  apart : Ready r room → (n q : ℕ) → Early s r p room n q → ⊥
  unfolding in_blocks
  apart h n q e =
      elim (same? (chain_of s (description_of s r)).fault 0) [
        | inl z ↦ e.1 (ap (λ a. a.number) (sym e.0 ∙ copy_granted room p (in_blocks s r) h.0 h.1 z))
        | inr z ↦
            let m = ap (λ a. a.number) (sym e.0 ∙ copy_chain room p (in_blocks s r) h.0 h.1 z) in
            omega (arith, m, (chain_numbers z).0, e.2)
      ]

  one : (n q m k : ℕ) → Early s r p room n q → Early s r p room m k → (m ≡ n) × (k ≡ q)
  one n q m k a b = let e = sym b.0 ∙ a.0 in (ap (λ x. x.number) e, ap (λ x. x.place) e)

  pub ready : Ready r room ↔ AllHold (copy_rules r p room)
  ready = (exactly (Ready r room) (Early s r p room) (copy_rules r p room) goes_by apart one).0

  pub refused_early : (n q : ℕ) → Early s r p room n q ↔ FirstBroken (copy_rules r p room) n q
  refused_early = (exactly (Ready r room) (Early s r p room) (copy_rules r p room) goes_by apart one).1

  pub granted_unbroken : ((copy_at room p (in_blocks s r)).number ≡ 0) ↔ (AllHold (copy_rules r p room) × Unbroken s (description_of s r))
  unfolding in_blocks
  granted_unbroken = (
    (λ e. let h = copy_passed room p (in_blocks s r) e in (ready.0 (h.0, h.1), (chain_unbroken s opens (description_of s r)).0 h.2)),
    (λ h. let k = ready.1 h.0 in ap (λ a. a.number) (copy_granted room p (in_blocks s r) k.0 k.1 ((chain_unbroken s opens (description_of s r)).1 h.1))),
  )

  -- it is refused by a number past theirs exactly if the chain has a fault
  pub refused_late : (23 ≤ (copy_at room p (in_blocks s r)).number) ↔ (AllHold (copy_rules r p room) × ((chain_of s (description_of s r)).fault ≡ 0 → ⊥))
  unfolding in_blocks
  refused_late = (
    (λ l. elim (copy_case room p (in_blocks s r)) [
      | by_record z ↦ absurd (early (record_fault r) (Descriptions.record_early r p) (ap (λ a. a.number) (copy_record room p (in_blocks s r) z)) l)
      | by_room sound small ↦ absurd (early 14 (omega arith) (ap (λ a. a.number) (copy_small room p (in_blocks s r) sound small)) l)
      | granted sound fits c ↦ absurd (early 0 (omega arith) (ap (λ a. a.number) (copy_granted room p (in_blocks s r) sound fits c)) l)
      | by_chain sound fits z ↦ (ready.0 (sound, fits), z)
    ]),
    (λ h. let k = ready.1 h.0 in rw (copy_chain room p (in_blocks s r) k.0 k.1 h.1) (chain_numbers h.1).0),
  )
    where
      early : (n : ℕ) → n < 23 → (copy_at room p (in_blocks s r)).number ≡ n → 23 ≤ (copy_at room p (in_blocks s r)).number → ⊥
      early n l e h = omega (arith, e)

  pub refused_broken : (n x : ℕ) → ((copy_at room p (in_blocks s r) ≡ refuse_carrying 1 n p x) × (23 ≤ n)) ↔ (AllHold (copy_rules r p room) × Broken s (description_of s r) n x)
  unfolding in_blocks
  refused_broken n x =
      let chain = chain_broken s opens (description_of s r) n x in (
        (λ h.
            let late = refused_late.0 (rw h.0 h.1) in
            let k = ready.1 late.0 in
            let e = sym (copy_chain room p (in_blocks s r) k.0 k.1 late.1) ∙ h.0 in
            let number = ap (λ a. a.number) e in
            (late.0, chain.0 (number, ap (λ a. get_or a.values 1 0) e, λ q. late.1 (number ∙ q)))),
        (λ h.
            let k = ready.1 h.0 in
            let c = chain.1 h.1 in
            (copy_chain room p (in_blocks s r) k.0 k.1 (λ q. c.2 (sym c.0 ∙ q)) ∙ rw (c.0, c.1), (broken_numbers s (description_of s r) n x h.1).0)),
      )

  -- one of the three is so
  pub copy_decided : (AllHold (copy_rules r p room) × Unbroken s (description_of s r))
      ⊎ (((n q : ℕ) × FirstBroken (copy_rules r p room) n q) ⊎ (AllHold (copy_rules r p room) × ((n x : ℕ) × Broken s (description_of s r) n x)))
  unfolding in_blocks
  copy_decided =
      let w = chain_of s (description_of s r) in
      elim (copy_case room p (in_blocks s r)) [
        | by_record z ↦ inr (inl (record_fault r, p, (refused_early (record_fault r) p).0 (copy_record room p (in_blocks s r) z, z, Descriptions.record_early r p)))
        | by_room sound small ↦ inr (inl (14, 0, (refused_early 14 0).0 (copy_small room p (in_blocks s r) sound small, suc-ne-zero 13, omega arith)))
        | by_chain sound fits z ↦ inr (inr (ready.0 (sound, fits), (w.fault, w.index, (chain_broken s opens (description_of s r) w.fault w.index).0 (refl, refl, z))))
        | granted sound fits c ↦ inl (ready.0 (sound, fits), (chain_unbroken s opens (description_of s r)).0 c)
      ]

-- ---- The shape of the answer

module _ (a : Answer) where
  -- 23 to 27 have an index, and no other number has
  pub index_none : (a.number < 23) ⊎ (27 < a.number) → link_index a ≡ 0
  unfolding link_index
  index_none (inl h) = on_false (leb 23 a.number && leb a.number 27) _ _ (ap (λ b. b && leb a.number 27) (lt-leb 23 a.number h))
  index_none (inr h) = on_false (leb 23 a.number && leb a.number 27) _ _ (ap (λ b. leb 23 a.number && b) (lt-leb a.number 27 h) ∙ and-false (leb 23 a.number))

  index_some : 23 ≤ a.number → a.number ≤ 27 → link_index a ≡ get_or a.values 1 0
  unfolding link_index
  index_some h k = on_true (leb 23 a.number && leb a.number 27) _ _ (and_both _ _ (le-leb _ _ h) (le-leb _ _ k))

  abbrev Shaped : Type 0
  Shaped = ProperWith (carried 1 (link_index a)) a

  -- refused without an index, or with one, or granted
  shaped_other : (n q : ℕ) → a ≡ refuse 2 n q → (n ≡ 0 → ⊥) → (n < 23) ⊎ (27 < n) → Shaped
  shaped_other n q e z l =
      let number = ap (λ x. x.number) e in
      let i : link_index a ≡ 0 = index_none (rw number l) in
      record { granted = λ h. absurd (z (sym number ∙ h)); refused = λ h. ap (λ x. x.values) e ∙ ap (carried 1) (sym i) }

  shaped_linked : (n p x : ℕ) → a ≡ refuse_carrying 1 n p x → (23 ≤ n) × (n ≤ 27) → Shaped
  shaped_linked n p x e l =
      let number = ap (λ y. y.number) e in
      let i : link_index a ≡ x = index_some (omega (arith, number)) (omega (arith, number)) ∙ ap (λ y. get_or y.values 1 0) e in
      record { granted = λ h. absurd (omega (arith, number)); refused = λ h. ap (λ y. y.values) e ∙ ap (carried 1) (sym i) }

  shaped_granted : (values : List ℕ) → a ≡ grant values → Shaped
  shaped_granted values e = record { granted = λ h. ap (λ x. x.place) e; refused = λ h. absurd (h (ap (λ x. x.number) e)) }

-- an element whose faults have these numbers
shaped_at : (room p : ℕ) (x : Stored) (a : Answer) → a ≡ copy_at room p x → x.record_fault < 23
    → ((x.chain_fault ≡ 0 → ⊥) → (23 ≤ x.chain_fault) × (x.chain_fault ≤ 27)) → Shaped a
shaped_at room p x a e early late =
    elim (copy_case room p x) [
      | by_record z ↦ shaped_other a x.record_fault p (e ∙ copy_record room p x z) z (inl early)
      | by_room sound small ↦ shaped_other a 14 0 (e ∙ copy_small room p x sound small) (suc-ne-zero 13) (inl (omega arith))
      | by_chain sound fits z ↦ shaped_linked a x.chain_fault p x.chain_index (e ∙ copy_chain room p x sound fits z) (late z)
      | granted sound fits c ↦ shaped_granted a _ (e ∙ copy_granted room p x sound fits c)
    ]

plain_shaped : (s : List ℕ) (room p offset size : ℕ) (a : Answer) → a ≡ copy_at room p (in_place s offset size) → Shaped a
unfolding in_place
plain_shaped s room p offset size a e = shaped_at room p (in_place s offset size) a e (omega arith) (λ z. absurd (z refl))

linked_shaped : (s : List ℕ) → (open_of s).number ≡ 0 → (room p : ℕ) (a : Answer) → a ≡ copy_at room p (in_blocks s (content_at s p)) → Shaped a
unfolding in_blocks
linked_shaped s opens room p a e =
    shaped_at room p (in_blocks s (content_at s p)) a e (Descriptions.record_early (content_at s p) p) (chain_numbers s opens (content_at s p) p room)

pub copy_closed : (s : List ℕ) (tag ref room : ℕ) → ((open_of s).number ≡ 0 → ⊥) → copy_of s tag ref room ≡ refuse 2 (open_of s).number (open_of s).place
unfolding copy_of
copy_closed s tag ref room z = opened_stops 2 s _ z

module _ (s : List ℕ) (tag ref room : ℕ) where
  pub copy_shape : ProperWith (carried 1 (link_index (copy_of s tag ref room))) (copy_of s tag ref room)
  copy_shape = elim (same? (open_of s).number 0) [
    | inr z ↦ shaped_other (copy_of s tag ref room) (open_of s).number (open_of s).place (copy_closed s tag ref room z) z (inl (omega (arith, open_below s)))
    | inl opens ↦ go opens (element_at s (find s tag ref)) refl
  ]
    where
      go : (open_of s).number ≡ 0 → (x : Element) → element_at s (find s tag ref) ≡ x → Shaped (copy_of s tag ref room)
      go opens Absent f = shaped_other (copy_of s tag ref room) 11 0 (copy_goes s tag ref opens Absent f room) (suc-ne-zero 10) (inl (omega arith))
      go opens (NotStored p) f = shaped_other (copy_of s tag ref room) 29 p (copy_goes s tag ref opens _ f room) (suc-ne-zero 28) (inr (omega arith))
      go opens (Plain x) f = plain_shaped s room x.slot x.offset x.length (copy_of s tag ref room) (copy_goes s tag ref opens _ f room)
      go opens (Extended p) f = linked_shaped s opens room p (copy_of s tag ref room) (copy_goes s tag ref opens _ f room)
