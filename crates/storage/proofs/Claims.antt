-- The claims about reading elements: what a view and a choice between two images give, and what a copy gives and leaves. Assumes nothing.
use Prim.Native.Nat.{ℕ, ◌<◌, ◌≤◌}
use native.Mathlib.Omega.{arith}
use mathlib.Core.Path.{◌≡◌, refl, sym, ap, ◌∙◌}
use mathlib.Core.Logic.{◌↔◌, ◌⊎◌, inl, inr}
use mathlib.Core.List.{List, [], ◌∷◌, ◌++◌}
use mathlib.Core.Bool.{true, false}
use lib.ListN.{length, get_or, take, drop, length-append, length-drop}
use lib.Seq.{take_at, drop_at}
use Rattle.answer.specs.declared.refusals.Rule.TheVariants.{Storage}
use Rattle.answer.specs.Refusals.{ABSENT, STORAGE}
use Rattle.answer.specs.Answer.{grant, refuse, refuse_carrying}
use Rattle.answer.specs.Rules.{AllHold, FirstBroken}
use Rattle.answer.proofs.Tests.{same?}
use Rattle.answer.proofs.Lent
use Rattle.directory.specs.Slots.{size_at, content_at}
use Rattle.directory.specs.Opening.{open_of}
use Rattle.directory.specs.Rules.{IsStored}
use Rattle.directory.specs.Named.{Named}
use Rattle.directory.proofs.Opens.{opened_goes, opened_stops}
use Rattle.storage.specs.Elements.{extended_at, start_at}
use Rattle.storage.specs.Views.{view_of, bytes_of}
use Rattle.storage.specs.Descriptions.{description_of}
use Rattle.storage.specs.Given.{block_refs, given, Complete}
use Rattle.storage.specs.Links.{copy_rules, Unbroken, Broken}
use Rattle.storage.specs.Copies.{in_place, in_blocks, copy_at, copy_of, element_bytes, copy_after}
use Rattle.storage.specs.Choices.{choose_of, chosen_bytes}
use Rattle.storage.proofs.Elements.{content_part}
use Rattle.storage.proofs.Named.{named_absent, named_plain, named_extended}
use Rattle.storage.proofs.Descriptions.{description_length}
use Rattle.storage.proofs.Views
use Rattle.storage.proofs.Choices
use Rattle.storage.proofs.Copies
use Rattle.storage.proofs.CopyRules
use Rattle.storage.proofs.Given.{chain_given, chain_complete}

-- ---- View

-- an element in plain storage: where it stands, and its bytes
pub view_plain : (s : List ℕ) (tag ref p : ℕ) → (open_of s).number ≡ 0 → Named s tag ref p → IsStored s p → extended_at s p ≡ false
    → (view_of s tag ref ≡ grant (start_at s p ∷ size_at s p ∷ [])) × (bytes_of s (view_of s tag ref) ≡ content_at s p)
view_plain s tag ref p opens named stored e =
    let v = Views.view_goes s tag ref opens _ (named_plain s tag ref p opens named stored e) in
    (v, Views.bytes_granted s (view_of s tag ref) (start_at s p) (size_at s p) v ∙ sym (content_part s p))

-- an extended element is refused at its slot: a view never gives its record
pub view_extended : (s : List ℕ) (tag ref p : ℕ) → (open_of s).number ≡ 0 → Named s tag ref p → IsStored s p → extended_at s p ≡ true
    → (view_of s tag ref ≡ refuse 2 STORAGE p) × (bytes_of s (view_of s tag ref) ≡ [])
view_extended s tag ref p opens named stored e =
    let v = Views.view_goes s tag ref opens _ (named_extended s tag ref p opens named stored e) in
    (v, Views.bytes_refused s (view_of s tag ref) (record { rule = Storage; place = p }) v)

pub view_absent : (s : List ℕ) (tag ref : ℕ) → (open_of s).number ≡ 0 → ((p : ℕ) → Named s tag ref p → ⊥) → view_of s tag ref ≡ refuse 2 ABSENT 0
view_absent s tag ref opens none = Views.view_goes s tag ref opens _ (named_absent s tag ref none)

-- an image that does not open is refused as opening refuses it
pub view_unopened : (s : List ℕ) (tag ref : ℕ) → ((open_of s).number ≡ 0 → ⊥) → view_of s tag ref ≡ refuse 2 (open_of s).number (open_of s).place
unfolding view_of
view_unopened s tag ref closed = opened_stops 2 s _ closed

-- ---- Copy

-- an element in plain storage, copied, is its view
pub copy_plain : (s : List ℕ) (tag ref offset size : ℕ) (out : List ℕ) → view_of s tag ref ≡ grant (offset ∷ size ∷ []) → size ≤ length out
    → (copy_of s tag ref (length out) ≡ grant (size ∷ 0 ∷ [])) × (copy_after s tag ref out ≡ bytes_of s (view_of s tag ref) ++ drop size out)
unfolding in_place
copy_plain s tag ref offset size out viewed fits =
    let g = Views.granted_view s tag ref offset size viewed in
    let c = Copies.copy_goes s tag ref g.1.sound _ g.1.is (length out) ∙ Copies.copy_granted (length out) g.0 (in_place s offset size) refl fits refl in
    let b = Copies.bytes_found_lem s tag ref g.1.sound _ g.1.is in
    let l : length (element_bytes s tag ref) ≡ size = ap length b ∙ g.1.long in (
      c,
      Lent.laid_granted (copy_of s tag ref (length out)) (element_bytes s tag ref) out (ap (λ a. a.number) c)
          ∙ ap (λ k. element_bytes s tag ref ++ drop k out) l
          ∙ ap (λ x. x ++ drop size out) (b ∙ sym (Views.bytes_granted s (view_of s tag ref) offset size viewed)),
    )

-- where the buffer is too short for it, 14
pub copy_plain_small : (s : List ℕ) (tag ref offset size room : ℕ) → view_of s tag ref ≡ grant (offset ∷ size ∷ []) → room < size → copy_of s tag ref room ≡ refuse 2 14 0
unfolding in_place
copy_plain_small s tag ref offset size room viewed small =
    let g = Views.granted_view s tag ref offset size viewed in
    Copies.copy_goes s tag ref g.1.sound _ g.1.is room ∙ Copies.copy_small room g.0 (in_place s offset size) refl small

-- an image that does not open is refused as opening refuses it
pub copy_unopened : (s : List ℕ) (tag ref room : ℕ) → ((open_of s).number ≡ 0 → ⊥) → copy_of s tag ref room ≡ refuse 2 (open_of s).number (open_of s).place
copy_unopened = CopyRules.copy_closed

pub copy_absent : (s : List ℕ) (tag ref room : ℕ) → (open_of s).number ≡ 0 → ((p : ℕ) → Named s tag ref p → ⊥) → copy_of s tag ref room ≡ refuse 2 ABSENT 0
copy_absent s tag ref room opens none = Copies.copy_goes s tag ref opens _ (named_absent s tag ref none) room

-- an element in linked blocks, copied: the bytes are what the blocks of its tables give, one after the other, and as many as its record says
pub copy_linked : (s : List ℕ) (tag ref p room : ℕ) → Named s tag ref p → extended_at s p ≡ true → (copy_of s tag ref room).number ≡ 0
    → let d = description_of s (content_at s p) in
    (copy_of s tag ref room ≡ grant (d.length ∷ 0 ∷ []))
    × (length (element_bytes s tag ref) ≡ d.length)
    × ((tables : List ℕ) × Complete s d tables × (element_bytes s tag ref ≡ given s d 0 d.length (block_refs s d tables)))
unfolding in_blocks
copy_linked s tag ref p room named e granted =
    let d = description_of s (content_at s p) in
    let x = in_blocks s (content_at s p) in
    let g = Copies.granted_copy s tag ref room granted in
    let f = named_extended s tag ref p g.1.sound named (Copies.copied_stored s tag ref p room named granted) e in
    let is = Copies.copy_goes s tag ref g.1.sound _ f room in
    let h = Copies.copy_passed room p x (ap (λ a. a.number) (sym is) ∙ granted) in
    let long = description_length (content_at s p) s in
    let answers = is ∙ Copies.copy_granted room p x h.0 h.1 h.2 ∙ ap (λ n. grant (n ∷ 0 ∷ [])) (sym long) in
    let c = chain_given s d h.2 in (
      answers,
      g.1.holds ∙ ap (λ a. get_or a.values 0 0) (sym g.1.answers ∙ answers),
      (c.0, c.1, Copies.bytes_found_lem s tag ref g.1.sound _ f ∙ c.2),
    )

module _ (s : List ℕ) (tag ref p room : ℕ) (opens : (open_of s).number ≡ 0) (named : Named s tag ref p) (stored : IsStored s p) (extended : extended_at s p ≡ true) where
  linked_is : copy_of s tag ref room ≡ copy_at room p (in_blocks s (content_at s p))
  linked_is = Copies.copy_goes s tag ref opens _ (named_extended s tag ref p opens named stored extended) room

  -- it is copied exactly if its record keeps the rules, the buffer is long enough, and there are tables whose blocks give all its bytes
  pub copy_linked_exactly : let d = description_of s (content_at s p) in
      ((copy_of s tag ref room).number ≡ 0) ↔ (AllHold (copy_rules (content_at s p) p room) × ((tables : List ℕ) × Complete s d tables))
  unfolding in_blocks
  copy_linked_exactly =
      let d = description_of s (content_at s p) in
      let x = in_blocks s (content_at s p) in
      let ready = CopyRules.ready s opens (content_at s p) p room in (
        (λ h. let c = Copies.copy_passed room p x (ap (λ a. a.number) (sym linked_is) ∙ h) in let g = chain_given s d c.2 in (ready.0 (c.0, c.1), (g.0, g.1))),
        (λ h. let k = ready.1 h.0 in ap (λ a. a.number) (linked_is ∙ Copies.copy_granted room p x k.0 k.1 (chain_complete s d h.1.0 h.1.1))),
      )

  -- which is so exactly if every table and block of which bytes are needed is sound
  pub copy_unbroken : ((copy_of s tag ref room).number ≡ 0) ↔ (AllHold (copy_rules (content_at s p) p room) × Unbroken s (description_of s (content_at s p)))
  copy_unbroken = rw linked_is (CopyRules.granted_unbroken s opens (content_at s p) p room)

  -- 12 and 13 are answered exactly for the record, and 14 for the buffer, at their places and with index 0
  pub copy_record : (n q : ℕ) → ((copy_of s tag ref room ≡ refuse 2 n q) × (n ≡ 0 → ⊥) × (n < 23)) ↔ FirstBroken (copy_rules (content_at s p) p room) n q
  copy_record n q = rw linked_is (CopyRules.refused_early s opens (content_at s p) p room n q)

  -- 23 to 27 are answered with an index exactly if that is the first table or block that is broken, and in this way
  pub copy_broken : (n x : ℕ) → ((copy_of s tag ref room ≡ refuse_carrying 1 n p x) × (23 ≤ n))
      ↔ (AllHold (copy_rules (content_at s p) p room) × Broken s (description_of s (content_at s p)) n x)
  copy_broken n x = rw linked_is (CopyRules.refused_broken s opens (content_at s p) p room n x)

  -- there is no fourth case: each is granted, or refused for the record or the buffer, or for a table or block
  pub copy_decided : let d = description_of s (content_at s p) in
      let R = copy_rules (content_at s p) p room in
      (AllHold R × Unbroken s d) ⊎ (((n q : ℕ) × FirstBroken R n q) ⊎ (AllHold R × ((n x : ℕ) × Broken s d n x)))
  copy_decided = CopyRules.copy_decided s opens (content_at s p) p room

  -- one of them is answered exactly where no tables give all its bytes: where the rules of a chain had one number
  pub copy_split : (23 ≤ (copy_of s tag ref room).number)
      ↔ (AllHold (copy_rules (content_at s p) p room) × ((tables : List ℕ) → Complete s (description_of s (content_at s p)) tables → ⊥))
  copy_split =
      let d = description_of s (content_at s p) in
      let late = CopyRules.refused_late s opens (content_at s p) p room in
      rw linked_is (
        (λ l. let h = late.0 l in (h.0, λ tables c. h.1 (chain_complete s d tables c))),
        (λ h. late.1 (h.0, λ e. let g = chain_given s d e in h.1 g.0 g.1)),
      )

-- the bytes stand at the front of the buffer, and nothing past them changes
pub copy_rest : (s : List ℕ) (tag ref n : ℕ) (out : List ℕ) → copy_of s tag ref (length out) ≡ grant (n ∷ 0 ∷ [])
    → (take n (copy_after s tag ref out) ≡ element_bytes s tag ref) × (drop n (copy_after s tag ref out) ≡ drop n out) × (length (copy_after s tag ref out) ≡ length out)
copy_rest s tag ref n out e =
    let granted = ap (λ a. a.number) e in
    let g = Copies.granted_copy s tag ref (length out) granted in
    let long : length (element_bytes s tag ref) ≡ n = g.1.holds ∙ ap (λ a. get_or a.values 0 0) (sym g.1.answers ∙ e) in
    let is : copy_after s tag ref out ≡ element_bytes s tag ref ++ drop n out =
    Lent.laid_granted (copy_of s tag ref (length out)) (element_bytes s tag ref) out granted ∙ ap (λ k. element_bytes s tag ref ++ drop k out) long in (
      ap (take n) is ∙ take_at (element_bytes s tag ref) (drop n out) n long,
      ap (drop n) is ∙ drop_at (element_bytes s tag ref) (drop n out) n long,
      ap length is ∙ length-append (element_bytes s tag ref) (drop n out) ∙ omega (arith, length-drop n out, g.1.fits, g.1.holds),
    )

-- an answer has an index for the faults of tables and blocks alone, granted or refused
pub copy_index : (s : List ℕ) (tag ref room : ℕ) → ((copy_of s tag ref room).number < 23) ⊎ (27 < (copy_of s tag ref room).number) → get_or (copy_of s tag ref room).values 1 0 ≡ 0
copy_index s tag ref room other =
    elim (same? (copy_of s tag ref room).number 0) [
      | inl e ↦ let g = Copies.granted_copy s tag ref room e in ap (λ a. get_or a.values 1 0) g.1.answers
      | inr z ↦ ap (λ values. get_or values 1 0) ((CopyRules.copy_shape s tag ref room).refused z) ∙ CopyRules.index_none (copy_of s tag ref room) other
    ]

-- a copy that is refused changes nothing
pub copy_refused : (s : List ℕ) (tag ref : ℕ) (out : List ℕ) → ((copy_of s tag ref (length out)).number ≡ 0 → ⊥) → copy_after s tag ref out ≡ out
copy_refused s tag ref out z = Lent.laid_refused (copy_of s tag ref (length out)) (element_bytes s tag ref) out z

-- ---- Choice

-- both images are opened, the current one first
pub choose_unopened : (s t : List ℕ) (tag ref : ℕ) → ((open_of s).number ≡ 0 → ⊥) → choose_of s t tag ref ≡ refuse 3 (open_of s).number (open_of s).place
unfolding choose_of
choose_unopened s t tag ref closed = opened_stops 3 s _ closed

pub choose_fallback_unopened : (s t : List ℕ) (tag ref : ℕ) → (open_of s).number ≡ 0 → ((open_of t).number ≡ 0 → ⊥)
    → choose_of s t tag ref ≡ refuse 3 (open_of t).number (open_of t).place
unfolding choose_of
choose_fallback_unopened s t tag ref opens closed = opened_goes 3 s _ opens ∙ opened_stops 3 t _ closed

module _ (s t : List ℕ) (tag ref : ℕ) (opens : (open_of s).number ≡ 0) (other : (open_of t).number ≡ 0) where
  -- where the current image has the element its part is given, and one that is extended does not fall through to the fallback
  module _ (p : ℕ) (named : Named s tag ref p) where
    pub choose_current : IsStored s p → extended_at s p ≡ false
        → (choose_of s t tag ref ≡ grant (1 ∷ start_at s p ∷ size_at s p ∷ [])) × (chosen_bytes s t (choose_of s t tag ref) ≡ content_at s p)
    choose_current stored e =
        let c = Choices.choose_current s t tag ref opens other _ (named_plain s tag ref p opens named stored e) refl in
        (c, Choices.bytes_current s t (choose_of s t tag ref) (start_at s p) (size_at s p) c ∙ sym (content_part s p))

    pub choose_extended : IsStored s p → extended_at s p ≡ true → choose_of s t tag ref ≡ refuse 3 STORAGE p
    choose_extended stored e = Choices.choose_current s t tag ref opens other _ (named_extended s tag ref p opens named stored e) refl

  -- where it has not, the fallback's
  module _ (none : (p : ℕ) → Named s tag ref p → ⊥) where
    pub choose_fallback : (p : ℕ) → Named t tag ref p → IsStored t p → extended_at t p ≡ false
        → (choose_of s t tag ref ≡ grant (2 ∷ start_at t p ∷ size_at t p ∷ [])) × (chosen_bytes s t (choose_of s t tag ref) ≡ content_at t p)
    choose_fallback p named stored e =
        let c = Choices.choose_fallback s t tag ref opens other _ (named_absent s tag ref none) refl _ (named_plain t tag ref p other named stored e) in
        (c, Choices.bytes_fallback s t (choose_of s t tag ref) (start_at t p) (size_at t p) c ∙ sym (content_part t p))

    -- an extended element there is refused at its slot in the fallback
    pub choose_fallback_extended : (p : ℕ) → Named t tag ref p → IsStored t p → extended_at t p ≡ true → choose_of s t tag ref ≡ refuse 3 STORAGE p
    choose_fallback_extended p named stored e =
        Choices.choose_fallback s t tag ref opens other _ (named_absent s tag ref none) refl _ (named_extended t tag ref p other named stored e)

    pub choose_absent : ((p : ℕ) → Named t tag ref p → ⊥) → choose_of s t tag ref ≡ refuse 3 ABSENT 0
    choose_absent neither = Choices.choose_fallback s t tag ref opens other _ (named_absent s tag ref none) refl _ (named_absent t tag ref neither)
