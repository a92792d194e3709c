-- A slot as an edit writes it, as it is read: free, or filled with an element whose data stands past all blocks. Assumes nothing.
use Prim.Native.Nat.{ℕ, ◌+◌, ◌-◌, ◌^◌, ◌≤◌, ◌<◌}
use mathlib.Core.Path.{◌≡◌, refl, sym, ◌∙◌}
use mathlib.Core.Logic.{◌⊎◌, inl, inr}
use mathlib.Core.List.{List, [], ◌∷◌, ◌++◌}
use native.Mathlib.Omega.{arith}
use lib.ListN.{length, length-append}
use Rattle.std.specs.Prelude.{Some}
use Rattle.wire.specs.Numbers.{bytes, part, Bytes}
use Rattle.wire.specs.declared.ByteOrder.TheVariants.{BigEndian}
use Rattle.wire.proofs.Numbers.{Same, Holds, length_bytes, number_holds}
use Rattle.directory.specs.Limits.{most_bytes, free_tag}
use Rattle.directory.specs.Blocks.{block_end}
use Rattle.directory.specs.Slots.{tag_at, ref_at, offset_at, base_tag, size_at, content_at, slot_places}
use Rattle.directory.specs.Opening.{open_of}
use Rattle.answer.specs.Search.{In}
use Rattle.directory.specs.Rules.{Live, IsStored, ElementKept, Clashing, Kept}
use Rattle.answer.proofs.Tests.{same?}
use Rattle.directory.proofs.Slots.{size_stored}
use Rattle.journal.specs.Trailers.{carried_by, Author, form_of, desk_of, trailer_size}
use Rattle.journal.specs.Undos.{for_desk, undo_of}
use Rattle.journal.specs.History.{IsAuthor}
use Rattle.journal.specs.EditRules.{SlotIs}
use Rattle.journal.specs.Edits.{slot_bytes, free_slot, data_offset, data_slot}
use Rattle.journal.proofs.Parts.{holds_left, be_last, part_held}
use Rattle.journal.proofs.Runs.{offset_empty, offset_full}
use Rattle.journal.proofs.Frames.{Framed, framed_kept}
use Rattle.journal.proofs.Outcomes.{Taken}

-- ---- The twelve bytes

slot_reads : (t : List ℕ) (q tag ref offset size : ℕ) → tag < 256 ^ 2 → ref < 256 ^ 2 → offset < 256 ^ 4 → size < 256 ^ 4
    → Holds t q (slot_bytes tag ref offset size) → SlotIs t q tag ref offset size
unfolding slot_bytes
slot_reads t q tag ref offset size b₁ b₂ b₃ b₄ h =
    let t₁ = bytes 2 tag in
    let t₂ = t₁ ++ bytes 2 ref in
    let t₃ = t₂ ++ bytes 4 offset in
    let h₃ = holds_left t q t₃ (bytes 4 size) h in
    let h₂ = holds_left t q t₂ (bytes 4 offset) h₃ in
    let h₁ = holds_left t q t₁ (bytes 2 ref) h₂ in
    record {
      tag_is = number_holds BigEndian 2 t q tag b₁ h₁;
      ref_is = be_last 2 t q 2 t₁ ref (length_bytes BigEndian 2 tag) b₂ h₂;
      offset_is = be_last 4 t q 4 t₂ offset (simp (length-append, length_bytes)) b₃ h₃;
      length_is = be_last 4 t q 8 t₃ size (simp (length-append, length_bytes)) b₄ h;
    }

-- ---- A free slot

pub free_reads : (t : List ℕ) (q : ℕ) → Holds t q free_slot → SlotIs t q free_tag 0 0 0
unfolding free_slot
free_reads t q h = slot_reads t q free_tag 0 0 0 (omega arith) (omega arith) (omega arith) (omega arith) h

-- ---- A filled slot

offset_le : (content : List ℕ) (at : ℕ) → data_offset content at ≤ at
offset_le content at =
    elim (same? (length content) 0) [ inl e ↦ omega (arith, offset_empty content at e) | inr h ↦ omega (arith, offset_full content at h) ]

-- the slot at q has the tag and the reference, and its element is the content, which stands at a place
pub record Filled (t : List ℕ) (q tag ref : ℕ) (content : List ℕ) (at : ℕ) : Type 0 where
  pub reads : SlotIs t q tag ref (data_offset content at) (length content)
  pub live : Live t q
  pub base_is : base_tag (tag_at t q) ≡ tag
  pub stored : IsStored t q
  pub size_is : size_at t q ≡ length content
  pub offset_is : 0 < length content → offset_at t q ≡ at
  pub held : Holds t at content
  pub inside : at + length content ≤ length t

filled : (t : List ℕ) (q tag ref : ℕ) (content : List ℕ) (at : ℕ) → Taken tag → tag < 65536 → ref < 65536 → at + length content < 256 ^ 4
    → Holds t q (data_slot tag ref content at) → Holds t at content → at + length content ≤ length t → Filled t q tag ref content at
unfolding data_slot
filled t q tag ref content at taken b₁ b₂ b₃ h held inside =
    let r = slot_reads t q tag ref (data_offset content at) (length content) b₁ b₂ (omega (arith, offset_le content at)) (omega arith) h in
    let base : base_tag (tag_at t q) ≡ tag = rw r.tag_is taken.base in
    let stored : IsStored t q = λ u. omega (arith, u.offset, r.offset_is, offset_le content at) in
    record {
      reads = r;
      live = λ e. taken.not_free (sym r.tag_is ∙ e);
      base_is = base;
      stored = stored;
      size_is = size_stored t q (λ e. taken.not_lone (sym base ∙ e)) stored ∙ r.length_is;
      offset_is = λ z. r.offset_is ∙ offset_full content at (λ e. omega arith);
      held = held;
      inside = inside;
    }

part_filled : (t : List ℕ) (a : ℕ) (content : List ℕ) (at : ℕ) → (0 < length content → a ≡ at) → Holds t at content → at + length content ≤ length t
    → part t a (length content) ≡ content
unfolding part
part_filled t a [] at e h n = refl
part_filled t a (x ∷ xs) at e h n = rw (e (omega arith)) (part_held t at (length (x ∷ xs)) (x ∷ xs) n refl h)

module _ (t : List ℕ) (q tag ref : ℕ) (content : List ℕ) (at : ℕ) (f : Filled t q tag ref content at) where
  pub filled_content : content_at t q ≡ content
  unfolding content_at
  filled_content = rw f.size_is (part_filled t (offset_at t q) content at f.offset_is f.held f.inside)

  filled_element : (bs : List ℕ) → Taken tag → 4 ≤ at → ((b : ℕ) → In b bs → block_end t b ≤ at) → ElementKept t bs q
  filled_element bs taken four past =
      let z : 0 < size_at t q → offset_at t q ≡ at = λ h. f.offset_is (rw f.size_is at h) in
      record {
        tag = rw f.base_is taken.not_zero;
        not_free = rw f.reads.tag_is taken.not_extended_free;
        inside = λ h. omega (arith, z h, f.size_is, f.inside);
        after_header = λ h. omega (arith, z h);
        off_blocks = λ h b i. inr (omega (arith, z h, past b i));
      }

  -- a slot that clashes with it has its base tag and its reference
  filled_clash : (p : ℕ) → Taken tag → Clashing t p q → (base_tag (tag_at t p) ≡ tag) × (ref_at t p ≡ ref)
  filled_clash p taken c = (
    c.0 ∙ f.base_is,
    elim c.1 [ inl e ↦ absurd (taken.not_lone (sym f.base_is ∙ (sym c.0 ∙ e))) | inr e ↦ e ∙ f.reads.ref_is ],
  )

-- ---- A file with such a slot

-- t, whose blocks stand at cs, is s with a slot written at q and content at a place past all blocks; undo makes s of it for the author's desk if
-- it opens
pub record Writes (author : Author) (s bs t cs : List ℕ) (q : ℕ) (slot content : List ℕ) (at place count : ℕ) : Type 0 where
  pub framed : Framed s bs t cs q
  pub here : In q (slot_places t cs)
  pub slot_held : Holds t q slot
  pub content_held : Holds t at content
  pub size : length t ≡ at + length content + trailer_size author
  pub after_header : 4 ≤ at
  pub past : (b : ℕ) → In b cs → block_end t b ≤ at
  pub besides : (p : ℕ) → In p (slot_places t cs) → (p ≡ q → ⊥) → In p (slot_places s bs) ⊎ Holds t p free_slot
  pub low : Same s t 0 place
  pub high : Same s t (place + count) (length s)
  pub ending : Bytes s → IsAuthor author → carried_by t ≡ Some (form_of author)
  pub back : Bytes s → IsAuthor author → (open_of s).number ≡ 0 → Kept t cs → (desk : ℕ)
      → undo_of t desk ≡ for_desk (desk_of author) desk (length t - trailer_size author) s

-- with a free slot it keeps the rules
pub freed_kept : (author : Author) (s bs t cs : List ℕ) (q at place count : ℕ) → Kept s bs → Writes author s bs t cs q free_slot [] at place count → length t ≤ most_bytes → Kept t cs
freed_kept author s bs t cs q at place count k w short =
    let free = (free_reads t q w.slot_held).tag_is in
    framed_kept s bs t cs q k w.framed short (λ l. absurd (l free)) (λ l. absurd (l free))

module _ (author : Author) (s bs t cs : List ℕ) (q tag ref : ℕ) (content : List ℕ) (at place count : ℕ) (w : Writes author s bs t cs q (data_slot tag ref content at) content at place count)
    (short : length t ≤ most_bytes) (taken : Taken tag) (b₁ : tag < 65536) (b₂ : ref < 65536) where
  pub writes_filled : Filled t q tag ref content at
  writes_filled = filled t q tag ref content at taken b₁ b₂ (omega (arith, w.size)) w.slot_held w.content_held (omega (arith, w.size))

  -- with a filled slot it keeps the rules, if no other live slot of s has the tag and the reference
  pub filled_kept : Kept s bs
      → ((p : ℕ) → In p (slot_places s bs) → (p ≡ q → ⊥) → Live s p → base_tag (tag_at s p) ≡ tag → ref_at s p ≡ ref → ⊥) → Kept t cs
  filled_kept k alone =
      let f = writes_filled in
      framed_kept s bs t cs q k w.framed short (λ l. filled_element t q tag ref content at f cs taken w.after_header w.past)
      (λ l p i n m c.
      let e = (w.framed.stays p i n).1 in
      let r = filled_clash t q tag ref content at f p taken c in
      alone p i n (rw e.tag at m) (rw e.tag at r.0) (rw e.ref at r.1))
