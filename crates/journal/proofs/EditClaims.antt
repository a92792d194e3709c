-- The claims about edits, whosever they are: what is read of the file after one, what of it is as before, that it opens, and its length. Assumes
-- nothing.
use Prim.Native.Nat.{ℕ, ◌<◌}
use mathlib.Core.Path.{◌≡◌, sym, ◌∙◌}
use mathlib.Core.Logic.{◌↔◌, inl, inr}
use mathlib.Core.List.{List}
use native.Mathlib.Omega.{arith}
use lib.ListN.{length}
use Rattle.wire.specs.Numbers.{part}
use Rattle.answer.specs.Refusals.{ABSENT}
use Rattle.answer.specs.Answer.{refuse}
use Rattle.directory.specs.Blocks.{blocks_of}
use Rattle.directory.specs.Slots.{tag_at, offset_at, size_at, element_end, content_at, slots_of}
use Rattle.directory.specs.Opening.{open_of}
use Rattle.directory.specs.Lookup.{find_of}
use Rattle.answer.specs.Search.{In}
use Rattle.directory.specs.Rules.{Live, Unstored}
use Rattle.directory.specs.Named.{Named}
use Rattle.answer.proofs.Tests.{same?, zero?}
use Rattle.directory.proofs.Rules.{opens_kept, kept_blocks, chain_kept}
use Rattle.directory.proofs.Claims.{find_finds, find_found, find_absent}
use Rattle.journal.specs.Outcomes.{granted}
use Rattle.journal.specs.Trailers.{Author}
use Rattle.journal.specs.Edits.{add_of, replace_of, remove_of}
use Rattle.journal.specs.History.{Edit, add, replace, remove, TypedEdit, edited}
use Rattle.journal.specs.EditRules.{ReadsBack, PairKept, tag_of, ref_of, content_of, OtherPair, TakesSlot, OneSlot, Alters, length_after}
use Rattle.journal.proofs.Parts.{part_same}
use Rattle.journal.proofs.Spacing.{slot_inside}
use Rattle.journal.proofs.Written.{filled_content}
use Rattle.journal.proofs.Edits.{Made, Fills, made, made_opens, added, replaced, removed}

-- ---- Slots other than the one that was written

module _ (s : List ℕ) (capacity : ℕ) (author : Author) (e : Edit) (t : List ℕ) (m : Made s capacity author e t) where
  named_before : (tag ref p : ℕ) → (p ≡ m.slot → ⊥) → Named t tag ref p → Named s tag ref p
  unfolding slots_of
  named_before tag ref p d n =
      let i = m.framed.others p (rw (kept_blocks t m.blocks m.kept) at n.slot) n.live d in
      let same = (m.framed.stays p i d).1 in
      record { slot = i; live = rw same.tag at n.live; tag = rw same.tag at n.tag; reference = rw same.ref at n.reference }

  named_after : (tag ref p : ℕ) → (p ≡ m.slot → ⊥) → Named s tag ref p → Named t tag ref p
  unfolding slots_of
  named_after tag ref p d n =
      let k = m.framed.stays p n.slot d in
      let same = k.1 in
      record {
        slot = rw (kept_blocks t m.blocks m.kept) k.0;
        live = rw same.tag n.live;
        tag = rw same.tag n.tag;
        reference = rw same.ref n.reference;
      }

  tag_after : (p : ℕ) → In p (slots_of s) → (p ≡ m.slot → ⊥) → tag_at t p ≡ tag_at s p
  unfolding slots_of
  tag_after p i d = (m.framed.stays p i d).1.tag

  unstored_after : (p : ℕ) → In p (slots_of s) → (p ≡ m.slot → ⊥) → Unstored t p ↔ Unstored s p
  unfolding slots_of
  unstored_after p i d = (m.framed.stays p i d).1.unstored

  content_after : (p : ℕ) → In p (slots_of s) → Live s p → (p ≡ m.slot → ⊥) → content_at t p ≡ content_at s p
  unfolding slots_of content_at part
  content_after p i l d =
      let same = (m.framed.stays p i d).1 in
      let o = (opens_kept s m.opened).elements p i l in
      rw (same.offset, same.size) (elim (zero? (size_at s p)) [
        | inl z ↦ rw z
        | inr n ↦
            let sized : 0 < size_at s p = omega (arith, n.1) in
            part_same s t (offset_at s p) (size_at s p) (o.inside sized) m.framed.grown
            (m.framed.off (offset_at s p) (element_end s p) (o.inside sized) (o.off_blocks sized))
      ])

  -- no slot has the edit's pair and another one
  other_pair : (tag ref : ℕ) → OtherPair e tag ref → (x : List ℕ) (p : ℕ) → Named x tag ref p → Named x (tag_of e) (ref_of e) p → ⊥
  other_pair tag ref other x p n k = elim other [ inl d ↦ d (sym n.tag ∙ k.tag) | inr d ↦ d (sym n.reference ∙ k.reference) ]

  pair_kept : (tag ref : ℕ) → OtherPair e tag ref → PairKept s t tag ref
  pair_kept tag ref other =
      let differ = other_pair tag ref other in
      record {
        absent = λ h. (find_absent t tag ref (made_opens m)).1 (λ p n. elim (same? p m.slot) [
          | inl q ↦ differ t m.slot (rw q at n) (m.after (rw q at n.live))
          | inr d ↦ (find_absent s tag ref m.opened).0 h p (named_before tag ref p d n)
        ]);
        found = λ p h.
            let n = (find_found s tag ref p h).0 in
            let d : p ≡ m.slot → ⊥ = λ q. differ s m.slot (rw q at n) (m.before (rw q at n.slot) (rw q at n.live)) in
            (find_finds t tag ref p (made_opens m) (named_after tag ref p d n), tag_after p n.slot d, unstored_after p n.slot d, content_after p n.slot n.live d);
      }

-- ---- The claims

reads_back : (s : List ℕ) (capacity : ℕ) (author : Author) (e : Edit) (t : List ℕ) → Fills s capacity author e t → ReadsBack t (tag_of e) (ref_of e) (content_of e)
reads_back s capacity author e t f =
    let m = f.made in
    record {
      slot = m.slot;
      found = find_finds t (tag_of e) (ref_of e) m.slot (made_opens m) (m.after f.filled.live);
      tag_is = f.filled.reads.tag_is;
      stored = f.filled.stored;
      content_is = filled_content t m.slot (tag_of e) (ref_of e) (content_of e) f.at f.filled;
    }

-- an element that was added is found, under that tag itself, and reads as given
pub added_reads : (s : List ℕ) (capacity : ℕ) (author : Author) (tag ref : ℕ) (content t : List ℕ) → tag < 65536 → ref < 65536
    → add_of s capacity author tag ref content ≡ granted t → ReadsBack t tag ref content
added_reads s capacity author tag ref content t b₁ b₂ e =
    reads_back s capacity author (add tag ref content) t (added s capacity author tag ref content t b₁ b₂ e)

-- and so is one that was replaced
pub replaced_reads : (s : List ℕ) (capacity : ℕ) (author : Author) (tag ref : ℕ) (content t : List ℕ) → tag < 65536 → ref < 65536
    → replace_of s capacity author tag ref content ≡ granted t → ReadsBack t tag ref content
replaced_reads s capacity author tag ref content t b₁ b₂ e =
    reads_back s capacity author (replace tag ref content) t (replaced s capacity author tag ref content t b₁ b₂ e)

-- an element that was removed is absent
pub removed_absent : (s : List ℕ) (capacity : ℕ) (author : Author) (tag ref : ℕ) (t : List ℕ) → remove_of s capacity author tag ref ≡ granted t
    → find_of t tag ref ≡ refuse 1 ABSENT 0
removed_absent s capacity author tag ref t e =
    let f = removed s capacity author tag ref t e in
    let m = f.made in
    (find_absent t tag ref (made_opens m)).1 (λ p n. elim (same? p m.slot) [
      | inl q ↦ n.live (rw q f.free)
      | inr d ↦ d (m.only p (named_before s capacity author (remove tag ref) t m tag ref p d n))
    ])

-- every other pair is as before: absent, or in the same slot with the same tag, stored or not as it was, and with the same bytes
pub others_kept : (s : List ℕ) (capacity : ℕ) (author : Author) (e : Edit) (t : List ℕ) → TypedEdit e → edited capacity author e s ≡ granted t
    → (tag ref : ℕ) → OtherPair e tag ref → PairKept s t tag ref
others_kept s capacity author e t y g = pair_kept s capacity author e t (made s capacity author e t y g)

-- the edit writes one slot: which it is, what it holds, and that every other slot has its twelve bytes as before
pub descriptors_stand : (s : List ℕ) (capacity : ℕ) (author : Author) (e : Edit) (t : List ℕ) → TypedEdit e → edited capacity author e s ≡ granted t
    → (q : ℕ) × OneSlot author s t e q
unfolding slots_of
descriptors_stand s capacity author e t y g =
    let m = made s capacity author e t y g in
    let k = opens_kept s m.opened in
    let places = kept_blocks t m.blocks m.kept in (
      m.slot,
      record {
        takes = m.takes;
        there = rw places m.here;
        holds = m.holds;
        others = λ p i d.
            let x = m.framed.stays p i d in
            (rw places x.0, part_same s t p 12 (slot_inside s (blocks_of s) (chain_kept s (blocks_of s) k).blocks p i).1 m.framed.grown x.1.bytes);
        besides = λ p i d. m.besides p (rw places at i) d;
      },
    )

-- and alters the bytes of that slot, or of one next field, and no others of the file
pub bytes_stand : (s : List ℕ) (capacity : ℕ) (author : Author) (e : Edit) (t : List ℕ) → TypedEdit e → edited capacity author e s ≡ granted t
    → (q : ℕ) × TakesSlot s e q × ((at : ℕ) × (count : ℕ) × Alters s t q at count)
bytes_stand s capacity author e t y g = let m = made s capacity author e t y g in (m.slot, m.takes, m.alters)

-- the file after a granted edit opens
pub stays_accepted : (s : List ℕ) (capacity : ℕ) (author : Author) (e : Edit) (t : List ℕ) → TypedEdit e → edited capacity author e s ≡ granted t
    → (open_of t).number ≡ 0
stays_accepted s capacity author e t y g = made_opens (made s capacity author e t y g)

-- its length is the paper's
pub new_length : (s : List ℕ) (capacity : ℕ) (author : Author) (e : Edit) (t : List ℕ) → TypedEdit e → edited capacity author e s ≡ granted t
    → length t ≡ length_after author s e
new_length s capacity author e t y g = (made s capacity author e t y g).size
