-- What a granted edit makes of a file: one slot is filled or freed, the others stay, the file opens, and undo makes the file before of it.
-- Assumes nothing.
use Prim.Native.Nat.{ℕ, ◌+◌, ◌-◌, ◌≤◌, ◌<◌}
use mathlib.Core.Path.{◌≡◌, refl, sym, ap, ◌∙◌}
use mathlib.Core.Logic.{◌⊎◌, inl, inr}
use mathlib.Core.List.{List, [], ◌∷◌, ◌++◌}
use mathlib.Core.Bool.{not, ◌||◌}
use native.Mathlib.Omega.{arith}
use lib.ListN.{length, take, length-take}
use lib.Dec.{leb, ltb}
use borrow.Author.Tests.{leb-false, ltb-false, not-true}
use Rattle.std.specs.Prelude.{Some}
use Rattle.wire.specs.Numbers.{Bytes}
use Rattle.directory.specs.Limits.{most_bytes, most_blocks, most_slots, free_tag}
use Rattle.answer.specs.Refusals.{DIR_BIG, ABSENT, PRESENT}
use Rattle.answer.specs.Search.{Hit, hit, miss, In}
use Rattle.directory.specs.Blocks.{next_block, blocks_of}
use Rattle.directory.specs.Slots.{tag_at, live_at, slot_places, slots_of}
use Rattle.directory.specs.Opening.{open_of}
use Rattle.directory.specs.Links.{last_of}
use Rattle.directory.specs.Lookup.{find}
use Rattle.directory.specs.Rules.{Live, Kept}
use Rattle.directory.specs.Named.{Named}
use Rattle.answer.proofs.Tests.{or_clear, picks, not_both}
use Rattle.answer.proofs.Search.{first_hit}
use Rattle.directory.proofs.Slots.{live_is}
use Rattle.directory.proofs.Rules.{opens_kept, kept_blocks, kept_opens, chain_kept}
use Rattle.directory.proofs.Named.{found_named, missed_named, named_once}
use Rattle.journal.specs.Outcomes.{Outcome, granted, refused}
use Rattle.journal.specs.Trailers.{carried_by, Author, form_of, desk_of, trailer_size}
use Rattle.journal.specs.Edits.{block_slots, block_size, first_free, free_slot, new_block, data_offset, data_slot, slot_edit, block_edit, fitted, add_at, add_of, replace_of, remove_of}
use Rattle.journal.specs.Undos.{for_desk, undo_of}
use Rattle.journal.specs.Buffers.{undo_in}
use Rattle.journal.specs.History.{Edit, add, replace, remove, TypedEdit, IsAuthor, edited}
use Rattle.journal.specs.EditRules.{tag_of, ref_of, content_of, SlotIs, TakesSlot, HoldsPair, HoldsEdit, Alters, added_at, length_after}
use Rattle.journal.specs.Rules.{NoneFree}
use Rattle.journal.proofs.AllBytes.{bytes_free, bytes_data, bytes_slot_edit, bytes_block_edit}
use Rattle.journal.proofs.Spacing.{slot_inside}
use Rattle.journal.proofs.Frames.{Framed}
use Rattle.journal.proofs.Outcomes.{refused_granted, hit_picks, Taken, tagged_granted, fitted_granted}
use Rattle.journal.proofs.Buffers.{undo_here}
use Rattle.journal.proofs.Runs.{length_free, length_data, offset_empty, offset_full}
use Rattle.journal.proofs.Written.{free_reads, Filled, Writes, freed_kept, writes_filled, filled_kept}
use Rattle.journal.proofs.SlotEdits.{slot_edit_writes}
use Rattle.journal.proofs.BlockEdits.{linked_last, linked_end, block_edit_writes}
use Rattle.journal.proofs.Rules.{none_free, first_free_lem}

-- ---- What an edit makes

-- t is what the edit makes of s in a buffer of so many bytes: one slot alone is written, in s no other slot has the edit's pair, and where it
-- is live, in s or in t, it has that pair
pub record Made (s : List ℕ) (capacity : ℕ) (author : Author) (e : Edit) (t : List ℕ) : Type 0 where
  pub blocks : List ℕ
  pub slot : ℕ
  pub opened : (open_of s).number ≡ 0
  pub framed : Framed s (blocks_of s) t blocks slot
  pub kept : Kept t blocks
  pub fits : length t ≤ capacity
  pub size : length t ≡ length_after author s e
  pub bytes : Bytes s → Bytes (content_of e) → Bytes t
  pub ending : Bytes s → IsAuthor author → carried_by t ≡ Some (form_of author)
  pub back : Bytes s → IsAuthor author → (desk : ℕ) → undo_of t desk ≡ for_desk (desk_of author) desk (length t - trailer_size author) s
  pub before : In slot (slots_of s) → Live s slot → Named s (tag_of e) (ref_of e) slot
  pub only : (p : ℕ) → Named s (tag_of e) (ref_of e) p → p ≡ slot
  pub after : Live t slot → Named t (tag_of e) (ref_of e) slot
  pub here : In slot (slot_places t blocks)
  pub takes : TakesSlot s e slot
  pub holds : HoldsEdit author t e slot
  pub besides : (p : ℕ) → In p (slot_places t blocks) → (p ≡ slot → ⊥) → In p (slots_of s) ⊎ SlotIs t p 1 0 0 0
  pub alters : (at : ℕ) × (count : ℕ) × Alters s t slot at count

-- that slot is filled with the edit's content, which stands at a place
pub record Fills (s : List ℕ) (capacity : ℕ) (author : Author) (e : Edit) (t : List ℕ) : Type 0 where
  pub made : Made s capacity author e t
  pub at : ℕ
  pub filled : Filled t made.slot (tag_of e) (ref_of e) (content_of e) at

-- that slot is freed
pub record Frees (s : List ℕ) (capacity : ℕ) (author : Author) (e : Edit) (t : List ℕ) : Type 0 where
  pub made : Made s capacity author e t
  pub free : tag_at t made.slot ≡ free_tag

module _ (s : List ℕ) (capacity : ℕ) (author : Author) (e : Edit) (u t cs : List ℕ) (q : ℕ) (opens : (open_of s).number ≡ 0) (granting : fitted capacity u ≡ granted t)
    (before : In q (slots_of s) → Live s q → Named s (tag_of e) (ref_of e) q) (only : (p : ℕ) → Named s (tag_of e) (ref_of e) p → p ≡ q) where
  -- what the edit alters, by what it writes
  abbrev Which : ℕ → ℕ → Type 0
  Which at count = ((at ≡ q) × (count ≡ 12)) ⊎ (NoneFree s × (count ≡ 4) × ((b : ℕ) × In b (blocks_of s) × (next_block s b ≡ 0) × (at ≡ b + 2)))

  makes : (slot content : List ℕ) (at place count : ℕ) → Writes author s (blocks_of s) u cs q slot content at place count → Kept u cs → length_after author s e ≡ at + length content + trailer_size author
      → (Bytes s → Bytes (content_of e) → Bytes u) → (Live u q → Named u (tag_of e) (ref_of e) q) → TakesSlot s e q → HoldsEdit author u e q → Which place count
      → Made s capacity author e u
  unfolding slots_of
  makes slot content at place count w kept size bytes after takes holds which =
      record {
        blocks = cs;
        slot = q;
        opened = opens;
        framed = w.framed;
        kept = kept;
        fits = (fitted_granted capacity u t granting).1;
        size = w.size ∙ sym size;
        bytes = bytes;
        ending = w.ending;
        back = λ all is. w.back all is opens kept;
        before = before;
        only = only;
        after = after;
        here = w.here;
        takes = takes;
        holds = holds;
        besides = λ p i n. elim (w.besides p i n) [ inl j ↦ inl j | inr h ↦ inr (free_reads u p h) ];
        alters = (
          place,
          count,
          record { which = which; before = λ i l. w.low i (omega arith) l; after = λ i l h. w.high i l h },
        );
      }

  fills : (at place count : ℕ) → Writes author s (blocks_of s) u cs q (data_slot (tag_of e) (ref_of e) (content_of e) at) (content_of e) at place count → Taken (tag_of e)
      → tag_of e < 65536 → ref_of e < 65536 → length_after author s e ≡ at + length (content_of e) + trailer_size author → (Bytes s → Bytes (content_of e) → Bytes u)
      → TakesSlot s e q → (HoldsPair author u q (tag_of e) (ref_of e) (content_of e) → HoldsEdit author u e q) → Which place count → Fills s capacity author e t
  unfolding slots_of makes
  fills at place count w taken b₁ b₂ size bytes takes as_edit which =
      let g = fitted_granted capacity u t granting in
      let content = content_of e in
      let f = writes_filled author s (blocks_of s) u cs q (tag_of e) (ref_of e) content at place count w g.0 taken b₁ b₂ in
      let kept = filled_kept author s (blocks_of s) u cs q (tag_of e) (ref_of e) content at place count w g.0 taken b₁ b₂ (opens_kept s opens)
      (λ p i n l x r. n (only p (record { slot = i; live = l; tag = x ∙ sym taken.base; reference = r }))) in
      let pair : HoldsPair author u q (tag_of e) (ref_of e) content =
      (data_offset content at, f.reads, offset_empty content at, λ z. omega (arith, offset_full content at (λ n. omega arith), w.size)) in
      rw (← g.2) (record {
        made = makes _ _ at place count w kept size bytes (λ l. record {
          slot = rw (kept_blocks u cs kept) w.here;
          live = l;
          tag = f.base_is ∙ sym taken.base;
          reference = f.reads.ref_is;
        }) takes (as_edit pair) which;
        at = at;
        filled = f;
      })

  frees : (place count : ℕ) → Writes author s (blocks_of s) u cs q free_slot [] (length s) place count → length_after author s e ≡ length s + 0 + trailer_size author → (Bytes s → Bytes u)
      → TakesSlot s e q → (SlotIs u q 1 0 0 0 → HoldsEdit author u e q) → Which place count → Frees s capacity author e t
  unfolding makes
  frees place count w size bytes takes as_edit which =
      let g = fitted_granted capacity u t granting in
      let free = free_reads u q w.slot_held in
      let kept = freed_kept author s (blocks_of s) u cs q (length s) place count (opens_kept s opens) w g.0 in
      rw (← g.2) (record {
        made = makes _ _ (length s) place count w kept size (λ h c. bytes h) (λ l. absurd (l free.tag_is)) takes (as_edit free) which;
        free = free.tag_is;
      })

-- ---- Each edit

-- a slot of the file is filled
fill_slot : (s : List ℕ) (capacity : ℕ) (author : Author) (e : Edit) (t : List ℕ) (q : ℕ) → (open_of s).number ≡ 0 → Taken (tag_of e) → tag_of e < 65536 → ref_of e < 65536
    → In q (slots_of s) → (Live s q → Named s (tag_of e) (ref_of e) q) → ((p : ℕ) → Named s (tag_of e) (ref_of e) p → p ≡ q)
    → length_after author s e ≡ length s + length (content_of e) + trailer_size author → TakesSlot s e q
    → ((u : List ℕ) → HoldsPair author u q (tag_of e) (ref_of e) (content_of e) → HoldsEdit author u e q)
    → fitted capacity (slot_edit s author q (data_slot (tag_of e) (ref_of e) (content_of e) (length s)) (content_of e)) ≡ granted t → Fills s capacity author e t
unfolding slots_of
fill_slot s capacity author e t q opens taken b₁ b₂ i before only size takes as_edit g =
    let content = content_of e in
    let slot = data_slot (tag_of e) (ref_of e) content (length s) in
    fills s capacity author e (slot_edit s author q slot content) t (blocks_of s) q opens g (λ j. before) only (length s) q 12
    (slot_edit_writes author s (blocks_of s) (opens_kept s opens) q i slot content (length_data (tag_of e) (ref_of e) content (length s))) taken b₁ b₂ size
    (λ h c. bytes_slot_edit s author q slot content h (bytes_data (tag_of e) (ref_of e) content (length s)) c) takes (as_edit _) (inl (refl, refl))

pub replaced : (s : List ℕ) (capacity : ℕ) (author : Author) (tag ref : ℕ) (content t : List ℕ) → tag < 65536 → ref < 65536 → replace_of s capacity author tag ref content ≡ granted t
    → Fills s capacity author (replace tag ref content) t
unfolding replace_of length_after
replaced s capacity author tag ref content t b₁ b₂ e =
    let g = tagged_granted s tag _ t e in
    let make : ℕ → Outcome = λ p. fitted capacity (slot_edit s author p (data_slot tag ref content (length s)) content) in
    elim (hit_picks (find s tag ref) make (refused ABSENT 0) (granted t) g.2) [
      | inr h ↦ absurd (refused_granted _ _ t h.1)
      | inl h ↦
          let n = found_named s tag ref h.0 h.1 in
          fill_slot s capacity author (replace tag ref content) t h.0 g.0 g.1 b₁ b₂ n.slot (λ l. n)
          (λ p m. named_once s tag ref p h.0 g.0 m n) refl n (λ u x. x) h.2
    ]

pub removed : (s : List ℕ) (capacity : ℕ) (author : Author) (tag ref : ℕ) (t : List ℕ) → remove_of s capacity author tag ref ≡ granted t → Frees s capacity author (remove tag ref) t
unfolding remove_of length_after slots_of
removed s capacity author tag ref t e =
    let g = tagged_granted s tag _ t e in
    let make : ℕ → Outcome = λ p. fitted capacity (slot_edit s author p free_slot []) in
    elim (hit_picks (find s tag ref) make (refused ABSENT 0) (granted t) g.2) [
      | inr h ↦ absurd (refused_granted _ _ t h.1)
      | inl h ↦
          let q = h.0 in
          let n = found_named s tag ref q h.1 in
          frees s capacity author (remove tag ref) (slot_edit s author q free_slot []) t (blocks_of s) q g.0 h.2 (λ i l. n)
          (λ p m. named_once s tag ref p q g.0 m n) q 12
          (slot_edit_writes author s (blocks_of s) (opens_kept s g.0) q n.slot free_slot [] length_free) (omega arith)
          (λ x. bytes_slot_edit s author q free_slot [] x bytes_free (λ i. omega arith)) n (λ x. x) (inl (refl, refl))
    ]

-- the first slot of a new block is filled
fill_block : (s : List ℕ) (capacity : ℕ) (author : Author) (e : Edit) (t : List ℕ) → (open_of s).number ≡ 0 → Taken (tag_of e) → tag_of e < 65536 → ref_of e < 65536
    → find s (tag_of e) (ref_of e) ≡ miss → length_after author s e ≡ length s + block_size + length (content_of e) + trailer_size author
    → TakesSlot s e (length s + 6) → ((u : List ℕ) → HoldsPair author u (length s + 6) (tag_of e) (ref_of e) (content_of e) → HoldsEdit author u e (length s + 6)) → NoneFree s
    → add_at s capacity author (tag_of e) (ref_of e) (content_of e) miss ≡ granted t → Fills s capacity author e t
unfolding add_at slots_of
fill_block s capacity author e t opens taken b₁ b₂ f size takes as_edit none g =
    let content = content_of e in
    let at = length s + block_size in
    let slot = data_slot (tag_of e) (ref_of e) content at in
    let u = block_edit s author (last_of 4 (blocks_of s)) (new_block slot) content in
    let k = opens_kept s opens in
    let many = leb most_blocks (length (blocks_of s)) in
    let full = ltb most_slots (length (slots_of s) + block_slots) in
    elim (picks (many || full) (refused DIR_BIG 0) (fitted capacity u) (granted t) g) [
      | inl l ↦ absurd (refused_granted _ _ t l.1)
      | inr r ↦
          let c = or_clear many full r.0 in
          fills s capacity author e u t (blocks_of s ++ (length s ∷ [])) (length s + 6) opens r.1
          (λ i l. let h = slot_inside s (blocks_of s) (chain_kept s (blocks_of s) k).blocks (length s + 6) i in absurd (omega arith))
          (λ p m. absurd (missed_named s (tag_of e) (ref_of e) p f m)) at _ 4
          (block_edit_writes author s (blocks_of s) k slot content (length_data (tag_of e) (ref_of e) content at) (leb-false _ _ c.0) (ltb-false _ _ c.1))
          taken b₁ b₂ size (λ h d. bytes_block_edit s author (last_of 4 (blocks_of s)) slot content h (bytes_data (tag_of e) (ref_of e) content at) d)
          takes (as_edit _) (inr (none, refl, (last_of 4 (blocks_of s), linked_last s 4 (blocks_of s) k.linked, linked_end s 4 (blocks_of s) k.linked, refl)))
    ]

add_at_lem : (s : List ℕ) (capacity : ℕ) (author : Author) (tag ref : ℕ) (content t : List ℕ) (w : Hit) → first_free s ≡ w → (open_of s).number ≡ 0 → Taken tag → tag < 65536
    → ref < 65536 → find s tag ref ≡ miss → add_at s capacity author tag ref content w ≡ granted t → Fills s capacity author (add tag ref content) t
unfolding add_at added_at length_after
add_at_lem s capacity author tag ref content t miss i opens taken b₁ b₂ f g =
    fill_block s capacity author (add tag ref content) t opens taken b₁ b₂ f (rw i) (inr (none_free s i, refl)) (λ u x. x) (none_free s i) g
add_at_lem s capacity author tag ref content t (hit q) i opens taken b₁ b₂ f g =
    let h = first_hit (λ p. not (live_at s p)) (slots_of s) q i in
    fill_slot s capacity author (add tag ref content) t q opens taken b₁ b₂ h.0
    (λ l. absurd (not_both (live_at s q) (not-true _ h.1) ((live_is s q).1 l))) (λ p m. absurd (missed_named s tag ref p f m)) (rw i)
    (inl (first_free_lem s q i)) (λ u x. x) g

pub added : (s : List ℕ) (capacity : ℕ) (author : Author) (tag ref : ℕ) (content t : List ℕ) → tag < 65536 → ref < 65536 → add_of s capacity author tag ref content ≡ granted t
    → Fills s capacity author (add tag ref content) t
unfolding add_of
added s capacity author tag ref content t b₁ b₂ e =
    let g = tagged_granted s tag _ t e in
    let make = add_at s capacity author tag ref content (first_free s) in
    elim (hit_picks (find s tag ref) (λ p. refused PRESENT 0) make (granted t) g.2) [
      | inl h ↦ absurd (refused_granted _ _ t h.2)
      | inr h ↦ add_at_lem s capacity author tag ref content t (first_free s) refl g.0 g.1 b₁ b₂ h.0 h.1
    ]

pub made : (s : List ℕ) (capacity : ℕ) (author : Author) (e : Edit) (t : List ℕ) → TypedEdit e → edited capacity author e s ≡ granted t
    → Made s capacity author e t
unfolding edited
made s capacity author (add tag ref content) t y g = (added s capacity author tag ref content t y.0 y.1 g).made
made s capacity author (replace tag ref content) t y g = (replaced s capacity author tag ref content t y.0 y.1 g).made
made s capacity author (remove tag ref) t y g = (removed s capacity author tag ref t g).made

pub made_opens : {s : List ℕ} {capacity : ℕ} {author : Author} {e : Edit} {t : List ℕ} → Made s capacity author e t → (open_of t).number ≡ 0
made_opens {t} m = ap (λ a. a.number) (kept_opens t m.blocks m.kept)

-- ---- The round trip

-- t opens, fits into a buffer of so many bytes, and undo for the author's desk makes s of it, as a file and in any buffer that begins with it;
-- for another desk it is refused
pub record Undoes (s : List ℕ) (capacity : ℕ) (author : Author) (t : List ℕ) : Type 0 where
  pub opens : (open_of t).number ≡ 0
  pub bytes : Bytes t
  pub short : length t ≤ most_bytes
  pub fits : length t ≤ capacity
  pub back : (desk : ℕ) → undo_of t desk ≡ for_desk (desk_of author) desk (length t - trailer_size author) s
  pub front : (buffer : List ℕ) → take (length t) buffer ≡ t → (desk : ℕ)
      → undo_in buffer (length t) desk ≡ for_desk (desk_of author) desk (length t - trailer_size author) s

typed_content : (e : Edit) → TypedEdit e → Bytes (content_of e)
typed_content (add tag ref content) y = y.2
typed_content (replace tag ref content) y = y.2
typed_content (remove tag ref) y = λ i. omega arith

-- undo makes the file before of the file that a granted edit makes
pub undo_of_edit : (s : List ℕ) (capacity : ℕ) (author : Author) (e : Edit) (t : List ℕ) → Bytes s → IsAuthor author → TypedEdit e
    → edited capacity author e s ≡ granted t → Undoes s capacity author t
undo_of_edit s capacity author e t h is y g =
    let m = made s capacity author e t y g in
    record {
      opens = made_opens m;
      bytes = m.bytes h (typed_content e y);
      short = m.kept.short;
      fits = m.fits;
      back = m.back h is;
      front = λ buffer e desk.
          undo_here buffer (length t) desk (omega (arith, ap length e, length-take (length t) buffer)) ∙ rw e (m.back h is desk);
    }
