-- The file that an edit makes, as it is read: bytes put in place, what is appended, and the trailer; undo makes the file before of it, for the
-- edit's desk. Assumes nothing.
use Prim.Native.Nat.{ℕ, ◌+◌, ◌-◌, ◌≤◌, ◌<◌}
use mathlib.Core.Path.{◌≡◌, refl, ap, ◌∙◌}
use mathlib.Core.Logic.{inl}
use mathlib.Core.List.{List, ◌++◌}
use mathlib.Core.Bool.{true}
use native.Mathlib.Omega.{arith}
use lib.ListN.{length, get_or, take, length-append}
use lib.Seq.{length-take-le, get_or-take}
use lib.Dec.{eqb}
use borrow.Author.Tests.{le-leb, eq-eqb}
use Rattle.std.specs.Prelude.{Some}
use Rattle.wire.specs.Numbers.{put, Bytes}
use Rattle.wire.proofs.Numbers.{Same, Holds, length_put, put_holds}
use Rattle.answer.specs.Search.{In}
use Rattle.answer.proofs.Tests.{and_both, or_either}
use Rattle.answer.proofs.Search.{any_in, must_holds}
use Rattle.directory.specs.Limits.{most_bytes}
use Rattle.directory.specs.Blocks.{blocks_of}
use Rattle.directory.specs.Slots.{slots_of}
use Rattle.directory.specs.Opening.{open_of}
use Rattle.answer.specs.Refusals.{BAD_TRAILER}
use Rattle.journal.specs.Outcomes.{granted, passing}
use Rattle.journal.specs.Trailers.{slot_size, link_size, trailer_at, carried_by, previous_of, Author, form_of, desk_of, trailer_size, past_first, change_at, trailer_of}
use Rattle.journal.specs.Undos.{restored, place_known, known, sound, restored_fault, for_desk, undo_to, undo_by, undo_of}
use Rattle.journal.specs.History.{IsAuthor}
use Rattle.journal.proofs.Parts.{holds_appended, holds_append, same_append, put_before, put_after, put_back}
use Rattle.journal.proofs.Outcomes.{opened_to_goes, opens_true}
use Rattle.journal.proofs.Trailers.{Sized, length_trailer, trailer_read, trailer_ending, old_there}

-- ---- The file

-- t is s with k bytes changed at q and extra appended, and ends in the author's trailer that says so
pub record Changed (s : List ℕ) (author : Author) (q k : ℕ) (extra t : List ℕ) : Type 0 where
  pub size : length t ≡ length s + length extra + trailer_size author
  pub low : Same s t 0 q
  pub high : Same s t (q + k) (length s)
  pub more : Holds t (length s) extra
  pub trail : Bytes s → IsAuthor author → trailer_at (form_of author) t (length s + length extra) ≡ change_at s author q k
  pub ending : Bytes s → IsAuthor author → 10 ≤ length s → carried_by t ≡ Some (form_of author)

-- vs put in place, extra and the trailer appended
pub changed : (s : List ℕ) (author : Author) (q k : ℕ) (vs extra : List ℕ) → length vs ≡ k → q + k ≤ length s → length s ≤ most_bytes → k ≤ slot_size
    → let t = put s q vs ++ extra ++ trailer_of s author q k in Changed s author q k extra t × Holds t q vs
changed s author q k vs extra n fits short few =
    let a = put s q vs in
    let b = a ++ extra in
    let w = trailer_of s author q k in
    let la : length a ≡ length s = length_put s q vs in
    let lb : length b ≡ length s + length extra = length-append a extra ∙ rw la in
    let low : Same s (b ++ w) 0 q = same_append s b w 0 q (omega arith) (same_append s a extra 0 q (omega arith) (put_before s q vs)) in
    let high : Same s (b ++ w) (q + k) (length s) =
    same_append s b w (q + k) (length s) (omega arith)
    (same_append s a extra (q + k) (length s) (omega arith) (λ i l u. put_after s q vs (length s) i (omega arith) u)) in (
      record {
        size = length-append b w ∙ rw (lb, length_trailer);
        low = low;
        high = high;
        more = holds_append b w (length s) extra (omega arith) (holds_appended a extra (length s) la);
        trail = λ all is. trailer_read s all short q k (omega arith) few author is b _ lb;
        ending = λ all is ten. trailer_ending s all short q k (omega arith) few author is b _ lb (omega arith);
      },
      holds_append b w q vs (omega arith) (holds_append a extra q vs (omega arith) (put_holds s q vs (omega arith))),
    )

-- ---- Places that undo accepts

-- a slot
pub slot_known : (s : List ℕ) (author : Author) (t : List ℕ) (q : ℕ) → In q (slots_of t) → place_known t (change_at s author q slot_size) ≡ true
unfolding place_known
slot_known s author t q i = or_either _ _ (inl (any_in (eqb q) (slots_of t) q i (eq-eqb q q refl)))

-- the next field of a block
pub next_known : (s : List ℕ) (author : Author) (t : List ℕ) (b : ℕ) → In b (blocks_of t) → place_known t (change_at s author (b + 2) link_size) ≡ true
unfolding place_known past_first
next_known s author t b i =
    and_both _ _ (and_both _ _ (any_in (λ c. eqb (b + 2) (c + 2)) (blocks_of t) b i (eq-eqb (b + 2) (b + 2) refl)) refl) refl

-- ---- Undo

module _ (s : List ℕ) (author : Author) (q k : ℕ) (extra t : List ℕ) (c : Changed s author q k extra t) (fits : q + k ≤ length s) (sized : Sized k)
    (all : Bytes s) where
  changed_restored : restored t (change_at s author q k) ≡ s
  unfolding restored
  changed_restored =
      let front : (i : ℕ) → i < length s → get_or (take (length s) t) i 0 ≡ get_or t i 0 = λ i h. get_or-take (length s) t i 0 h in
      rw (old_there s author q k all fits sized)
      (put_back s (take (length s) t) q k fits (length-take-le (length s) t (omega (arith, c.size)))
      (λ i l u. front i (omega arith) ∙ c.low i l u) (λ i l u. front i u ∙ c.high i l u))

  module _ (is : IsAuthor author) (ten : 10 ≤ length s) (before : (open_of s).number ≡ 0) (after : (open_of t).number ≡ 0)
      (there : place_known t (change_at s author q k) ≡ true) (desk : ℕ) where
    -- every rule of a trailer is kept, and what is left is whose it is
    changed_to : undo_to t desk (form_of author) (length s + length extra) (change_at s author q k) ≡ for_desk (desk_of author) desk (length s + length extra) s
    unfolding undo_to known restored_fault sound
    changed_to =
        let a = length s + length extra in
        let r = changed_restored in
        rw r (ap (λ n. passing n a (granted s))
        (must_holds _ BAD_TRAILER _ (and_both _ _ (and_both _ _ (le-leb (length s) a (omega arith)) there) (le-leb (q + k) (length s) fits))
        ∙ must_holds _ BAD_TRAILER _ (and_both _ _ (eq-eqb (previous_of (form_of author) s) (previous_of (form_of author) s) refl) ((opens_true s).1 before))))

    pub changed_undone : undo_of t desk ≡ for_desk (desk_of author) desk (length t - trailer_size author) s
    unfolding undo_of undo_by
    changed_undone =
        let a = length s + length extra in
        let e : length t - trailer_size author ≡ a = omega (arith, c.size) in
        opened_to_goes t _ after
        ∙ ap (undo_by t desk) (c.ending all is ten)
        ∙ rw (e, c.trail all is) changed_to
