-- Arrays: the faults, what is read of a record's bytes, and the bytes as they are written. Assumes nothing.
use Prim.Native.Nat.{ℕ, ◌+◌, ◌*◌, ◌^◌, ◌<◌, ◌≤◌}
use native.Mathlib.Omega.{arith}
use mathlib.Core.Path.{◌≡◌, refl, sym, ap, ◌∙◌}
use mathlib.Core.List.{List, [], ◌∷◌, ◌++◌, append-nil}
use mathlib.Core.Bool.{◌&&◌, and-false}
use lib.ListN.{length, get_or, take, drop, length-append}
use lib.Dec.{leb}
use lib.Seq.{sets, take-append_seam, drop-append_seam, take-length, drop-length}
use borrow.Author.Tests.{eq-eqb, eqb-true, le-leb, lt-leb, leb-true}
use Rattle.wire.specs.Numbers.{be, bytes, put, part, Bytes}
use Rattle.wire.specs.declared.ByteOrder.TheVariants.{BigEndian}
use Rattle.wire.proofs.Numbers.{number_small, length_bytes}
use Rattle.answer.specs.Answer.{Answer, grant, refusal, in_room}
use Rattle.answer.specs.declared.Refusal.{Refusal}
use Rattle.answer.proofs.Tests.{and_both}
use Rattle.answer.proofs.Search.{passed, pass}
use Rattle.answer.proofs.Lent.{refuses}
use Rattle.answer.specs.Search.{Hit}
use Rattle.storage.specs.Elements.{Located, located_at}
use Rattle.std.specs.Prelude.{Ok}
use Rattle.answer.specs.declared.refusals.Rule.TheVariants as rule
use Rattle.storage.specs.declared.element.Part.{Part}
use Rattle.wire.specs.Layouts.{read, extent, numbers, pack, numbers_at, bytes_each, Small, Fits}
use Rattle.records.specs.Readings.{record_bytes}
use Rattle.records.specs.Arrays.{array, array_fault, array_sizes, array_pairs, array_at, ReadsArray, array_bytes, array_pack_fault}
use Rattle.records.specs.declared.array.Array.{Array}
use Rattle.wire.proofs.Layouts.{put_field, put_run, length_bytes_each, length_numbers_at, take_run, drop_run}
use Rattle.records.proofs.Readings.{reads_passed, reads_bytes, reads_list}
use Rattle.answer.proofs.Answer.{refusal_is, in_room_enough, in_room_short}

-- ---- The record

module _ (e : List ℕ) where
  pub extent_array : extent array e 0 ≡ 6 + 8 * be 2 e 0
  unfolding extent
  extent_array = let h : 2 + 4 * be 2 e 0 + 2 * (2 * (be 2 e 0 + 1)) ≡ 6 + 8 * be 2 e 0 = omega arith in h

  module _ (whole : length e ≡ 6 + 8 * be 2 e 0) where
    pub whole_bytes : 1 ≤ be 2 e 0 → array_fault e ≡ 0
    unfolding array_fault read
    whole_bytes h = pass _ 15 _ (eq-eqb (length e) (extent array e 0) (whole ∙ sym extent_array)) (pass _ 15 0 (le-leb 1 (be 2 e 0) h) refl)

  module _ (sound : array_fault e ≡ 0) where
    pub sound_extent : extent array e 0 ≡ length e
    unfolding array_fault
    sound_extent = sym (eqb-true (length e) (extent array e 0) (passed _ 14 _ sound).0)

    some_rank : 1 ≤ be 2 e 0
    unfolding array_fault read
    some_rank = leb-true 1 (be 2 e 0) (passed _ 14 0 (passed _ 14 _ sound).1).0

    -- the sizes and the pairs end among the bytes
    pub sizes_inside : (read array e 0).sizes + 4 * (read array e 0).rank ≤ length e
    unfolding read
    sizes_inside = omega (arith, sound_extent, extent_array)

    pub pairs_inside : (read array e 0).pairs + 2 * (2 * ((read array e 0).rank + 1)) ≤ length e
    unfolding read
    pairs_inside = omega (arith, sound_extent, extent_array)

-- ---- All numbers of a record: the rank, the sizes, the pairs

pub array_numbers_lem : (e : List ℕ) → numbers array e 0 ≡ length (array_sizes e) ∷ (array_sizes e ++ array_pairs e)
unfolding numbers read array_sizes array_pairs
array_numbers_lem e = rw (length_numbers_at, append-nil)

module _ (sizes pairs : List ℕ) (h : length pairs ≡ 2 * (length sizes + 1)) where
  pub array_fits : length sizes < 256 ^ 2 → Small 4 sizes → Small 2 pairs → Fits array (length sizes ∷ (sizes ++ pairs)) 0
  array_fits rank small_sizes small_pairs = (
    omega arith,
    rank,
    (
      rw length-append (omega arith),
      rw (take-append_seam sizes pairs) small_sizes,
      rw (drop-append_seam sizes pairs, ← h) (omega arith, rw (take-length pairs) small_pairs, drop-length pairs),
    ),
  )

  -- the numbers tell the rank, the sizes and the pairs
  module _ (e : List ℕ) (are : numbers array e 0 ≡ length sizes ∷ (sizes ++ pairs)) where
    pub rank_of : be 2 e 0 ≡ length sizes
    unfolding numbers
    rank_of = ap (λ l. get_or l 0 0) are

    pub sizes_of : array_sizes e ≡ sizes
    unfolding numbers read array_sizes
    sizes_of =
        sym (take_run 4 (be 2 e 0) e 2 _)
        ∙ ap (λ l. take (be 2 e 0) (drop 1 l)) are
        ∙ ap (λ k. take k (sizes ++ pairs)) rank_of
        ∙ take-append_seam sizes pairs

    pub pairs_of : array_pairs e ≡ pairs
    unfolding numbers read array_pairs
    pairs_of =
        sym (append-nil _)
        ∙ sym (drop_run 4 (be 2 e 0) e 2 _)
        ∙ ap (λ l. drop (be 2 e 0) (drop 1 l)) are
        ∙ ap (λ k. drop k (sizes ++ pairs)) rank_of
        ∙ drop-append_seam sizes pairs

-- ---- Reading

-- what a reading at what a lookup found leaves in the two lists
abbrev LeavesAt : List ℕ → Hit → List ℕ → List ℕ → Answer → List ℕ → List ℕ → Type 0
LeavesAt s found sizes pairs numbers sizes_after pairs_after =
    ReadsArray (array_at s found (length sizes) (length pairs)) (record_bytes s found) sizes sizes_after pairs pairs_after numbers

module _ (s : List ℕ) (found : Hit) (sizes pairs : List ℕ) where
  pub leaves_refused : (r : Refusal) → array_at s found (length sizes) (length pairs) ≡ refusal 1 r
      → LeavesAt s found sizes pairs (refusal 1 r) sizes pairs
  leaves_refused r e = (refuses _ _ sizes 1 r (e ∙ refusal_is 1 r), refuses _ _ pairs 1 r (e ∙ refusal_is 1 r))

  -- the array of the element's bytes e, which break no rule
  module _ (l : Located) (is : l ≡ located_at s found) (x : Part) (plain : l ≡ Ok x) (e : List ℕ) (of : e ≡ part s x.offset x.length)
      (sound : array_fault e ≡ 0) (a : Array) (read_is : a ≡ read array e 0) where
    array_judged : array_at s found (length sizes) (length pairs) ≡ in_room 1 (leb a.rank (length sizes) && leb (2 * (a.rank + 1)) (length pairs)) (grant (a.rank ∷ []))
    unfolding array_at
    array_judged =
        reads_passed 1 s found array_fault _ l is x plain e of sound
        ∙ ap (λ b. in_room 1 (leb b.rank (length sizes) && leb (2 * (b.rank + 1)) (length pairs)) (grant (b.rank ∷ []))) (sym read_is)

    pub leaves_sizes : length sizes < a.rank → LeavesAt s found sizes pairs (refusal 1 (record { rule = rule.Small; place = 0 })) sizes pairs
    leaves_sizes h = leaves_refused (record { rule = rule.Small; place = 0 }) (array_judged ∙ in_room_short 1 _ _ (rw (lt-leb _ _ h)))

    pub leaves_pairs : length pairs < 2 * (a.rank + 1) → LeavesAt s found sizes pairs (refusal 1 (record { rule = rule.Small; place = 0 })) sizes pairs
    leaves_pairs h = leaves_refused (record { rule = rule.Small; place = 0 }) (array_judged ∙ in_room_short 1 _ _ (rw (lt-leb _ _ h) (and-false (leb a.rank (length sizes)))))

    pub leaves_granted : a.rank ≤ length sizes → 2 * (a.rank + 1) ≤ length pairs → (sizes_after pairs_after : List ℕ)
        → sizes_after ≡ sets sizes 0 (numbers_at 4 a.rank e a.sizes)
        → pairs_after ≡ sets pairs 0 (numbers_at 2 (2 * (a.rank + 1)) e a.pairs)
        → LeavesAt s found sizes pairs (grant (a.rank ∷ [])) sizes_after pairs_after
    unfolding array_sizes array_pairs
    leaves_granted sizes_fit pairs_fit sizes_after pairs_after q r =
        let granted = array_judged ∙ in_room_enough 1 _ _ (and_both _ _ (le-leb _ _ sizes_fit) (le-leb _ _ pairs_fit)) in
        let v : record_bytes s found ≡ e = reads_bytes s found l is x plain ∙ sym of in (
          rw v (reads_list _ _ sizes _ granted (rw (length_numbers_at, ← read_is) sizes_fit) sizes_after (rw read_is at q)),
          rw v (reads_list _ _ pairs _ granted (rw (length_numbers_at, ← read_is) pairs_fit) pairs_after (rw read_is at r)),
        )

-- ---- Packing

module _ (rank pairs : ℕ) where
  pub pack_passes : 1 ≤ rank → rank ≤ 65535 → pairs ≡ 2 * (rank + 1) → array_pack_fault rank pairs ≡ 0
  unfolding array_pack_fault
  pack_passes some few h = pass _ 15 _ (le-leb 1 rank some) (pass _ 15 _ (le-leb rank 65535 few) (pass _ 15 0 (eq-eqb pairs (2 * (rank + 1)) h) refl))

  pub pack_sound : array_pack_fault rank pairs ≡ 0 → (1 ≤ rank) × (rank ≤ 65535) × (pairs ≡ 2 * (rank + 1))
  unfolding array_pack_fault
  pack_sound h =
      let a = passed _ 14 _ h in
      let b = passed _ 14 _ a.1 in
      let c = passed _ 14 _ b.1 in
      (leb-true _ _ a.0, leb-true _ _ b.0, eqb-true _ _ c.0)

-- the sizes and the pairs of a record that breaks no rule break none
pub own_passes : (e : List ℕ) → array_fault e ≡ 0 → Bytes e → array_pack_fault (length (array_sizes e)) (length (array_pairs e)) ≡ 0
unfolding read array_sizes array_pairs
own_passes e sound b =
    let rank = be 2 e 0 in
    simp length_numbers_at (pack_passes rank (2 * (rank + 1)) (some_rank e sound) (omega (arith, number_small BigEndian 2 e 0 b)) refl)

module _ (sizes pairs : List ℕ) (h : length pairs ≡ 2 * (length sizes + 1)) where
  pub array_bytes_lem : array_bytes sizes pairs ≡ bytes 2 (length sizes) ++ (bytes_each 4 sizes ++ (bytes_each 2 pairs ++ []))
  unfolding array_bytes pack
  array_bytes_lem = rw (take-append_seam sizes pairs, drop-append_seam sizes pairs, ← h, take-length pairs)

  pub length_array : length (array_bytes sizes pairs) ≡ 6 + 8 * length sizes
  length_array = rw array_bytes_lem (simp (length-append, length_bytes, length_bytes_each, h) (omega arith))

  -- the rank, the sizes and the pairs written one after the other
  pub put_array : (out s₁ s₂ s₃ : List ℕ)
      → s₁ ≡ put out 0 (bytes 2 (length sizes))
      → s₂ ≡ put s₁ 2 (bytes_each 4 sizes)
      → s₃ ≡ put s₂ (2 + 4 * length sizes) (bytes_each 2 pairs)
      → s₃ ≡ put out 0 (array_bytes sizes pairs)
  unfolding put
  put_array out s₁ s₂ s₃ e₁ e₂ e₃ = rw (e₃, e₂, e₁, array_bytes_lem) (sym (simp (put_field, put_run)))
