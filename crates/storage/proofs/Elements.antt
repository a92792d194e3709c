-- The elements of slots: the tests of the code, where their bytes stand, and what a lookup finds of them. Assumes nothing.
use Prim.Native.Nat.{ℕ, zero, suc, ◌+◌, ◌*◌, ◌<◌, ◌≤◌}
use native.Mathlib.Nat.{suc-ne-zero}
use native.Mathlib.Omega.{arith}
use mathlib.Core.Path.{◌≡◌, refl, sym, ap, ◌∙◌}
use mathlib.Core.Logic.{◌↔◌, ◌⊎◌, inl, inr}
use mathlib.Core.List.{List}
use mathlib.Core.Bool.{true, false}
use lib.Dec.{leb}
use lib.ListN.{length, take, drop}
use borrow.Author.Tests.{leb-true, leb-false, le-leb, lt-leb}
use Rattle.answer.specs.Search.{Hit, hit, miss, In}
use Rattle.answer.specs.Answer.{Answer}
use Rattle.answer.proofs.Tests.{test, by_test, zero?, in_append}
use Rattle.wire.specs.Numbers.{part, Bytes}
use Rattle.wire.specs.declared.ByteOrder.TheVariants.{BigEndian}
use Rattle.wire.proofs.Numbers.{number_small, length_part}
use Rattle.directory.specs.Blocks.{slot_count, next_block}
use Rattle.directory.specs.Slots.{tag_at, offset_at, rows, slots_of, size_at, content_at}
use Rattle.directory.specs.Opening.{open_of}
use Rattle.directory.specs.Links.{slots_after}
use Rattle.directory.specs.Lookup.{find, find_in}
use Rattle.directory.specs.Rules.{Live, Unstored, IsStored}
use Rattle.directory.specs.Steps.Opens.{Opens}
use Rattle.directory.specs.Steps.Cursors.{most_place}
use Rattle.directory.proofs.Slots.{unstored_is, stored_is, size_unstored}
use Rattle.directory.proofs.Rules.{opens_kept}
use Rattle.directory.proofs.Opens.{opened_find}
use Rattle.directory.proofs.Named.{found_named}
use Rattle.storage.specs.Elements.{extended_at, start_at, element_at, plain_only, part_at, located_at, on_plain}
use Rattle.storage.specs.declared.element.Element.{Element}
use Rattle.storage.specs.declared.element.Element.TheVariants.{Absent, NotStored, Plain, Extended}
use Rattle.std.specs.Prelude.{Ok}

-- ---- The tests of a slot

module _ (s : List ℕ) (p : ℕ) where
  pub extended_below : tag_at s p < 16384 → extended_at s p ≡ false
  unfolding extended_at
  extended_below h = simp (extended_at, lt-leb _ _ h)

  pub extended_upto : 16384 ≤ tag_at s p → extended_at s p ≡ leb (tag_at s p) 32767
  unfolding extended_at
  extended_upto h = simp (extended_at, le-leb _ _ h)

  -- plain storage, by the tag
  pub plain_tag : (extended_at s p ≡ false) ↔ ((tag_at s p < 16384) ⊎ (32767 < tag_at s p))
  plain_tag = (
    (λ e. elim (test (leb 16384 (tag_at s p))) [
      | inr b ↦ inl (omega (arith, leb-false 16384 (tag_at s p) b))
      | inl b ↦
          let low = leb-true 16384 (tag_at s p) b in inr (omega (arith, leb-false (tag_at s p) 32767 (sym (extended_upto low) ∙ e)))
    ]),
    (λ h. elim h [
      | inl l ↦ extended_below l
      | inr l ↦ extended_upto (omega arith) ∙ lt-leb (tag_at s p) 32767 l
    ]),
  )

  pub start_empty : size_at s p ≡ 0 → start_at s p ≡ 0
  unfolding start_at
  start_empty e = rw (start_at, e)

  pub start_full : (size_at s p ≡ 0 → ⊥) → start_at s p ≡ offset_at s p
  unfolding start_at
  start_full h = elim (zero? (size_at s p)) [ inl z ↦ absurd (h z) | inr m ↦ rw (start_at, m.1) ]

-- ---- The places of slots

rows_between : (q k p : ℕ) → In p (rows q k) → (q ≤ p) × (p ≤ q + 12 * k)
unfolding rows
rows_between q zero p i = absurd i
rows_between q (suc k) p (inl e) = omega arith
rows_between q (suc k) p (inr i) = let r = rows_between (q + 12) k p i in omega arith

-- the slots that links lead to stand after a block's header, and no further than numbers of 32 bits reach
pub slots_between : (s : List ℕ) → Bytes s → (k b p : ℕ) → b < 4294967296 → In p (slots_after s k b) → (6 ≤ p) × (p ≤ most_place)
unfolding slots_after
slots_between s bytes zero b p h i = absurd i
slots_between s bytes (suc k) b p h i =
    elim (in_append p (rows (b + 6) (slot_count s b)) (slots_after s k (next_block s b)) i) [
      | inl j ↦ let r = rows_between (b + 6) (slot_count s b) p j in omega (arith, number_small BigEndian 2 s b bytes)
      | inr j ↦ slots_between s bytes k (next_block s b) p (number_small BigEndian 4 s (b + 2) bytes) j
    ]

-- ---- The bytes of an element

pub content_part : (s : List ℕ) (p : ℕ) → content_at s p ≡ part s (start_at s p) (size_at s p)
unfolding content_at part
content_part s p =
    elim (zero? (size_at s p)) [
      | inl z ↦ ap (λ n. take n (drop (offset_at s p) s)) z ∙ sym (ap (λ n. take n (drop (start_at s p) s)) z)
      | inr m ↦ ap (λ a. take (size_at s p) (drop a s)) (sym (start_full s p (λ z. suc-ne-zero m.0 (sym m.1 ∙ z))))
    ]

-- one that is not stored has none
pub content_stored : (s : List ℕ) (p : ℕ) → 0 < length (content_at s p) → IsStored s p
unfolding content_at part
content_stored s p long u = let n : length (take 0 (drop (offset_at s p) s)) ≡ length (content_at s p) = rw (size_unstored s p u) in omega arith

-- in an image that opens they lie inside
module _ (s : List ℕ) (p : ℕ) (sound : (open_of s).number ≡ 0) (slot : In p (slots_of s)) (live : Live s p) where
  pub element_inside : start_at s p + size_at s p ≤ length s
  unfolding slots_of
  element_inside =
      elim (zero? (size_at s p)) [
        | inl z ↦ omega (arith, start_empty s p z)
        | inr m ↦
            let h = ((opens_kept s sound).elements p slot live).inside (omega (arith, m.1)) in
            omega (arith, start_full s p (λ z. suc-ne-zero m.0 (sym m.1 ∙ z)))
      ]

  pub length_content : length (content_at s p) ≡ size_at s p
  length_content = ap length (content_part s p) ∙ length_part s (start_at s p) (size_at s p) element_inside

-- ---- What is found

module _ (s : List ℕ) (p : ℕ) where
  pub element_unstored : Unstored s p → element_at s (hit p) ≡ NotStored p
  unfolding element_at
  element_unstored u = rw (element_at, (unstored_is s p).1 u)

  pub element_plain : IsStored s p → extended_at s p ≡ false → element_at s (hit p) ≡ Plain (part_at p (start_at s p) (size_at s p))
  unfolding element_at
  element_plain h e = rw (element_at, (stored_is s p).1 h, e)

  pub element_extended : IsStored s p → extended_at s p ≡ true → element_at s (hit p) ≡ Extended p
  unfolding element_at
  element_extended h e = rw (element_at, (stored_is s p).1 h, e)

-- the element of a slot is one of these
pub data KindAt (s : List ℕ) (p : ℕ) : Type 0 where
  unstored : Unstored s p → element_at s (hit p) ≡ NotStored p → KindAt s p
  plain : IsStored s p → extended_at s p ≡ false → element_at s (hit p) ≡ Plain (part_at p (start_at s p) (size_at s p)) → KindAt s p
  extended : IsStored s p → extended_at s p ≡ true → element_at s (hit p) ≡ Extended p → KindAt s p

pub kind_at : (s : List ℕ) (p : ℕ) → KindAt s p
kind_at s p =
    elim (by_test _ _ (unstored_is s p)) [
      | inl u ↦ unstored u (element_unstored s p u)
      | inr h ↦ elim (test (extended_at s p)) [
        | inl x ↦ extended h x (element_extended s p h x)
        | inr x ↦ plain h x (element_plain s p h x)
      ]
    ]

-- what is found in a chain of blocks is what is found in the image, if it opened with them
pub element_opened : (s : List ℕ) (blocks tag ref : ℕ) → Opens s blocks → element_at s (find_in s blocks tag ref) ≡ element_at s (find s tag ref)
element_opened s blocks tag ref o = ap (element_at s) (opened_find s blocks tag ref o)

pub located_opened : (s : List ℕ) (blocks tag ref : ℕ) → Opens s blocks → located_at s (find_in s blocks tag ref) ≡ located_at s (find s tag ref)
located_opened s blocks tag ref o = ap plain_only (element_opened s blocks tag ref o)

-- an element at what was found
pub record PlainAt (s : List ℕ) (h : Hit) (p offset size : ℕ) : Type 0 where
  pub found : h ≡ hit p
  pub stored : IsStored s p
  pub plain : extended_at s p ≡ false
  pub starts : offset ≡ start_at s p
  pub holds : size ≡ size_at s p

pub plain_at : (s : List ℕ) (h : Hit) (p offset size : ℕ) → element_at s h ≡ Plain (part_at p offset size) → PlainAt s h p offset size
unfolding element_at
plain_at s miss p offset size e = let z : ◌≡◌ {A = ℕ} 0 1 = cc in absurd (omega arith)
plain_at s (hit q) p offset size e =
    elim (kind_at s q) [
      | unstored u f ↦ let r : NotStored q ≡ Plain (part_at p offset size) = sym f ∙ e in let z : ◌≡◌ {A = ℕ} 0 1 = cc in absurd (omega arith)
      | extended k x f ↦ let r : Extended q ≡ Plain (part_at p offset size) = sym f ∙ e in let z : ◌≡◌ {A = ℕ} 0 1 = cc in absurd (omega arith)
      | plain k x f ↦
          let r : Plain (part_at q (start_at s q) (size_at s q)) ≡ Plain (part_at p offset size) = sym f ∙ e in
          let part : part_at q (start_at s q) (size_at s q) ≡ part_at p offset size = cc in
          let same : q ≡ p = ap (λ x. x.slot) part in
          record {
            found = ap hit same;
            stored = rw same at k;
            plain = ap (extended_at s) (sym same) ∙ x;
            starts = let o : start_at s q ≡ offset = ap (λ x. x.offset) part in sym o ∙ ap (start_at s) same;
            holds = let n : size_at s q ≡ size = ap (λ x. x.length) part in sym n ∙ ap (size_at s) same;
          }
    ]

pub extended_at_lem : (s : List ℕ) (h : Hit) (p : ℕ) → element_at s h ≡ Extended p → (h ≡ hit p) × IsStored s p × (extended_at s p ≡ true)
unfolding element_at
extended_at_lem s miss p e = let z : ◌≡◌ {A = ℕ} 0 1 = cc in absurd (omega arith)
extended_at_lem s (hit q) p e =
    elim (kind_at s q) [
      | unstored u f ↦ let r : NotStored q ≡ Extended p = sym f ∙ e in let z : ◌≡◌ {A = ℕ} 0 1 = cc in absurd (omega arith)
      | plain k x f ↦
          let r : Plain (part_at q (start_at s q) (size_at s q)) ≡ Extended p = sym f ∙ e in let z : ◌≡◌ {A = ℕ} 0 1 = cc in absurd (omega arith)
      | extended k x f ↦
          let r : Extended q ≡ Extended p = sym f ∙ e in let same : q ≡ p = cc in (ap hit same, rw same at k, ap (extended_at s) (sym same) ∙ x)
    ]

-- in an image that opens its part of the image is whole
pub record FoundPlain (s : List ℕ) (tag ref p offset size : ℕ) : Type 0 where
  pub sound : (open_of s).number ≡ 0
  pub is : element_at s (find s tag ref) ≡ Plain (part_at p offset size)
  pub found : find s tag ref ≡ hit p
  pub stored : IsStored s p
  pub plain : extended_at s p ≡ false
  pub starts : offset ≡ start_at s p
  pub holds : size ≡ size_at s p
  pub inside : offset + size ≤ length s
  pub content : part s offset size ≡ content_at s p
  pub long : length (part s offset size) ≡ size

pub found_plain : (s : List ℕ) (tag ref p offset size : ℕ) → (open_of s).number ≡ 0 → element_at s (find s tag ref) ≡ Plain (part_at p offset size) → FoundPlain s tag ref p offset size
found_plain s tag ref p offset size sound e =
    let l = plain_at s (find s tag ref) p offset size e in
    let m = found_named s tag ref p l.found in
    let inside : offset + size ≤ length s = omega (arith, element_inside s p sound m.slot m.live, l.starts, l.holds) in
    record {
      sound = sound;
      is = e;
      found = l.found;
      stored = l.stored;
      plain = l.plain;
      starts = l.starts;
      holds = l.holds;
      inside = inside;
      content = rw (l.starts, l.holds) (sym (content_part s p));
      long = length_part s offset size inside;
    }

-- ---- What a call that reads plain storage alone makes of it

pub located_element : (x : Element) (p offset size : ℕ) → plain_only x ≡ Ok (part_at p offset size) → x ≡ Plain (part_at p offset size)
located_element Absent p offset size e = let z : ◌≡◌ {A = ℕ} 0 1 = cc in absurd (omega arith)
located_element (NotStored q) p offset size e = let z : ◌≡◌ {A = ℕ} 0 1 = cc in absurd (omega arith)
located_element (Plain x) p offset size e = let same : x ≡ part_at p offset size = cc in ap Plain same
located_element (Extended q) p offset size e = let z : ◌≡◌ {A = ℕ} 0 1 = cc in absurd (omega arith)

-- a call that is not refused found an element in plain storage
pub plain_passed : (k : ℕ) (answer : ℕ → ℕ → ℕ → Answer) (x : Element) → (on_plain k answer (plain_only x)).number ≡ 0
    → (p : ℕ) × (offset : ℕ) × (size : ℕ) × (x ≡ Plain (part_at p offset size))
plain_passed k answer Absent e = absurd (suc-ne-zero 10 e)
plain_passed k answer (NotStored p) e = absurd (suc-ne-zero 28 e)
plain_passed k answer (Plain x) e = (x.slot, x.offset, x.length, refl)
plain_passed k answer (Extended p) e = absurd (suc-ne-zero 11 e)
