-- What an edit leaves in the file after it, as a reader finds it, after document 01, "Edits and the trailer". Whose the edit is shows in the size
-- of the trailer alone: 36 bytes where it names a desk. Assumes nothing.
use Rattle.std.specs.Prelude.{ℕ, ◌+◌, ◌<◌, ◌≤◌, ◌≡◌, ◌↔◌, ◌⊎◌, List, [], ◌∷◌, ◌++◌, length, get_or}
use Rattle.wire.specs.Numbers.{part}
use Rattle.answer.specs.Refusals.{ABSENT}
use Rattle.answer.specs.Answer.{grant, refuse}
use Rattle.answer.specs.Search.{Hit, hit, miss, In}
use Rattle.directory.specs.Blocks.{next_block, blocks_of}
use Rattle.directory.specs.Slots.{tag_at, ref_at, offset_at, length_at, base_tag, content_at, slots_of}
use Rattle.directory.specs.Lookup.{find_of}
use Rattle.directory.specs.Rules.{Live, Unstored, IsStored}
use Rattle.directory.specs.Named.{Named}
use Rattle.journal.specs.Trailers.{Author, trailer_size}
use Rattle.journal.specs.Edits.{block_size, first_free}
use Rattle.journal.specs.Rules.{NoneFree}
use Rattle.journal.specs.History.{Edit, add, replace, remove}

-- ---- What is read

-- a lookup finds a slot that has the tag itself, and its element is the content
pub record ReadsBack (t : List ℕ) (tag ref : ℕ) (content : List ℕ) : Type 0 where
  pub slot : ℕ
  pub found : find_of t tag ref ≡ grant (slot ∷ [])
  pub tag_is : tag_at t slot ≡ tag
  pub stored : IsStored t slot
  pub content_is : content_at t slot ≡ content

-- a pair that is absent from s is absent from t; one that is present stands in the same slot, with the same tag, stored or not as before, and with the
-- same bytes
pub record PairKept (s t : List ℕ) (tag ref : ℕ) : Type 0 where
  pub absent : find_of s tag ref ≡ refuse 1 ABSENT 0 → find_of t tag ref ≡ refuse 1 ABSENT 0
  pub found : (p : ℕ) → find_of s tag ref ≡ grant (p ∷ [])
      → (find_of t tag ref ≡ grant (p ∷ [])) × (tag_at t p ≡ tag_at s p) × (Unstored t p ↔ Unstored s p) × (content_at t p ≡ content_at s p)

-- the pair that an edit names
abbrev pub tag_of : Edit → ℕ
tag_of (add tag ref content) = tag
tag_of (replace tag ref content) = tag
tag_of (remove tag ref) = tag

abbrev pub ref_of : Edit → ℕ
ref_of (add tag ref content) = ref
ref_of (replace tag ref content) = ref
ref_of (remove tag ref) = ref

-- the content that it appends
abbrev pub content_of : Edit → List ℕ
content_of (add tag ref content) = content
content_of (replace tag ref content) = content
content_of (remove tag ref) = []

-- another pair: the base tags differ, or the references do
abbrev pub OtherPair : Edit → ℕ → ℕ → Type 0
OtherPair e tag ref = (base_tag tag ≡ base_tag (tag_of e) → ⊥) ⊎ (ref ≡ ref_of e → ⊥)

-- ---- The directory

-- the slot at q by its four numbers
pub record SlotIs (t : List ℕ) (q tag ref offset size : ℕ) : Type 0 where
  pub tag_is : tag_at t q ≡ tag
  pub ref_is : ref_at t q ≡ ref
  pub offset_is : offset_at t q ≡ offset
  pub length_is : length_at t q ≡ size

-- q is the first free slot: every slot before it is live
abbrev pub FirstFree : List ℕ → ℕ → Type 0
FirstFree s q =
    (before : List ℕ) × (after : List ℕ) × (slots_of s ≡ before ++ (q ∷ after)) × (tag_at s q ≡ 1) × ((p : ℕ) → In p before → Live s p)

-- the slot that an edit writes: the first free one, or, where none is free, the first of a block behind the file; the pair's own
abbrev pub TakesSlot : List ℕ → Edit → ℕ → Type 0
TakesSlot s (add tag ref content) q = FirstFree s q ⊎ (NoneFree s × (q ≡ length s + 6))
TakesSlot s (replace tag ref content) q = Named s tag ref q
TakesSlot s (remove tag ref) q = Named s tag ref q

-- the pair, the content's length, and where it stands: right before the trailer, and at 0 where it is empty
abbrev pub HoldsPair : Author → List ℕ → ℕ → ℕ → ℕ → List ℕ → Type 0
HoldsPair author t q tag ref content =
    (offset : ℕ) × SlotIs t q tag ref offset (length content)
    × (length content ≡ 0 → offset ≡ 0) × (0 < length content → offset + length content + trailer_size author ≡ length t)

-- what the slot holds after the edit
abbrev pub HoldsEdit : Author → List ℕ → Edit → ℕ → Type 0
HoldsEdit author t (add tag ref content) q = HoldsPair author t q tag ref content
HoldsEdit author t (replace tag ref content) q = HoldsPair author t q tag ref content
HoldsEdit author t (remove tag ref) q = SlotIs t q 1 0 0 0

-- one slot is written; every other slot of s, live or free, has its twelve bytes as before, at its place; what t has besides is free
pub record OneSlot (author : Author) (s t : List ℕ) (e : Edit) (q : ℕ) : Type 0 where
  pub takes : TakesSlot s e q
  pub there : In q (slots_of t)
  pub holds : HoldsEdit author t e q
  pub others : (p : ℕ) → In p (slots_of s) → (p ≡ q → ⊥) → In p (slots_of t) × (part t p 12 ≡ part s p 12)
  pub besides : (p : ℕ) → In p (slots_of t) → (p ≡ q → ⊥) → In p (slots_of s) ⊎ SlotIs t p 1 0 0 0

-- the bytes that an edit alters: those of the slot, or, where no slot is free, of the next field of the last block
pub record Alters (s t : List ℕ) (q at count : ℕ) : Type 0 where
  pub which : ((at ≡ q) × (count ≡ 12)) ⊎ (NoneFree s × (count ≡ 4) × ((b : ℕ) × In b (blocks_of s) × (next_block s b ≡ 0) × (at ≡ b + 2)))
  pub before : (i : ℕ) → i < at → get_or t i 0 ≡ get_or s i 0
  pub after : (i : ℕ) → at + count ≤ i → i < length s → get_or t i 0 ≡ get_or s i 0

-- ---- Lengths

-- where the data of an added element goes: behind the file, or behind the block that is appended where no slot is free
unfoldable pub added_at : List ℕ → Hit → ℕ
added_at s (hit p) = length s
added_at s miss = length s + block_size

-- the length of the file after an edit
unfoldable pub length_after : Author → List ℕ → Edit → ℕ
length_after author s (add tag ref content) = added_at s (first_free s) + length content + trailer_size author
length_after author s (replace tag ref content) = length s + length content + trailer_size author
length_after author s (remove tag ref) = length s + trailer_size author
