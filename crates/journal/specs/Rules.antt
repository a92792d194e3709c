-- The rules of edits and of undo in the order in which they are judged, as facts, after document 01, "Edits and the trailer", and document 02
-- (viii). The numbers are the papers' own. Assumes nothing.
use Rattle.std.specs.Prelude.{ℕ, ◌+◌, ◌-◌, ◌<◌, ◌≤◌, ◌≡◌, ◌⊎◌, List, Bool, true, false, length, take, eqb}
use Rattle.answer.specs.Search.{In}
use Rattle.answer.specs.Rules.{Rules, done, rule}
use Rattle.wire.specs.Numbers.{be, put, part}
use Rattle.directory.specs.Blocks.{blocks_of}
use Rattle.directory.specs.Slots.{tag_at, slots_of}
use Rattle.directory.specs.Opening.{open_of}
use Rattle.directory.specs.Faults.{opened_rules}
use Rattle.directory.specs.Rules.{Live}
use Rattle.directory.specs.Named.{Named}

-- ---- The image

-- n is inside the buffer, and its first n bytes open
abbrev pub image_rules : List ℕ → ℕ → Rules → Rules
image_rules buffer n rest =
    rule 1 0 (n ≤ length buffer) (opened_rules (take n buffer) rest)

-- ---- Edits

-- the tags that edits take: not 0, 1 or 107, and none that is extended
abbrev pub EditTag : ℕ → Type 0
EditTag tag = (tag ≡ 0 → ⊥) × (tag ≡ 1 → ⊥) × (tag ≡ 107 → ⊥) × ((tag < 16384) ⊎ (32767 < tag))

-- a slot is free; none is
abbrev pub FreeSlot : List ℕ → Type 0
FreeSlot s = (p : ℕ) × In p (slots_of s) × (tag_at s p ≡ 1)

abbrev pub NoneFree : List ℕ → Type 0
NoneFree s = (p : ℕ) → In p (slots_of s) → Live s p

-- the directory has room for a slot: a free one, or a block more, of 16 slots, where there are fewer than 256 blocks
abbrev pub HasRoom : List ℕ → Type 0
HasRoom s = FreeSlot s ⊎ ((length (blocks_of s) < 256) × (length (slots_of s) ≤ 4080))

-- an element of so many bytes more, with a block of 198 bytes where no slot is free, and the trailer of 36, make no more than so many bytes
abbrev pub AddedFits : List ℕ → ℕ → ℕ → Type 0
AddedFits s size most = (FreeSlot s → length s + size + 36 ≤ most) × (NoneFree s → length s + 198 + size + 36 ≤ most)

abbrev pub add_rules : List ℕ → ℕ → ℕ → ℕ → List ℕ → Rules
add_rules buffer n tag ref content =
    let s = take n buffer in
    image_rules buffer n
    (rule 7 0 (EditTag tag)
    (rule 18 0 ((p : ℕ) → Named s tag ref p → ⊥)
    (rule 6 0 (HasRoom s)
    (rule 1 0 (AddedFits s (length content) 2147483647)
    (rule 19 0 (AddedFits s (length content) (length buffer))
    done)))))

-- an edit of an element that is there, with so many bytes more
abbrev pub change_rules : List ℕ → ℕ → ℕ → ℕ → ℕ → Rules
change_rules buffer n tag ref size =
    let s = take n buffer in
    image_rules buffer n
    (rule 7 0 (EditTag tag)
    (rule 11 0 ((p : ℕ) × Named s tag ref p)
    (rule 1 0 (length s + size + 36 ≤ 2147483647)
    (rule 19 0 (length s + size + 36 ≤ length buffer)
    done))))

abbrev pub replace_rules : List ℕ → ℕ → ℕ → ℕ → List ℕ → Rules
replace_rules buffer n tag ref content = change_rules buffer n tag ref (length content)

abbrev pub remove_rules : List ℕ → ℕ → ℕ → ℕ → Rules
remove_rules buffer n tag ref = change_rules buffer n tag ref 0

-- ---- Undo

-- an image carries an old trailer, or a long one
abbrev pub CarriesOld : List ℕ → Type 0
CarriesOld s = (42 ≤ length s) × (be 4 s (length s - 4) ≡ 0x4241434b)

abbrev pub CarriesLong : List ℕ → Type 0
CarriesLong s = (46 ≤ length s) × (be 4 s (length s - 4) ≡ 0x42414332)

-- it ends in the closing bytes of a long one
unfoldable pub ends_long : List ℕ → Bool
ends_long s = eqb (be 4 s (length s - 4)) 0x42414332

-- the fields of the trailer of s: the place altered, how many bytes, where the old bytes stand and the
-- padding of a next field, the length before, the previous trailer; the desk, 0 in an old one
abbrev pub trailer_place : List ℕ → ℕ
trailer_place s = length s - elim (ends_long s) [ true ↦ 36 | false ↦ 32 ]

abbrev pub place_altered : List ℕ → ℕ
place_altered s = be 4 s (trailer_place s)

abbrev pub bytes_altered : List ℕ → ℕ
bytes_altered s = be 4 s (trailer_place s + 4)

abbrev pub old_at : List ℕ → ℕ
old_at s = trailer_place s + 8

abbrev pub padding_at : List ℕ → ℕ
padding_at s = trailer_place s + 12

abbrev pub length_before : List ℕ → ℕ
length_before s = be 4 s (trailer_place s + 20)

abbrev pub previous_trailer : List ℕ → ℕ
previous_trailer s = be 4 s (trailer_place s + 24)

abbrev pub desk_named : List ℕ → ℕ
desk_named s = elim (ends_long s) [ true ↦ be 4 s (trailer_place s + 28) | false ↦ 0 ]

-- the image before: as long as the trailer says, with the old bytes in their place
unfoldable pub image_before : List ℕ → List ℕ
image_before s = put (take (length_before s) s) (place_altered s) (part s (old_at s) (bytes_altered s))

-- what was altered is a slot, or the next field of a block
abbrev pub AlteredKnown : List ℕ → Type 0
AlteredKnown s =
    ((bytes_altered s ≡ 12) × In (place_altered s) (slots_of s))
    ⊎ ((bytes_altered s ≡ 4) × ((b : ℕ) × In b (blocks_of s) × (place_altered s ≡ b + 2)))

-- eight bytes of padding after the old bytes of a next field
abbrev pub PaddingZero : List ℕ → Type 0
PaddingZero s = bytes_altered s ≡ 4 → (be 4 s (padding_at s) ≡ 0) × (be 4 s (padding_at s + 4) ≡ 0)

-- the previous trailer is that of the image before, or 0 where it carries none: by a long trailer's count one of either form, by an old
-- one's an old one alone
pub record PreviousIs (s : List ℕ) (previous : ℕ) (old : List ℕ) : Type 0 where
  pub of_old : CarriesOld old → previous ≡ length old - 32
  pub of_long : CarriesLong old → previous ≡ elim (ends_long s) [ true ↦ length old - 36 | false ↦ 0 ]
  pub of_none : (CarriesOld old → ⊥) → (CarriesLong old → ⊥) → previous ≡ 0

abbrev pub undo_rules : List ℕ → ℕ → ℕ → Rules
undo_rules buffer n desk =
    let s = take n buffer in
    let t = trailer_place s in
    image_rules buffer n
    (rule 20 0 (CarriesOld s ⊎ CarriesLong s)
    (rule 21 t (length_before s ≤ t)
    (rule 21 t (AlteredKnown s)
    (rule 21 t (place_altered s + bytes_altered s ≤ length_before s)
    (rule 21 t (PaddingZero s)
    (rule 21 t (PreviousIs s (previous_trailer s) (image_before s))
    (rule 21 t ((open_of (image_before s)).number ≡ 0)
    (rule 30 t (desk_named s ≡ desk)
    done))))))))
