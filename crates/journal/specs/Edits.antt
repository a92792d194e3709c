-- What adding, replacing and removing make of a whole file, after document 01, "Edits and the trailer", and document 02 (viii). Assumes
-- nothing.
use Rattle.std.specs.Prelude.{ℕ, zero, suc, ◌+◌, List, [], ◌∷◌, ◌++◌, Bool, true, false, not, ◌&&◌, ◌||◌, length, leb, ltb, eqb}
use Rattle.answer.specs.Refusals.{PRESENT, NO_ROOM, TOO_LONG, DIR_BIG, BAD_TAG, ABSENT}
use Rattle.wire.specs.Numbers.{bytes, put}
use Rattle.directory.specs.Limits.{most_bytes, most_blocks, most_slots, free_tag, lone_tag, extended_first, extended_last}
use Rattle.answer.specs.Search.{Hit, hit, miss, first, must}
use Rattle.directory.specs.Blocks.{blocks_of}
use Rattle.directory.specs.Slots.{live_at, slots_of}
use Rattle.directory.specs.Lookup.{find}
use Rattle.directory.specs.Links.{last_of}
use Rattle.journal.specs.Outcomes.{Outcome, granted, refused, passing, opened_to}
use Rattle.journal.specs.Trailers.{slot_size, link_size, Author, trailer_of}

-- ---- Bytes that edits write

unfoldable pub slot_bytes : ℕ → ℕ → ℕ → ℕ → List ℕ
slot_bytes tag ref offset size = bytes 2 tag ++ bytes 2 ref ++ bytes 4 offset ++ bytes 4 size

unfoldable pub free_slot : List ℕ
free_slot = slot_bytes free_tag 0 0 0

unfoldable pub free_slots : ℕ → List ℕ
free_slots zero = []
free_slots (suc k) = free_slot ++ free_slots k

-- a block of 16 slots, the first of them used, that ends the chain
abbrev pub block_slots : ℕ
block_slots = 16

abbrev pub block_size : ℕ
block_size = 198

unfoldable pub new_block : List ℕ → List ℕ
new_block slot = bytes 2 block_slots ++ bytes 4 0 ++ slot ++ free_slots 15

-- empty data has offset 0
unfoldable pub data_offset : List ℕ → ℕ → ℕ
data_offset [] at = 0
data_offset (x ∷ xs) at = at

-- the slot of an element whose data stands at a place
unfoldable pub data_slot : ℕ → ℕ → List ℕ → ℕ → List ℕ
data_slot tag ref content at = slot_bytes tag ref (data_offset content at) (length content)

-- ---- The file after an edit, with the author's trailer

-- the slot at p changed, the data appended, then the trailer with the slot's old bytes
unfoldable pub slot_edit : List ℕ → Author → ℕ → List ℕ → List ℕ → List ℕ
slot_edit s author p slot content = put s p slot ++ content ++ trailer_of s author p slot_size

-- a block appended and linked from the block at b, then the data, then the trailer with the next field's old bytes
unfoldable pub block_edit : List ℕ → Author → ℕ → List ℕ → List ℕ → List ℕ
block_edit s author b block content =
    put s (b + 2) (bytes 4 (length s)) ++ block ++ content ++ trailer_of s author (b + 2) link_size

-- ---- What an edit comes to

-- the number of the rule that a file of so many bytes breaks: 1, then 19; 0 where it fits
unfoldable pub fit_fault : ℕ → ℕ → ℕ
fit_fault capacity size = must (leb size most_bytes) TOO_LONG (must (leb size capacity) NO_ROOM 0)

unfoldable pub fitted : ℕ → List ℕ → Outcome
fitted capacity file = passing (fit_fault capacity (length file)) 0 (granted file)

-- the tags that no edit takes: 0, 1, 107, and 16384 to 32767
unfoldable pub bad_tag : ℕ → Bool
bad_tag tag = eqb tag 0 || eqb tag free_tag || eqb tag lone_tag || (leb extended_first tag && leb tag extended_last)

-- an edit of a file that opens, with a tag that edits take
unfoldable pub tagged : List ℕ → ℕ → Outcome → Outcome
tagged s tag outcome = opened_to s (elim (bad_tag tag) [ true ↦ refused BAD_TAG 0 | false ↦ outcome ])

-- the first free slot in chain order
abbrev pub first_free : List ℕ → Hit
first_free s = first (λ p. not (live_at s p)) (slots_of s)

-- in it, or in a new block after the last one
unfoldable pub add_at : List ℕ → ℕ → Author → ℕ → ℕ → List ℕ → Hit → Outcome
add_at s capacity author tag ref content (hit p) = fitted capacity (slot_edit s author p (data_slot tag ref content (length s)) content)
add_at s capacity author tag ref content miss =
    elim (leb most_blocks (length (blocks_of s)) || ltb most_slots (length (slots_of s) + block_slots)) [
      | true ↦ refused DIR_BIG 0
      | false ↦
          fitted capacity (block_edit s author (last_of 4 (blocks_of s)) (new_block (data_slot tag ref content (length s + block_size))) content)
    ]

unfoldable pub add_of : List ℕ → ℕ → Author → ℕ → ℕ → List ℕ → Outcome
add_of s capacity author tag ref content =
    tagged s tag
    (elim (find s tag ref) [
      | hit p ↦ refused PRESENT 0
      | miss ↦ add_at s capacity author tag ref content (first_free s)
    ])

unfoldable pub replace_of : List ℕ → ℕ → Author → ℕ → ℕ → List ℕ → Outcome
replace_of s capacity author tag ref content =
    tagged s tag
    (elim (find s tag ref) [
      | hit p ↦ fitted capacity (slot_edit s author p (data_slot tag ref content (length s)) content)
      | miss ↦ refused ABSENT 0
    ])

unfoldable pub remove_of : List ℕ → ℕ → Author → ℕ → ℕ → Outcome
remove_of s capacity author tag ref =
    tagged s tag
    (elim (find s tag ref) [ hit p ↦ fitted capacity (slot_edit s author p free_slot []) | miss ↦ refused ABSENT 0 ])
