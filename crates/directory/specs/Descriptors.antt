-- Listing the elements of an image: the descriptors of its live slots. Document 01 has no such call; it is this library's own. Assumes nothing.
use Rattle.std.specs.Prelude.{ℕ, ◌*◌, List, [], ◌∷◌, ◌++◌, length, leb, Result, Ok, Err}
use Rattle.answer.specs.Answer.{Answer, grant, refusal, in_room}
use Rattle.answer.specs.Search.{keep}
use Rattle.directory.specs.Slots.{tag_at, ref_at, offset_at, length_at, live_at, slots_of}
use Rattle.directory.specs.Opening.{opened}
use Rattle.answer.specs.declared.Refusal.{Refusal}

abbrev pub listed_numbers : Result ℕ Refusal → Answer
listed_numbers (Ok n) = grant (n ∷ [])
listed_numbers (Err r) = refusal 1 r

-- tag, reference, offset and length of a slot, as they are stored
abbrev pub descriptor : List ℕ → ℕ → List ℕ
descriptor s p = tag_at s p ∷ ref_at s p ∷ offset_at s p ∷ length_at s p ∷ []

-- those of several
unfoldable pub descriptors : List ℕ → List ℕ → List ℕ
descriptors s [] = []
descriptors s (p ∷ ps) = descriptor s p ++ descriptors s ps

unfoldable pub live_slots : List ℕ → List ℕ
live_slots s = keep (live_at s) (slots_of s)

-- what a listing gives: the descriptors of the live slots
abbrev pub elements_of : List ℕ → List ℕ
elements_of s = descriptors s (live_slots s)

-- the number of live slots, or 14 where the lent table is too short for four entries each
unfoldable pub list_of : List ℕ → ℕ → Answer
list_of s room =
    opened 1 s
    (in_room 1 (leb (4 * length (live_slots s)) room) (grant (length (live_slots s) ∷ [])))
