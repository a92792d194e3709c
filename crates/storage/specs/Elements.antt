-- What a tag and a reference name in an image, after document 01, "Reading elements", and request (vii) of document 02: the one way to an
-- element. Assumes nothing.
use Rattle.std.specs.Prelude.{ℕ, zero, suc, List, [], Bool, true, false, ◌&&◌, leb, Result, Ok, Err}
use Rattle.answer.specs.declared.refusals.Rule.TheVariants as rule
use Rattle.answer.specs.Search.{Hit, hit, miss}
use Rattle.answer.specs.Answer.{Answer, refusal}
use Rattle.answer.specs.declared.Refusal.{Refusal}
use Rattle.wire.specs.Numbers.{part}
use Rattle.directory.specs.Limits.{extended_first, extended_last}
use Rattle.directory.specs.Slots.{tag_at, offset_at, unstored_at, size_at}
use Rattle.storage.specs.declared.element.Element.{Element}
use Rattle.storage.specs.declared.element.Element.TheVariants.{Absent, NotStored, Plain, Extended}
use Rattle.storage.specs.declared.element.Part.{Part}

-- an element is extended, and not in plain storage, by the tag of its slot
unfoldable pub extended_at : List ℕ → ℕ → Bool
extended_at s p = leb extended_first (tag_at s p) && leb (tag_at s p) extended_last

-- where its bytes start; 0 where it has none, since its offset is then not judged
unfoldable pub start_at : List ℕ → ℕ → ℕ
start_at s p = elim (size_at s p) [ zero ↦ 0 | suc n ↦ offset_at s p ]

-- an element in plain storage: its slot, and where its bytes stand
abbrev pub part_at : ℕ → ℕ → ℕ → Part
part_at p offset size = record { slot = p; offset = offset; length = size }

-- what is at the slot that a lookup found, if it found one
unfoldable pub element_at : List ℕ → Hit → Element
element_at s (hit p) =
    elim (unstored_at s p) [
      | true ↦ NotStored p
      | false ↦ elim (extended_at s p) [ false ↦ Plain (part_at p (start_at s p) (size_at s p)) | true ↦ Extended p ]
    ]
element_at s miss = Absent

-- a part, or why a call that reads plain storage alone refuses it
abbrev pub Located : Type 0
Located = Result Part Refusal

abbrev pub is_absent : Element → Bool
is_absent Absent = true
is_absent (NotStored p) = false
is_absent (Plain x) = false
is_absent (Extended p) = false

-- what a call that reads plain storage alone makes of it: 11, 29, 12, or the element
abbrev pub plain_only : Element → Located
plain_only Absent = Err (record { rule = rule.Absent; place = 0 })
plain_only (NotStored p) = Err (record { rule = rule.NotStored; place = p })
plain_only (Plain x) = Ok x
plain_only (Extended p) = Err (record { rule = rule.Storage; place = p })

abbrev pub located_at : List ℕ → Hit → Located
located_at s found = plain_only (element_at s found)

-- its bytes; none where it is not located
abbrev pub bytes_at : List ℕ → Located → List ℕ
bytes_at s (Ok x) = part s x.offset x.length
bytes_at s (Err r) = []

-- where they start in the image; 0 where it is not located
abbrev pub offset_in : Located → ℕ
offset_in (Ok x) = x.offset
offset_in (Err r) = 0

abbrev pub start_of : List ℕ → Hit → ℕ
start_of s found = offset_in (located_at s found)

-- what such a call, of k values, answers: the refusal, or what it goes on to at the slot, the offset and the length
abbrev pub on_plain : ℕ → (ℕ → ℕ → ℕ → Answer) → Located → Answer
on_plain k answer (Ok x) = answer x.slot x.offset x.length
on_plain k answer (Err r) = refusal k r
