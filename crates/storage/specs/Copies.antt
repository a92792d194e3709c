-- Copying an element's bytes to the front of a lent buffer, after document 01, "Reading elements", and requests (i), (iii) and (vii) of
-- document 02. Assumes nothing.
use Rattle.std.specs.Prelude.{ℕ, List, [], ◌∷◌, true, false, ◌&&◌, length, get_or, leb, Result, Ok, Err}
use Rattle.answer.specs.Refusals.{ABSENT, NO_TABLE, TABLE_LOOP, NOT_STORED}
use Rattle.answer.specs.Answer.{Answer, grant, refuse, carrying, unless, unless_carrying, in_room}
use Rattle.answer.specs.Lent.{laid_over}
use Rattle.wire.specs.Numbers.{part}
use Rattle.directory.specs.Slots.{content_at}
use Rattle.directory.specs.Opening.{opened}
use Rattle.directory.specs.Lookup.{find}
use Rattle.storage.specs.Elements.{element_at}
use Rattle.storage.specs.Descriptions.{description_of, record_length, record_fault}
use Rattle.storage.specs.Walks.{Walk, chain_of}
use Rattle.storage.specs.declared.element.Element.{Element}
use Rattle.storage.specs.declared.element.Element.TheVariants.{Absent, NotStored, Plain, Extended}
use Rattle.answer.specs.declared.Carrying.{Carrying}

-- a copy answers the number of bytes, and a refusal carries the index of the table or block that is broken
abbrev pub copied_numbers : Result ℕ Carrying → Answer
copied_numbers (Ok n) = grant (n ∷ 0 ∷ [])
copied_numbers (Err r) = carrying 1 r

-- an element by its storage: the first rule that its record breaks, how many bytes it has, the first fault of its chain and the index of the table
-- or block that has it, and its bytes
pub record Stored : Type 0 where
  pub record_fault : ℕ
  pub size : ℕ
  pub chain_fault : ℕ
  pub chain_index : ℕ
  pub bytes : List ℕ

-- in plain storage
unfoldable pub in_place : List ℕ → ℕ → ℕ → Stored
in_place s offset size = record { record_fault = 0; size = size; chain_fault = 0; chain_index = 0; bytes = part s offset size }

-- by what a walk over its chain comes to
abbrev pub of_walk : ℕ → ℕ → Walk → Stored
of_walk fault size w = record { record_fault = fault; size = size; chain_fault = w.fault; chain_index = w.index; bytes = w.bytes }

-- in linked blocks, by the bytes of its record
unfoldable pub in_blocks : List ℕ → List ℕ → Stored
in_blocks s r = of_walk (record_fault r) (record_length r) (chain_of s (description_of s r))

-- the rules of the record, then 14, then the chain
unfoldable pub copy_at : ℕ → ℕ → Stored → Answer
copy_at room p x =
    unless 2 x.record_fault p
    (in_room 2 (leb x.size room) (unless_carrying 1 x.chain_fault p x.chain_index (grant (x.size ∷ 0 ∷ []))))

-- what the call goes on to at an element
abbrev pub copy_found : List ℕ → ℕ → Element → Answer
copy_found s room Absent = refuse 2 ABSENT 0
copy_found s room (NotStored p) = refuse 2 NOT_STORED p
copy_found s room (Plain x) = copy_at room x.slot (in_place s x.offset x.length)
copy_found s room (Extended p) = copy_at room p (in_blocks s (content_at s p))

unfoldable pub copy_of : List ℕ → ℕ → ℕ → ℕ → Answer
copy_of s tag ref room = opened 2 s (copy_found s room (element_at s (find s tag ref)))

abbrev pub bytes_found : List ℕ → Element → List ℕ
bytes_found s Absent = []
bytes_found s (NotStored p) = []
bytes_found s (Plain x) = (in_place s x.offset x.length).bytes
bytes_found s (Extended p) = (in_blocks s (content_at s p)).bytes

-- the bytes of an element
unfoldable pub element_bytes : List ℕ → ℕ → ℕ → List ℕ
element_bytes s tag ref = bytes_found s (element_at s (find s tag ref))

-- the index that an answer has: of a table or a block, by the numbers of their faults, and else 0
unfoldable pub link_index : Answer → ℕ
link_index answer = elim (leb NO_TABLE answer.number && leb answer.number TABLE_LOOP) [ true ↦ get_or answer.values 1 0 | false ↦ 0 ]

-- the lent buffer after the call
abbrev pub copy_after : List ℕ → ℕ → ℕ → List ℕ → List ℕ
copy_after s tag ref out = laid_over (copy_of s tag ref (length out)) (element_bytes s tag ref) out
