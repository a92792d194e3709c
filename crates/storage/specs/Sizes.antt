-- How many bytes an element has, before it is copied: a call of our own beside document 01's "Reading elements". Assumes nothing.
use Rattle.std.specs.Prelude.{ℕ, List, [], ◌∷◌, Result, Ok, Err}
use Rattle.answer.specs.Refusals.{ABSENT, NOT_STORED}
use Rattle.answer.specs.Answer.{Answer, grant, refuse, refusal, unless}
use Rattle.directory.specs.Slots.{content_at}
use Rattle.directory.specs.Opening.{opened}
use Rattle.directory.specs.Lookup.{find}
use Rattle.storage.specs.Elements.{element_at}
use Rattle.storage.specs.Copies.{Stored, in_place, in_blocks}
use Rattle.storage.specs.declared.element.Element.{Element}
use Rattle.storage.specs.declared.element.Element.TheVariants.{Absent, NotStored, Plain, Extended}
use Rattle.answer.specs.declared.Refusal.{Refusal}

abbrev pub sized_numbers : Result ℕ Refusal → Answer
sized_numbers (Ok n) = grant (n ∷ [])
sized_numbers (Err r) = refusal 1 r

-- the rules of the record, and neither the buffer nor the chain
unfoldable pub size_of_stored : ℕ → Stored → Answer
size_of_stored p x = unless 1 x.record_fault p (grant (x.size ∷ []))

-- what the call goes on to at an element
abbrev pub size_found : List ℕ → Element → Answer
size_found s Absent = refuse 1 ABSENT 0
size_found s (NotStored p) = refuse 1 NOT_STORED p
size_found s (Plain x) = size_of_stored x.slot (in_place s x.offset x.length)
size_found s (Extended p) = size_of_stored p (in_blocks s (content_at s p))

unfoldable pub size_of : List ℕ → ℕ → ℕ → Answer
size_of s tag ref = opened 1 s (size_found s (element_at s (find s tag ref)))
