-- The rules of reading a record in the order in which they are judged, as facts about its bytes, after document 01, "Records", and request
-- (vii) of document 02. The numbers are the papers' own. Assumes nothing.
use Rattle.std.specs.Prelude.{ℕ, ◌+◌, ◌*◌, ◌<◌, ◌≤◌, ◌≡◌, ◌⊎◌, List, length}
use Rattle.answer.specs.Search.{Hit, hit, miss}
use Rattle.answer.specs.Rules.{Rules, done, rule}
use Rattle.wire.specs.Numbers.{be}
use Rattle.directory.specs.Slots.{tag_at}
use Rattle.directory.specs.Rules.{IsStored}
use Rattle.directory.specs.Faults.{opened_rules}
use Rattle.directory.specs.Lookup.{find}
use Rattle.records.specs.Readings.{record_bytes}

-- ---- The element

-- the slot that was found; 0 where there is none
abbrev pub slot_in : Hit → ℕ
slot_in (hit p) = p
slot_in miss = 0

-- the element is there, stored, in plain storage
abbrev pub plain_rules : List ℕ → Hit → Rules → Rules
plain_rules s found rest =
    let p = slot_in found in
    rule 11 0 ((q : ℕ) × (found ≡ hit q))
    (rule 29 p (IsStored s p)
    (rule 12 p ((tag_at s p < 16384) ⊎ (32767 < tag_at s p))
    rest))

-- in an image that opens, and then what is asked of the bytes of the element at its slot
abbrev pub record_rules : List ℕ → ℕ → ℕ → (ℕ → List ℕ → Rules) → Rules
record_rules s tag ref own =
    let found = find s tag ref in opened_rules s (plain_rules s found (own (slot_in found) (record_bytes s found)))

-- ---- The records

-- exactly 4 bytes
abbrev pub number_type_rules : List ℕ → ℕ → Rules
number_type_rules s ref = record_rules s 106 ref (λ p e. rule 15 p (length e ≡ 4) done)

-- exactly 20 bytes, interlace 0 to 2
abbrev pub dimension_rules : List ℕ → ℕ → ℕ → Rules
dimension_rules s tag ref = record_rules s tag ref (λ p e. rule 15 p (length e ≡ 20) (rule 15 p (be 2 e 14 ≤ 2) done))

-- exactly 6 + 8 x rank bytes, rank at least 1; then room for so many sizes, and for tag and reference of a pair more
abbrev pub array_rules : List ℕ → ℕ → ℕ → ℕ → Rules
array_rules s ref sizes pairs =
    record_rules s 701 ref (λ p e.
    let rank = be 2 e 0 in
    rule 15 p (length e ≡ 6 + 8 * rank)
    (rule 15 p (1 ≤ rank)
    (rule 14 0 ((rank ≤ sizes) × (2 * (rank + 1) ≤ pairs))
    done)))
