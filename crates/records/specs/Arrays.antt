-- Arrays, tag 701, after document 01, "Records". Assumes nothing.
use Rattle.std.specs.Prelude.{ℕ, ◌+◌, ◌*◌, List, [], ◌∷◌, ◌++◌, ◌&&◌, length, leb, eqb, Result, Ok, Err}
use Rattle.answer.specs.Answer.{Answer, grant, refusal, in_room}
use Rattle.answer.specs.Search.{must, Hit}
use Rattle.records.specs.Limits.{array_tag, most_count}
use Rattle.answer.specs.Refusals.{RECORD}
use Rattle.wire.specs.Layouts.{Layout, end, number, run, read, numbers_at, pack}
use Rattle.directory.specs.Opening.{opened}
use Rattle.directory.specs.Lookup.{find}
use Rattle.answer.specs.Lent.{Does}
use Rattle.records.specs.Readings.{record_at, exactly}
use Rattle.records.specs.declared.array.Array.{Array}
use Rattle.answer.specs.declared.Refusal.{Refusal}

-- rank of 16 bits, rank sizes of 32, then rank + 1 pairs of tag and reference, the data's type first
abbrev pub array : Layout Array
array = number 2 (λ rank. run 4 rank (λ sizes. run 2 (2 * (rank + 1)) (λ pairs. end (λ at. record { rank = rank; sizes = sizes; pairs = pairs }))))

abbrev pub array_numbers : Result ℕ Refusal → Answer
array_numbers (Ok n) = grant (n ∷ [])
array_numbers (Err r) = refusal 1 r

-- exactly 6 + 8 x rank bytes, rank at least 1
unfoldable pub array_fault : List ℕ → ℕ
array_fault e = must (exactly array e) RECORD (must (leb 1 (read array e 0).rank) RECORD 0)

-- the sizes, and tag and reference of each pair
unfoldable pub array_sizes : List ℕ → List ℕ
array_sizes e = numbers_at 4 (read array e 0).rank e (read array e 0).sizes

unfoldable pub array_pairs : List ℕ → List ℕ
array_pairs e = numbers_at 2 (2 * ((read array e 0).rank + 1)) e (read array e 0).pairs

-- the rank, where the lent lists have room for the sizes and the pairs
unfoldable pub array_at : List ℕ → Hit → ℕ → ℕ → Answer
array_at s found sizes pairs =
    record_at 1 s found array_fault
    (λ at e. let rank = (read array e 0).rank in in_room 1 (leb rank sizes && leb (2 * (rank + 1)) pairs) (grant (rank ∷ [])))

unfoldable pub array_of : List ℕ → ℕ → ℕ → ℕ → Answer
array_of s ref sizes pairs = opened 1 s (array_at s (find s array_tag ref) sizes pairs)

-- what a reading of the record e leaves in the two lists
abbrev pub ReadsArray : Answer → List ℕ → List ℕ → List ℕ → List ℕ → List ℕ → Answer → Type 0
ReadsArray answer e sizes sizes_after pairs pairs_after numbers =
    Does answer (array_sizes e) sizes sizes_after numbers × Does answer (array_pairs e) pairs pairs_after numbers

unfoldable pub array_bytes : List ℕ → List ℕ → List ℕ
array_bytes sizes pairs = pack array (length sizes ∷ (sizes ++ pairs)) 0

-- so many sizes and entries of pairs: a rank of 16 bits, at least 1, and a pair more than sizes
unfoldable pub array_pack_fault : ℕ → ℕ → ℕ
array_pack_fault rank pairs =
    must (leb 1 rank) RECORD
    (must (leb rank most_count) RECORD
    (must (eqb pairs (2 * (rank + 1))) RECORD 0))
