-- Columns of Vdatas: one component of a field in every record. Each value is the one that the record has there. Assumes nothing.
use Rattle.std.specs.Prelude.{ℕ, zero, suc, List, [], ◌∷◌, leb, Result, Ok, Err}
use Rattle.answer.specs.Answer.{Answer, grant, refusal, unless, in_room}
use Rattle.answer.specs.Search.{Hit}
use Rattle.directory.specs.Opening.{opened}
use Rattle.directory.specs.Lookup.{find}
use Rattle.records.specs.Readings.{record_at, record_bytes}
use Rattle.vhead.specs.Limits.{head_tag}
use Rattle.vhead.specs.Heads.{head_in, head_fault, field_at}
use Rattle.vdata.specs.Limits.{values_tag}
use Rattle.vdata.specs.Kinds.{number_of}
use Rattle.vdata.specs.Patterns.{value_bits, type_kind}
use Rattle.vdata.specs.Values.{field_fault, values_fault, value_in}
use Rattle.answer.specs.declared.Refusal.{Refusal}
use Rattle.vdata.specs.declared.column.Column.{Column}

-- the bits of component c of field i in so many records from the record r on, in the bytes e of the head and v of the values
unfoldable pub column_from : List ℕ → List ℕ → ℕ → ℕ → ℕ → ℕ → List ℕ
column_from e v i c r zero = []
column_from e v i c r (suc n) = value_bits (value_in e v r i c) ∷ column_from e v i c (suc r) n

-- in every record
unfoldable pub column_in : List ℕ → List ℕ → ℕ → ℕ → List ℕ
column_in e v i c = column_from e v i c 0 (head_in e).records

-- a column answers the kind of its values and how many records there are
abbrev pub column_numbers : Result Column Refusal → Answer
column_numbers (Ok x) = grant (number_of x.kind ∷ x.records ∷ [])
column_numbers (Err r) = refusal 2 r

-- where there are records: the values that were found, 11, 29, 12 and 15, then 14. Where there are none, whatever was found
unfoldable pub column_given : List ℕ → List ℕ → Hit → ℕ → ℕ → ℕ → Answer
column_given s e values i room zero = grant (type_kind (field_at e (head_in e) i).code ∷ 0 ∷ [])
column_given s e values i room (suc n) =
    record_at 2 s values (values_fault (head_in e))
    (λ at v. in_room 2 (leb (suc n) room) (grant (type_kind (field_at e (head_in e) i).code ∷ suc n ∷ [])))

-- after a sound head of the bytes e: 17, then the values
unfoldable pub column_after : List ℕ → List ℕ → Hit → ℕ → ℕ → ℕ → Answer
column_after s e values i c room =
    let h = head_in e in unless 2 (field_fault h (field_at e h i) i c) 0 (column_given s e values i room h.records)

-- at the head and the values that were found
unfoldable pub column_found : List ℕ → Hit → Hit → ℕ → ℕ → ℕ → Answer
column_found s head values i c room = record_at 2 s head head_fault (λ at e. column_after s e values i c room)

unfoldable pub column_of : List ℕ → ℕ → ℕ → ℕ → ℕ → Answer
column_of s ref i c room = opened 2 s (column_found s (find s head_tag ref) (find s values_tag ref) i c room)

-- what is given to lent memory
unfoldable pub column_bits : List ℕ → ℕ → ℕ → ℕ → List ℕ
column_bits s ref i c = column_in (record_bytes s (find s head_tag ref)) (record_bytes s (find s values_tag ref)) i c
