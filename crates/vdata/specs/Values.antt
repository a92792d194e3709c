-- Values of Vdatas, in the element of tag 1963 that has the head's reference, after document 01, "Records". Assumes nothing.
use Rattle.std.specs.Prelude.{ℕ, zero, suc, ◌+◌, ◌*◌, ◌≡◌, List, [], ◌∷◌, length, ltb, leb, Result, Ok, Err}
use Rattle.answer.specs.Answer.{Answer, grant, refusal, unless}
use Rattle.answer.specs.Search.{must, Hit}
use Rattle.answer.specs.Refusals.{RECORD, NO_VALUE}
use Rattle.directory.specs.Opening.{opened}
use Rattle.directory.specs.Lookup.{find}
use Rattle.records.specs.Readings.{record_at}
use Rattle.vhead.specs.Limits.{head_tag}
use Rattle.vdata.specs.Limits.{values_tag}
use Rattle.records.specs.Types.{width_of}
use Rattle.vdata.specs.Patterns.{value_at, value_kind, value_bits}
use Rattle.vhead.specs.Heads.{head_in, head_fault, field_at}
use Rattle.vhead.specs.declared.field.Numbers.{Numbers}
use Rattle.vhead.specs.declared.head.Head.{Head}
use Rattle.vdata.specs.declared.value.Value.{Value}
use Rattle.answer.specs.declared.Refusal.{Refusal}

-- 17: a field or component index too large
unfoldable pub field_fault : Head → Numbers → ℕ → ℕ → ℕ
field_fault h f i c = must (ltb i h.fields) NO_VALUE (must (ltb c f.order) NO_VALUE 0)

-- 17: a record, field or component index too large
unfoldable pub index_fault : Head → Numbers → ℕ → ℕ → ℕ → ℕ
index_fault h f r i c = must (ltb r h.records) NO_VALUE (field_fault h f i c)

-- where component c of the field in record r lies
unfoldable pub place_of : Head → Numbers → ℕ → ℕ → ℕ
place_of h f r c =
    elim h.interlace [
      | zero ↦ r * h.record_size + f.offset + c * width_of f.code
      | suc interlace ↦ h.records * f.offset + r * f.size + c * width_of f.code
    ]

-- the element of the values is at least as long as all records
unfoldable pub values_fault : Head → List ℕ → ℕ
values_fault h v = must (leb (h.records * h.record_size) (length v)) RECORD 0

-- a value answers its kind and its bits
abbrev pub value_numbers : Result Value Refusal → Answer
value_numbers (Ok v) = grant (value_kind v ∷ value_bits v ∷ [])
value_numbers (Err r) = refusal 2 r

-- the value of a granted call, in the bytes e of the head and v of the values
unfoldable pub value_in : List ℕ → List ℕ → ℕ → ℕ → ℕ → Value
value_in e v r i c =
    let h = head_in e in let f = field_at e h i in value_at f.code v (place_of h f r c)

-- after a sound head of the bytes e: 17, then the values that were found: 11, 12, and 15
unfoldable pub value_after : List ℕ → List ℕ → Hit → ℕ → ℕ → ℕ → Answer
value_after s e values r i c =
    let h = head_in e in
    unless 2 (index_fault h (field_at e h i) r i c) 0
    (record_at 2 s values (values_fault h) (λ at v. grant (value_kind (value_in e v r i c) ∷ value_bits (value_in e v r i c) ∷ [])))

-- at the head and the values that were found
unfoldable pub value_found : List ℕ → Hit → Hit → ℕ → ℕ → ℕ → Answer
value_found s head values r i c = record_at 2 s head head_fault (λ at e. value_after s e values r i c)

unfoldable pub value_of : List ℕ → ℕ → ℕ → ℕ → ℕ → Answer
value_of s ref r i c = opened 2 s (value_found s (find s head_tag ref) (find s values_tag ref) r i c)

-- the answer, and where a value is given, that very value
pub record Gives (answer : Answer) (v : Value) (r : Result Value Refusal) : Type 0 where
  pub answers : value_numbers r ≡ answer
  pub exact : (x : Value) → r ≡ Ok x → x ≡ v
