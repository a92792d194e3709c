-- What the functions behind the table of fields take and leave. Assumes nothing.
use Rattle.std.specs.Prelude.{ℕ, zero, suc, ◌+◌, ◌≤◌, ◌<◌, ◌≡◌, List, length, set}
use Rattle.wire.specs.Numbers.{part}
use Rattle.directory.specs.Limits.{most_bytes}
use Rattle.directory.specs.Lookup.{find}
use Rattle.records.specs.Readings.{record_bytes}
use Rattle.vhead.specs.Limits.{head_tag, most_fields}
use Rattle.storage.specs.Elements.{start_of}
use Rattle.vhead.specs.Heads.{head_in, named_field, head_within}
use Rattle.hdf4.specs.VsetAnswers.{vdata_answer}
use Rattle.hdf4.specs.FieldTable.{field_from}
use Rattle.hdf4.specs.declared.field_table.Field.{Field}
use Rattle.hdf4.specs.declared.field_table.Reading.{Reading}

-- a head that was read lies in the image
pub record Lies (s : List ℕ) (r : Reading) : Type 0 where
  pub short : length s ≤ most_bytes
  pub inside : r.start + r.size ≤ length s
  pub count : r.fields ≡ (head_in (part s r.start r.size)).fields
  pub few : r.fields ≤ most_fields
  pub last : (head_in (part s r.start r.size)).tail.end ≤ r.size

-- what is read of the head of a reference, where there is room for so many fields: on refusal no field
pub record ReadsFields (s : List ℕ) (ref room : ℕ) (r : Reading) : Type 0 where
  pub answers : vdata_answer r.answer ≡ head_within s ref room
  pub fits : r.fields ≤ room
  pub lies : 0 < r.fields → Lies s r
  pub granted : (head_within s ref room).number ≡ 0
      → (start_of s (find s head_tag ref) ≡ r.start)
      × (record_bytes s (find s head_tag ref) ≡ part s r.start r.size)
      × (r.fields ≡ (head_in (part s r.start r.size)).fields)
  pub refused : ((head_within s ref room).number ≡ 0 → ⊥) → r.fields ≡ 0

-- the field of an index
abbrev pub field_in : List ℕ → Reading → ℕ → Field
field_in s r i = field_from r.start (named_field (part s r.start r.size) i)

-- a table whose first records are so many fields
unfoldable pub filled : List ℕ → Reading → ℕ → List Field → List Field
filled s r zero t = t
filled s r (suc k) t = set (filled s r k t) k (field_in s r k)
