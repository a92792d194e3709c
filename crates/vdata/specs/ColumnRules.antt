-- A column of a Vdata as facts about the bytes of its head and of its values, after document 01, "Records", and document 02, (xi). The numbers
-- are the papers' own. Assumes nothing.
use Rattle.std.specs.Prelude.{ℕ, zero, suc, ◌*◌, ◌<◌, ◌≤◌, ◌≡◌, ◌⊎◌, List, [], ◌∷◌, length, get_or}
use Rattle.answer.specs.Answer.{grant}
use Rattle.answer.specs.Search.{Hit}
use Rattle.answer.specs.Rules.{Rules, done, rule, followed}
use Rattle.wire.specs.declared.ByteOrder.{ByteOrder}
use Rattle.directory.specs.Opening.{open_of}
use Rattle.directory.specs.Lookup.{find}
use Rattle.records.specs.Readings.{record_bytes}
use Rattle.records.specs.RecordRules.{plain_rules, record_rules}
use Rattle.records.specs.Types.{CodeIs}
use Rattle.vhead.specs.Heads.{head_fault}
use Rattle.vhead.specs.HeadRules.{records_of, record_size_of, field_count, type_of, order_of, head_rules}
use Rattle.vdata.specs.Values.{value_of}
use Rattle.vdata.specs.ValueRules.{InPlain, whole_rules}

-- ---- Which columns are given

-- the values of a Vdata are there, stored, in plain storage, and at least as long as all records
pub record Whole (s : List ℕ) (ref : ℕ) : Type 0 where
  pub values : InPlain s 1963 ref
  pub long : let e = record_bytes s (find s 1962 ref) in records_of e * record_size_of e ≤ length (record_bytes s (find s 1963 ref))

-- an image that opens, with a head that breaks no rule, a field and a component that there are; and no records, or whole values and room for
-- one of each record
pub record ReadableColumn (s : List ℕ) (ref i c room : ℕ) : Type 0 where
  pub opens : (open_of s).number ≡ 0
  pub head : InPlain s 1962 ref
  pub sound : head_fault (record_bytes s (find s 1962 ref)) ≡ 0
  pub field_there : i < field_count (record_bytes s (find s 1962 ref))
  pub component_there : c < order_of (record_bytes s (find s 1962 ref)) i
  pub given : let n = records_of (record_bytes s (find s 1962 ref)) in (n ≡ 0) ⊎ (Whole s ref × (n ≤ room))

-- ---- What is given

-- the answer of a call that is granted, and lent memory before and after it: the head's number of records and the kind of the field's type; for
-- each record the very bits that the call for its value answers; what stands behind them as it was
pub record ColumnIs (s : List ℕ) (ref i c kind records : ℕ) (before after : List ℕ) : Type 0 where
  pub counted : records ≡ records_of (record_bytes s (find s 1962 ref))
  pub type_is : (byte_order : ByteOrder) × (width : ℕ) × CodeIs (type_of (record_bytes s (find s 1962 ref)) i) byte_order kind width
  pub each : (r : ℕ) → r < records → value_of s ref r i c ≡ grant (kind ∷ get_or after r 0 ∷ [])
  pub rest : (r : ℕ) → records ≤ r → get_or after r 0 ≡ get_or before r 0
  pub long : length after ≡ length before

-- ---- The rules, in the order in which they are judged

-- of so many records: where there are some, values that are there, stored, in plain storage and whole, and room for one of each
abbrev pub given_rules : List ℕ → List ℕ → Hit → ℕ → ℕ → Rules
given_rules s e values room zero = done
given_rules s e values room (suc n) = plain_rules s values (followed (whole_rules s e values) (rule 14 0 (suc n ≤ room) done))

-- a field and a component that there are, by the bytes e of the head; then the values
abbrev pub column_after_rules : List ℕ → List ℕ → Hit → ℕ → ℕ → ℕ → Rules
column_after_rules s e values i c room =
    rule 17 0 (i < field_count e) (rule 17 0 (c < order_of e i) (given_rules s e values room (records_of e)))

abbrev pub column_rules : List ℕ → ℕ → ℕ → ℕ → ℕ → Rules
column_rules s ref i c room = record_rules s 1962 ref (λ p e. head_rules p e (column_after_rules s e (find s 1963 ref) i c room))
