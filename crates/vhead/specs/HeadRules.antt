-- The rules of reading the head of a Vdata in the order in which they are judged, as facts about its bytes, after document 01, "Records". The
-- numbers are the paper's own. Assumes nothing.
use Rattle.std.specs.Prelude.{ℕ, zero, suc, ◌+◌, ◌*◌, ◌<◌, ◌≤◌, ◌≡◌, List, length, get_or}
use Rattle.answer.specs.Rules.{Rules, done, rule}
use Rattle.wire.specs.Numbers.{be}
use Rattle.wire.specs.Layouts.{read}
use Rattle.wire.specs.declared.ByteOrder.{ByteOrder}
use Rattle.records.specs.RecordRules.{record_rules}
use Rattle.records.specs.Types.{base_type, CodeIs, KnownType}
use Rattle.vhead.specs.Heads.{head}
use Rattle.vhead.specs.declared.field.Numbers.{Numbers}

-- ---- The numbers of a head, in its bytes

abbrev pub interlace_of : List ℕ → ℕ
interlace_of e = be 2 e 0

abbrev pub records_of : List ℕ → ℕ
records_of e = be 4 e 2

abbrev pub record_size_of : List ℕ → ℕ
record_size_of e = be 2 e 6

abbrev pub field_count : List ℕ → ℕ
field_count e = be 2 e 8

-- those of a field: all types, then all sizes, all offsets, all orders
abbrev pub type_of : List ℕ → ℕ → ℕ
type_of e i = be 2 e (10 + 2 * i)

abbrev pub size_of : List ℕ → ℕ → ℕ
size_of e i = be 2 e (10 + 2 * field_count e + 2 * i)

abbrev pub offset_of : List ℕ → ℕ → ℕ
offset_of e i = be 2 e (10 + 4 * field_count e + 2 * i)

abbrev pub order_of : List ℕ → ℕ → ℕ
order_of e i = be 2 e (10 + 6 * field_count e + 2 * i)

-- a list has those of a field in its row of four
pub record RowOf (rows e : List ℕ) (i : ℕ) : Type 0 where
  pub code : get_or rows (4 * i) 0 ≡ type_of e i
  pub size : get_or rows (4 * i + 1) 0 ≡ size_of e i
  pub offset : get_or rows (4 * i + 2) 0 ≡ offset_of e i
  pub order : get_or rows (4 * i + 3) 0 ≡ order_of e i

-- the sizes of so many first fields, together
unfoldable pub sizes_before : List ℕ → ℕ → ℕ
sizes_before e zero = 0
sizes_before e (suc i) = sizes_before e i + size_of e i

-- ---- Rules

-- a field's size is its order times that of its type, and its offset is the sum of the sizes before it
pub record Measured (e : List ℕ) (i : ℕ) : Type 0 where
  pub size : (byte_order : ByteOrder) (kind width : ℕ) → CodeIs (type_of e i) byte_order kind width → size_of e i ≡ order_of e i * width
  pub offset : offset_of e i ≡ sizes_before e i

-- the bytes e of a head at the slot p: layout and version, interlace, count and orders; types; sizes, offsets and the record size. Then what
-- is asked after these
abbrev pub head_rules : ℕ → List ℕ → Rules → Rules
head_rules p e rest =
    let tail = (read head e 0).tail in
    let n = field_count e in
    rule 15 p (tail.end ≤ length e)
    (rule 15 p (tail.version ≡ 3)
    (rule 15 p (interlace_of e ≤ 1)
    (rule 15 p (n ≤ 256)
    (rule 15 p ((i : ℕ) → i < n → 1 ≤ order_of e i)
    (rule 16 p ((i : ℕ) → i < n → KnownType (type_of e i))
    (rule 15 p (((i : ℕ) → i < n → Measured e i) × (record_size_of e ≡ sizes_before e n))
    rest))))))

-- reading, with lists of so many numbers lent: four a field, and two for its name
abbrev pub head_read_rules : List ℕ → ℕ → ℕ → ℕ → Rules
head_read_rules s ref fields names =
    record_rules s 1962 ref (λ p e. head_rules p e (rule 14 0 ((4 * field_count e ≤ fields) × (2 * field_count e ≤ names)) done))

-- the same where there is room for so many fields
abbrev pub head_within_rules : List ℕ → ℕ → ℕ → Rules
head_within_rules s ref room = record_rules s 1962 ref (λ p e. head_rules p e (rule 14 0 (field_count e ≤ room) done))

-- ---- Byte orders

-- two fields have the same numbers, but for the byte order of their types
pub record Alike (f g : Numbers) : Type 0 where
  pub type : base_type f.code ≡ base_type g.code
  pub size : f.size ≡ g.size
  pub offset : f.offset ≡ g.offset
  pub order : f.order ≡ g.order
