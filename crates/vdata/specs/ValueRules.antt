-- A value of a Vdata as facts about the bytes of its head and of its values, after document 01, "Records", and document 02, (xi). The
-- numbers are the papers' own. Assumes nothing.
use Rattle.std.specs.Prelude.{ℕ, ◌+◌, ◌*◌, ◌-◌, ◌^◌, ◌<◌, ◌≤◌, ◌≡◌, ◌⊎◌, false, List, length, get_or}
use Rattle.answer.specs.Search.{Hit, hit}
use Rattle.answer.specs.Rules.{Rules, done, rule, followed}
use Rattle.wire.specs.Numbers.{high_at, number_in}
use Rattle.wire.specs.declared.ByteOrder.{ByteOrder}
use Rattle.directory.specs.Opening.{open_of}
use Rattle.directory.specs.Rules.{IsStored}
use Rattle.directory.specs.Lookup.{find}
use Rattle.storage.specs.Elements.{extended_at}
use Rattle.records.specs.Readings.{record_bytes}
use Rattle.records.specs.RecordRules.{slot_in, plain_rules, record_rules}
use Rattle.records.specs.Types.{CodeIs}
use Rattle.vhead.specs.Heads.{head_fault}
use Rattle.vhead.specs.HeadRules.{interlace_of, records_of, record_size_of, field_count, type_of, size_of, offset_of, order_of, head_rules}

-- ---- A value

-- a record, a field and a component that there are, by the head's bytes e
pub record Indexed (e : List ℕ) (r i c : ℕ) : Type 0 where
  pub record_there : r < records_of e
  pub field_there : i < field_count e
  pub component_there : c < order_of e i

-- where component c of field i in record r lies: record by record, or field by field
abbrev pub LiesAt : List ℕ → ℕ → ℕ → ℕ → ℕ → ℕ → Type 0
LiesAt e r i c width at =
    ((interlace_of e ≡ 0) × (at ≡ r * record_size_of e + offset_of e i + c * width))
    ⊎ ((interlace_of e ≡ 1) × (at ≡ records_of e * offset_of e i + r * size_of e i + c * width))

-- the most significant byte of a number of so many bytes
abbrev pub top_byte : ByteOrder → ℕ → List ℕ → ℕ → ℕ
top_byte byte_order width v at = get_or v (high_at byte_order (width - 1) at) 0

-- the bits of a value whose bytes stand in v from a place on: a signed number's in 64 bits of two's complement, negative where its most
-- significant byte is 128 or more; of every other kind the number that the bytes are
pub record BitsAre (byte_order : ByteOrder) (kind width : ℕ) (v : List ℕ) (at bits : ℕ) : Type 0 where
  pub exact : (kind ≡ 1 → ⊥) → bits ≡ number_in byte_order width v at
  pub positive : kind ≡ 1 → top_byte byte_order width v at < 128 → bits ≡ number_in byte_order width v at
  pub negative : kind ≡ 1 → 128 ≤ top_byte byte_order width v at → bits + 256 ^ width ≡ number_in byte_order width v at + 18446744073709551616

-- a value's kind and bits, by the bytes e of the head and v of the values
pub record ValueIs (e v : List ℕ) (r i c kind bits : ℕ) : Type 0 where
  pub byte_order : ByteOrder
  pub width : ℕ
  pub place : ℕ
  pub indexed : Indexed e r i c
  pub type_is : CodeIs (type_of e i) byte_order kind width
  pub lies : LiesAt e r i c width place
  pub inside : place + width ≤ length v
  pub bits_are : BitsAre byte_order kind width v place bits

-- ---- Which values are given

-- the element is there, stored, in plain storage
pub record InPlain (s : List ℕ) (tag ref : ℕ) : Type 0 where
  pub slot : ℕ
  pub found : find s tag ref ≡ hit slot
  pub stored : IsStored s slot
  pub plain : extended_at s slot ≡ false

-- an image that opens, with a head that breaks no rule, a value of these indices, and values at least as long as all records
pub record Readable (s : List ℕ) (ref r i c : ℕ) : Type 0 where
  pub opens : (open_of s).number ≡ 0
  pub head : InPlain s 1962 ref
  pub sound : head_fault (record_bytes s (find s 1962 ref)) ≡ 0
  pub indexed : Indexed (record_bytes s (find s 1962 ref)) r i c
  pub values : InPlain s 1963 ref
  pub whole : let e = record_bytes s (find s 1962 ref) in records_of e * record_size_of e ≤ length (record_bytes s (find s 1963 ref))

-- ---- The rules, in the order in which they are judged

-- a record, a field and a component that there are, by the bytes e of the head
abbrev pub index_rules : List ℕ → ℕ → ℕ → ℕ → Rules
index_rules e r i c = rule 17 0 (r < records_of e) (rule 17 0 (i < field_count e) (rule 17 0 (c < order_of e i) done))

-- values at least as long as all records
abbrev pub whole_rules : List ℕ → List ℕ → Hit → Rules
whole_rules s e values = rule 15 (slot_in values) (records_of e * record_size_of e ≤ length (record_bytes s values)) done

-- after a sound head: the indices, then values that are there, stored, in plain storage, and whole
abbrev pub after_rules : List ℕ → List ℕ → Hit → ℕ → ℕ → ℕ → Rules
after_rules s e values r i c = followed (index_rules e r i c) (plain_rules s values (whole_rules s e values))

abbrev pub value_rules : List ℕ → ℕ → ℕ → ℕ → ℕ → Rules
value_rules s ref r i c = record_rules s 1962 ref (λ p e. head_rules p e (after_rules s e (find s 1963 ref) r i c))
