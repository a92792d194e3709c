-- Types of numbers in Vdatas and arrays, after document 01, "Records", in either byte order, after document 02, (xi). Assumes nothing.
use Rattle.std.specs.Prelude.{ℕ, ◌+◌, ◌-◌, ◌≡◌, List, [], ◌∷◌, Bool, true, false, Option, Some, None, eqb, leb}
use Rattle.wire.specs.declared.ByteOrder.{ByteOrder}
use Rattle.wire.specs.declared.ByteOrder.TheVariants.{BigEndian, LittleEndian}
use Rattle.records.specs.Limits.{little_endian_types}
use Rattle.records.specs.declared.scalar.Scalar.{Scalar}
use Rattle.records.specs.declared.scalar.Scalar.TheVariants as scalar

pub data Kind : Type 0 where
  signed : Kind
  unsigned : Kind
  float : Kind

-- a type's code, how many bytes its values have, and of what kind they are
pub record TypeRow : Type 0 where
  pub code : ℕ
  pub width : ℕ
  pub kind : Kind

abbrev row : ℕ → ℕ → Kind → TypeRow
row code width kind = record { code = code; width = width; kind = kind }

-- 3, 4, 20, 21 one byte; 22, 23 two; 24, 25, 5 four; 6 eight. 20, 22, 24 are signed; 5 and 6 are floats
abbrev pub types : List TypeRow
types =
    row 3 1 unsigned ∷ row 4 1 unsigned ∷ row 20 1 signed ∷ row 21 1 unsigned ∷ row 22 2 signed ∷ row 23 2 unsigned
    ∷ row 24 4 signed ∷ row 25 4 unsigned ∷ row 5 4 float ∷ row 6 8 float ∷ []

unfoldable pub row_of : ℕ → List TypeRow → TypeRow
row_of code [] = row code 0 unsigned
row_of code (r ∷ rs) = elim (eqb code r.code) [ true ↦ r | false ↦ row_of code rs ]

-- a known type's own code, and its row
abbrev own_code : Scalar → ℕ
own_code scalar.UChar = 3
own_code scalar.Char = 4
own_code scalar.Float32 = 5
own_code scalar.Float64 = 6
own_code scalar.Int8 = 20
own_code scalar.UInt8 = 21
own_code scalar.Int16 = 22
own_code scalar.UInt16 = 23
own_code scalar.Int32 = 24
own_code scalar.UInt32 = 25

abbrev pub row_of_type : Scalar → TypeRow
row_of_type t = row_of (own_code t) types

-- the row of a code, by the type that it was found to be of
abbrev pub row_found : ℕ → Option Scalar → TypeRow
row_found code (Some t) = row_of_type t
row_found code None = row code 0 unsigned

abbrev pub is_signed : Kind → Bool
is_signed signed = true
is_signed unsigned = false
is_signed float = false

-- a code with 16384 added is of the same type, low byte first: the type's own code, 16384 taken off once, and the byte order of its values
unfoldable pub base_type : ℕ → ℕ
base_type code = elim (leb little_endian_types code) [ true ↦ code - little_endian_types | false ↦ code ]

unfoldable pub byte_order_of : ℕ → ByteOrder
byte_order_of code = elim (leb little_endian_types code) [ true ↦ LittleEndian | false ↦ BigEndian ]

-- how many bytes a value of the type has, 0 where the type is unknown; and its kind
unfoldable pub width_of : ℕ → ℕ
width_of code = (row_of (base_type code) types).width

unfoldable pub kind_of : ℕ → Kind
kind_of code = (row_of (base_type code) types).kind

-- ---- The same as facts

-- a type's code, what is answered of its values' kind (1 signed, 2 unsigned, 3 a float of 32 bits, 4 one of 64), and how many bytes they have
pub data TypeIs : ℕ → ℕ → ℕ → Type 0 where
  type_3 : TypeIs 3 2 1
  type_4 : TypeIs 4 2 1
  type_20 : TypeIs 20 1 1
  type_21 : TypeIs 21 2 1
  type_22 : TypeIs 22 1 2
  type_23 : TypeIs 23 2 2
  type_24 : TypeIs 24 1 4
  type_25 : TypeIs 25 2 4
  type_5 : TypeIs 5 3 4
  type_6 : TypeIs 6 4 8

-- a code of one of them, and the byte order of its values: its own, or with 16384 added
pub data CodeIs : ℕ → ByteOrder → ℕ → ℕ → Type 0 where
  big_endian : {code kind width : ℕ} → TypeIs code kind width → CodeIs code BigEndian kind width
  little_endian : {code base kind width : ℕ} → code ≡ base + 16384 → TypeIs base kind width → CodeIs code LittleEndian kind width

-- it is such a code
abbrev pub KnownType : ℕ → Type 0
KnownType code = (order : ByteOrder) × (kind : ℕ) × (width : ℕ) × CodeIs code order kind width
