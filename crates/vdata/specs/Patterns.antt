-- The values of the patterns of Vdata fields, by their number types, after document 01, "Records", in either byte order, after document 02, (xi).
-- Assumes nothing.
use Rattle.std.specs.Prelude.{ℕ, ◌*◌, ◌-◌, ◌^◌, List, true, false, eqb, ltb, ℤ, pos, negsuc, ◌-ℤ◌}
use Rattle.std.specs.Float.{binary32, binary64}
use Rattle.std.specs.Float.Ieee.{of_bits, to_bits, nan_bits}
use Rattle.wire.specs.Numbers.{number_in}
use Rattle.records.specs.Types.{Kind, signed, unsigned, float, byte_order_of, width_of, kind_of}
use Rattle.vdata.specs.declared.value.Value.{Value}
use Rattle.vdata.specs.declared.value.Value.TheVariants.{Signed, Unsigned, Float32, Float64, Nan32, Nan64}

-- a number in two's complement by its pattern, with how many patterns there are
unfoldable pub signed_by : ℕ → ℕ → Value
signed_by n whole = elim (ltb (2 * n) whole) [ true ↦ Signed (pos n) | false ↦ Signed (pos n -ℤ pos whole) ]

-- a float by its pattern; a NaN keeps it as a number
unfoldable pub float32 : ℕ → Value
float32 n = elim (nan_bits binary32 n) [ true ↦ Nan32 n | false ↦ Float32 (of_bits binary32 n) ]

unfoldable pub float64 : ℕ → Value
float64 n = elim (nan_bits binary64 n) [ true ↦ Nan64 n | false ↦ Float64 (of_bits binary64 n) ]

-- a value by its kind, its width in bytes and its pattern
unfoldable pub value_by : Kind → ℕ → ℕ → Value
value_by signed width n = signed_by n (256 ^ width)
value_by unsigned width n = Unsigned n
value_by float width n = elim (eqb width 8) [ true ↦ float64 n | false ↦ float32 n ]

-- the value of a type at a place: its pattern is the number in its bytes, in its byte order
unfoldable pub value_at : ℕ → List ℕ → ℕ → Value
value_at code e at = value_by (kind_of code) (width_of code) (number_in (byte_order_of code) (width_of code) e at)

-- 1 a signed number, 2 an unsigned one, 3 a float of 32 bits, 4 one of 64
abbrev pub value_kind : Value → ℕ
value_kind (Signed z) = 1
value_kind (Unsigned n) = 2
value_kind (Float32 x) = 3
value_kind (Float64 x) = 4
value_kind (Nan32 n) = 3
value_kind (Nan64 n) = 4

-- a number in 64 bits of two's complement
abbrev pub complement : ℤ → ℕ
complement (pos n) = n
complement (negsuc n) = 18446744073709551615 - n

abbrev pub value_bits : Value → ℕ
value_bits (Signed z) = complement z
value_bits (Unsigned n) = n
value_bits (Float32 x) = to_bits binary32 x
value_bits (Float64 x) = to_bits binary64 x
value_bits (Nan32 n) = n
value_bits (Nan64 n) = n

-- the kind of a type's values, by their kind and their width in bytes
unfoldable pub kind_number : Kind → ℕ → ℕ
kind_number signed width = 1
kind_number unsigned width = 2
kind_number float width = elim (eqb width 8) [ true ↦ 4 | false ↦ 3 ]

unfoldable pub type_kind : ℕ → ℕ
type_kind code = kind_number (kind_of code) (width_of code)
