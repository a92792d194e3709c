-- Worked values of each type in both byte orders: in every row of the table the definitions compute what was written down. Assumes nothing.
use mathlib.Core.Path.{◌≡◌, refl}
use mathlib.Core.List.{map}
use lib.Ieee.{size, span, odd, climb, of_fields, of_bits, to_bits, nan_bits}
use Rattle.wire.specs.Numbers.{number_in}
use Rattle.directory.specs.Cases.{Row}
use Rattle.records.specs.Types.{row_of, base_type, byte_order_of, width_of, kind_of}
use Rattle.vdata.specs.Patterns.{signed_by, float32, float64, value_by, value_at}
use Rattle.vdata.specs.Cases.{value_cases}

pub value_cases_lem : map (λ (r : Row). r.computed) value_cases ≡ map (λ (r : Row). r.paper) value_cases
unfolding size span odd climb of_fields of_bits to_bits nan_bits number_in row_of base_type byte_order_of width_of kind_of signed_by float32 float64 value_by value_at value_cases
value_cases_lem = refl
