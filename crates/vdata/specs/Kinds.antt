-- The numbers of the kinds of values: 1 a signed number, 2 an unsigned one, 3 a float of 32 bits, 4 one of 64. Assumes nothing.
use Rattle.std.specs.Prelude.{ℕ}
use Rattle.vdata.specs.declared.kind.Kind.{Kind}
use Rattle.vdata.specs.declared.kind.Kind.TheVariants.{Signed, Unsigned, Float32, Float64}

abbrev pub number_of : Kind → ℕ
number_of Signed = 1
number_of Unsigned = 2
number_of Float32 = 3
number_of Float64 = 4
