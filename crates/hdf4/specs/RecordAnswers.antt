-- The structs that the C functions of records return, as answers. Assumes nothing.
use Rattle.std.specs.Prelude.{ℕ, [], ◌∷◌}
use Rattle.answer.specs.Answer.{Answer}
use Rattle.records.specs.declared.dimension.Dimension.{Dimension}
use Rattle.hdf4.specs.declared.record_calls.NumberTypeAnswer.{NumberTypeAnswer}
use Rattle.hdf4.specs.declared.record_calls.DimensionAnswer.{DimensionAnswer}
use Rattle.hdf4.specs.declared.record_calls.ArrayAnswer.{ArrayAnswer}
use Rattle.hdf4.specs.declared.record_calls.PackAnswer.{PackAnswer}

abbrev pub number_type_answer : NumberTypeAnswer → Answer
number_type_answer r = record { number = r.number; place = r.place; values = r.version ∷ r.code ∷ r.width ∷ r.class ∷ [] }

abbrev pub dimension_answer : DimensionAnswer → Answer
dimension_answer r =
    record {
      number = r.number;
      place = r.place;
      values =
          r.x ∷ r.y ∷ r.type_tag ∷ r.type_ref ∷ r.elements ∷ r.interlace ∷ r.compression_tag ∷ r.compression_ref ∷ [];
    }

-- a dimension of the arguments of packing
abbrev pub dimension_from : ℕ → ℕ → ℕ → ℕ → ℕ → ℕ → ℕ → ℕ → Dimension
dimension_from x y type_tag type_ref elements interlace compression_tag compression_ref =
    record {
      x = x;
      y = y;
      type_tag = type_tag;
      type_ref = type_ref;
      elements = elements;
      interlace = interlace;
      compression_tag = compression_tag;
      compression_ref = compression_ref;
    }

abbrev pub array_answer : ArrayAnswer → Answer
array_answer r = record { number = r.number; place = r.place; values = r.rank ∷ [] }

abbrev pub pack_answer : PackAnswer → Answer
pack_answer r = record { number = r.number; place = r.place; values = r.length ∷ [] }
