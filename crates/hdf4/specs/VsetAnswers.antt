-- The structs that the C functions of Vgroups and Vdatas return, as answers. Assumes nothing.
use Rattle.std.specs.Prelude.{ℕ, ◌+◌, ◌≤◌, not, [], ◌∷◌, T, Result, Ok, Err}
use Rattle.std.specs.Float.Ieee.{is_nan}
use Rattle.answer.specs.Answer.{Answer}
use Rattle.directory.specs.Limits.{most_bytes}
use Rattle.vset.specs.declared.tail.Ending.{Ending}
use Rattle.vhead.specs.declared.head.Start.{Start}
use Rattle.answer.specs.declared.Refusal.{Refusal}
use Rattle.vhead.specs.declared.head.Found.{Found}
use Rattle.vdata.specs.declared.value.Value.{Value}
use Rattle.vdata.specs.declared.value.Value.TheVariants.{Signed, Unsigned, Float32, Float64, Nan32, Nan64}
use Rattle.hdf4.specs.declared.vset_calls.GroupAnswer.{GroupAnswer}
use Rattle.hdf4.specs.declared.vset_calls.VdataAnswer.{VdataAnswer}
use Rattle.hdf4.specs.declared.vset_calls.ValueAnswer.{ValueAnswer}
use Rattle.hdf4.specs.declared.vset_calls.ColumnAnswer.{ColumnAnswer}
use Rattle.hdf4.specs.declared.vset_calls.PairsAnswer.{PairsAnswer}

abbrev pub group_answer : GroupAnswer → Answer
group_answer r =
    record {
      number = r.number;
      place = r.place;
      values =
          r.members ∷ r.name ∷ r.name_length ∷ r.class ∷ r.class_length
          ∷ r.extension_tag ∷ r.extension_ref ∷ r.version ∷ r.more ∷ [];
    }

abbrev pub vdata_answer : VdataAnswer → Answer
vdata_answer r =
    record {
      number = r.number;
      place = r.place;
      values =
          r.interlace ∷ r.records ∷ r.record_size ∷ r.fields ∷ r.name ∷ r.name_length ∷ r.class ∷ r.class_length
          ∷ r.extension_tag ∷ r.extension_ref ∷ r.version ∷ r.more ∷ [];
    }

-- the places of a head's name and class are places of an image
abbrev pub NamesFit : Result Found Refusal → Type 0
NamesFit (Ok x) = (x.start + x.head.tail.name ≤ most_bytes) × (x.start + x.head.tail.class ≤ most_bytes)
NamesFit (Err r) = Unit {0}

abbrev pub value_answer : ValueAnswer → Answer
value_answer r = record { number = r.number; place = r.place; values = r.kind ∷ r.bits ∷ [] }

abbrev pub column_answer : ColumnAnswer → Answer
column_answer r = record { number = r.number; place = r.place; values = r.kind ∷ r.records ∷ [] }

abbrev pub pairs_answer : PairsAnswer → Answer
pairs_answer r = record { number = r.number; place = r.place; values = r.pairs ∷ [] }

-- the parts of a record to be packed, of the arguments
abbrev pub ending_from : ℕ → ℕ → ℕ → ℕ → Ending
ending_from extension_tag extension_ref version more =
    record { extension_tag = extension_tag; extension_ref = extension_ref; version = version; more = more }

abbrev pub start_from : ℕ → ℕ → ℕ → Start
start_from interlace records record_size = record { interlace = interlace; records = records; record_size = record_size }

-- a value whose floats have bits
abbrev pub HasBits : Value → Type 0
HasBits (Signed z) = Unit {0}
HasBits (Unsigned n) = Unit {0}
HasBits (Float32 x) = T (not (is_nan x))
HasBits (Float64 x) = T (not (is_nan x))
HasBits (Nan32 n) = Unit {0}
HasBits (Nan64 n) = Unit {0}
