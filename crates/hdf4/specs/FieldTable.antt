-- The fields of a Vdata as structs in a lent table, after document 01, "Records": one record a field. Assumes nothing.
use Rattle.std.specs.Prelude.{ℕ, zero, suc, ◌+◌, List, [], ◌∷◌}
use Rattle.directory.specs.Lookup.{find}
use Rattle.records.specs.Readings.{record_bytes}
use Rattle.vhead.specs.Limits.{head_tag}
use Rattle.storage.specs.Elements.{start_of}
use Rattle.vhead.specs.Heads.{head_in, named_field}
use Rattle.vhead.specs.declared.head.NamedField.{NamedField}
use Rattle.hdf4.specs.declared.field_table.Field.{Field}

-- a field of a record that starts at a place of the image
abbrev pub field_from : ℕ → NamedField → Field
field_from start f =
    record {
      code = f.numbers.code;
      size = f.numbers.size;
      offset = f.numbers.offset;
      order = f.numbers.order;
      name = start + f.name;
      name_length = f.length;
    }

-- so many fields of a record, from an index on
unfoldable pub structs_from : ℕ → List ℕ → ℕ → ℕ → List Field
structs_from start e zero i = []
structs_from start e (suc n) i = field_from start (named_field e i) ∷ structs_from start e n (i + 1)

-- those of the head of a reference
abbrev pub structs_of : List ℕ → ℕ → List Field
structs_of s ref =
    let found = find s head_tag ref in
    let e = record_bytes s found in
    structs_from (start_of s found) e (head_in e).fields 0

-- type, size, offset and order of each field, and where each name stands and how long it is
unfoldable pub numbers_of : List Field → List ℕ
numbers_of [] = []
numbers_of (f ∷ fs) = f.code ∷ f.size ∷ f.offset ∷ f.order ∷ numbers_of fs

unfoldable pub names_of : List Field → List ℕ
names_of [] = []
names_of (f ∷ fs) = f.name ∷ f.name_length ∷ names_of fs
