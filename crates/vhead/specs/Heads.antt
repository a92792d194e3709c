-- Heads of Vdatas, tag 1962, after document 01, "Records". Assumes nothing.
use Rattle.std.specs.Prelude.{ℕ, zero, suc, ◌+◌, ◌*◌, ◌/◌, min, List, [], ◌∷◌, ◌++◌, Bool, true, ◌&&◌, length, get_or, take, drop, leb, eqb, sum, Result, Ok, Err}
use Rattle.wire.specs.Numbers.{be}
use Rattle.answer.specs.Answer.{Answer, grant, refusal, unless, in_room}
use Rattle.answer.specs.Lent.{Does}
use Rattle.answer.specs.Search.{must, Hit}
use Rattle.answer.specs.Refusals.{TOO_LONG, RECORD, TYPE}
use Rattle.directory.specs.Limits.{most_bytes}
use Rattle.directory.specs.Opening.{opened}
use Rattle.directory.specs.Lookup.{find}
use Rattle.storage.specs.Elements.{start_of}
use Rattle.wire.specs.Layouts.{Layout, number, run, read, numbers_at, pack}
use Rattle.records.specs.Readings.{record_at, record_bytes, within}
use Rattle.vset.specs.Limits.{only_version}
use Rattle.vhead.specs.Limits.{head_tag, most_head_interlace, most_fields}
use Rattle.vset.specs.Columns.{rows4, every}
use Rattle.vset.specs.Tails.{text, tail, tail_values, tail_numbers, tail_pack_fault, names_end}
use Rattle.records.specs.Types.{width_of}
use Rattle.vset.specs.declared.tail.Ending.{Ending}
use Rattle.vhead.specs.declared.field.Numbers.{Numbers}
use Rattle.vhead.specs.declared.head.Head.{Head}
use Rattle.vhead.specs.declared.head.Start.{Start}
use Rattle.vhead.specs.declared.head.NamedField.{NamedField}
use Rattle.answer.specs.declared.Refusal.{Refusal}
use Rattle.vhead.specs.declared.head.Found.{Found}

-- for each field a name length and name
unfoldable pub names : {A : Type 0} → ℕ → Layout A → Layout A
names zero then = then
names (suc n) then = text (λ name size. names n then)

-- interlace 16, records 32, record size 16, field count 16; all types, all sizes, all offsets, all orders; the names; the tail
abbrev pub head : Layout Head
head =
    number 2 (λ interlace. number 4 (λ records. number 2 (λ record_size. number 2 (λ fields.
    run 2 fields (λ types. run 2 fields (λ sizes. run 2 fields (λ offsets. run 2 fields (λ orders.
    run 0 0 (λ names_at. names fields (tail (λ t. record {
      interlace = interlace;
      records = records;
      record_size = record_size;
      fields = fields;
      types = types;
      sizes = sizes;
      offsets = offsets;
      orders = orders;
      names = names_at;
      tail = t;
    })))))))))))

abbrev pub head_in : List ℕ → Head
head_in e = read head e 0

-- ---- The fields

-- the numbers of the field of an index
abbrev pub field_at : List ℕ → Head → ℕ → Numbers
field_at e h i =
    record {
      code = be 2 e (h.types + 2 * i);
      size = be 2 e (h.sizes + 2 * i);
      offset = be 2 e (h.offsets + 2 * i);
      order = be 2 e (h.orders + 2 * i);
    }

-- those of so many fields, from an index on
unfoldable pub fields_from : (ℕ → Numbers) → ℕ → ℕ → List Numbers
fields_from field zero i = []
fields_from field (suc n) i = field i ∷ fields_from field n (i + 1)

abbrev pub fields_of : List ℕ → Head → List Numbers
fields_of e h = fields_from (field_at e h) h.fields 0

-- the same from rows of type, size, offset and order
abbrev pub row_at : List ℕ → ℕ → Numbers
row_at rows i =
    record {
      code = get_or rows (4 * i) 0;
      size = get_or rows (4 * i + 1) 0;
      offset = get_or rows (4 * i + 2) 0;
      order = get_or rows (4 * i + 3) 0;
    }

abbrev pub fields_in : List ℕ → ℕ → List Numbers
fields_in rows n = fields_from (row_at rows) n 0

-- every order is at least 1
unfoldable pub ordered : List Numbers → Bool
ordered [] = true
ordered (f ∷ fs) = leb 1 f.order && ordered fs

-- every type is known
unfoldable pub typed : List Numbers → Bool
typed [] = true
typed (f ∷ fs) = leb 1 (width_of f.code) && typed fs

-- size = order x type size; offset = sum of earlier sizes; record size = sum of all
unfoldable pub sized : ℕ → ℕ → List Numbers → Bool
sized record_size sum [] = eqb record_size sum
sized record_size sum (f ∷ fs) =
    eqb f.size (f.order * width_of f.code) && eqb f.offset sum && sized record_size (sum + f.size) fs

-- orders, then types, then sizes
unfoldable pub fields_fault : ℕ → List Numbers → ℕ
fields_fault record_size fs = must (ordered fs) RECORD (must (typed fs) TYPE (must (sized record_size 0 fs) RECORD 0))

-- ---- Reading

-- 15 for layout, interlace, count and orders; 16; 15 for size, offset and record size
unfoldable pub head_fault : List ℕ → ℕ
head_fault e =
    let h = head_in e in
    must (within head e) RECORD
    (must (eqb h.tail.version only_version) RECORD
    (must (leb h.interlace most_head_interlace) RECORD
    (must (leb h.fields most_fields) RECORD
    (fields_fault h.record_size (fields_of e h)))))

-- type, size, offset and order of each field
unfoldable pub head_fields : List ℕ → List ℕ
head_fields e =
    let h = head_in e in
    rows4 (numbers_at 2 h.fields e h.types) (numbers_at 2 h.fields e h.sizes) (numbers_at 2 h.fields e h.offsets) (numbers_at 2 h.fields e h.orders)

-- where the names stand in the image, and how long they are
unfoldable pub name_rows : ℕ → List ℕ → ℕ → ℕ → List ℕ
name_rows start e zero at = []
name_rows start e (suc n) at = (start + (at + 2)) ∷ be 2 e at ∷ name_rows start e n (at + 2 + be 2 e at)

unfoldable pub head_names : ℕ → List ℕ → List ℕ
head_names start e = let h = head_in e in name_rows start e h.fields h.names

abbrev pub head_values : ℕ → Head → List ℕ
head_values start h = h.interlace ∷ h.records ∷ h.record_size ∷ h.fields ∷ tail_values start h.tail

abbrev pub head_numbers : Result Found Refusal → Answer
head_numbers (Ok x) = grant (head_values x.start x.head)
head_numbers (Err r) = refusal 12 r

-- where there is room for so many fields
unfoldable pub head_at : List ℕ → Hit → ℕ → Answer
head_at s found room =
    record_at 12 s found head_fault (λ at e. let h = head_in e in in_room 12 (leb h.fields room) (grant (head_values at h)))

unfoldable pub head_within : List ℕ → ℕ → ℕ → Answer
head_within s ref room = opened 12 s (head_at s (find s head_tag ref) room)

-- where the lent lists have room for four numbers and for two a field
abbrev pub head_of : List ℕ → ℕ → ℕ → ℕ → Answer
head_of s ref fields names = head_within s ref (min (fields / 4) (names / 2))

-- places are told in 32 bits: a call that does not open an image refuses one that is too long to open
unfoldable pub unless_long : ℕ → List ℕ → Answer → Answer
unless_long k s answer = unless k (must (leb (length s) most_bytes) TOO_LONG 0) 0 answer

-- what a reading at what a lookup found leaves in the two lists
abbrev pub ReadsHead : Answer → List ℕ → Hit → List ℕ → List ℕ → List ℕ → List ℕ → Answer → Type 0
ReadsHead answer s found fields fields_after names names_after numbers =
    Does answer (head_fields (record_bytes s found)) fields fields_after numbers
    × Does answer (head_names (start_of s found) (record_bytes s found)) names names_after numbers

-- ---- One field with its name

-- the field of an index: its numbers, and where its name stands in the record and how long it is
abbrev pub named_field : List ℕ → ℕ → NamedField
named_field e i =
    let at = names_end e i (head_in e).names in
    record { numbers = field_at e (head_in e) i; name = at + 2; length = be 2 e at }

-- ---- Packing

-- the names, one after the other, each with its length before it
unfoldable pub names_apart : List ℕ → List ℕ → List ℕ
names_apart [] all = []
names_apart (n ∷ ns) all = n ∷ (take n all ++ names_apart ns (drop n all))

-- the bytes of a head: rows of four numbers a field, the lengths of their names, the names one after the other, then name and class
unfoldable pub head_bytes : Start → List ℕ → List ℕ → List ℕ → List ℕ → List ℕ → Ending → List ℕ
head_bytes b rows lengths all name class x =
    let n = length lengths in
    pack head
    (b.interlace ∷ b.records ∷ b.record_size ∷ n
    ∷ (every 0 4 n rows ++ (every 1 4 n rows ++ (every 2 4 n rows ++ (every 3 4 n rows ++ (names_apart lengths all ++ tail_numbers name class x)))))) 0

unfoldable pub head_pack_fault : Start → List ℕ → List ℕ → ℕ → ℕ → ℕ → ℕ → ℕ
head_pack_fault b rows lengths all name class version =
    must (leb (length lengths) most_fields) RECORD
    (must (eqb (length rows) (4 * length lengths)) RECORD
    (must (eqb all (sum lengths)) RECORD
    (must (leb b.interlace most_head_interlace) RECORD
    (tail_pack_fault name class version
    (fields_fault b.record_size (fields_in rows (length lengths)))))))
