-- What the functions behind the calls take and leave. Assumes nothing.
use Rattle.std.specs.Prelude.{ℕ, ◌+◌, ◌*◌, ◌<◌, ◌≤◌, ◌≡◌, List, [], ◌∷◌, ◌++◌, ◌&&◌, length, take, drop, leb, eqb, sum, Result, Ok, Err}
use Rattle.wire.specs.Numbers.{bytes, part}
use Rattle.directory.specs.Limits.{most_bytes}
use Rattle.answer.specs.Search.{must, Hit}
use Rattle.answer.specs.Refusals.{RECORD, TYPE}
use Rattle.wire.specs.Layouts.{bytes_each}
use Rattle.records.specs.Limits.{most_count}
use Rattle.records.specs.Readings.{record_bytes}
use Rattle.vhead.specs.Limits.{most_fields}
use Rattle.vset.specs.Columns.{every}
use Rattle.records.specs.Types.{width_of}
use Rattle.storage.specs.Elements.{start_of}
use Rattle.vhead.specs.Heads.{head_in}
use Rattle.vhead.specs.declared.field.Numbers.{Numbers}
use Rattle.vhead.specs.declared.head.Start.{Start}
use Rattle.vhead.specs.declared.head.Judged.{Judged}
use Rattle.vhead.specs.declared.head.Head.{Head}
use Rattle.answer.specs.declared.Refusal.{Refusal}
use Rattle.vhead.specs.declared.head.Found.{Found}

-- the numbers of a field have 16 bits
pub record Narrow (f : Numbers) : Type 0 where
  pub code : f.code < 65536
  pub size : f.size < 65536
  pub offset : f.offset < 65536
  pub order : f.order < 65536

-- one field more is judged
abbrev pub judge : Judged → Numbers → Judged
judge j f =
    record {
      orders = j.orders && leb 1 f.order;
      types = j.types && leb 1 (width_of f.code);
      sizes = j.sizes && (eqb f.size (f.order * width_of f.code) && eqb f.offset j.sum);
      sum = j.sum + f.size;
    }

unfoldable pub judge_all : Judged → List Numbers → Judged
judge_all j [] = j
judge_all j (f ∷ fs) = judge_all (judge j f) fs

unfoldable pub verdict : Judged → ℕ → ℕ
verdict j record_size = must j.orders RECORD (must j.types TYPE (must (j.sizes && eqb record_size j.sum) RECORD 0))

-- how long the parts of a head are that break no rule of packing
pub record Packable (lengths : List ℕ) (names name class : ℕ) : Type 0 where
  pub few : length lengths ≤ most_fields
  pub own : names ≡ sum lengths
  pub low : names ≤ 16777216
  pub name_short : name ≤ most_count
  pub class_short : class ≤ most_count

-- the numbers that a head with so many fields starts with
abbrev pub start_bytes : Start → ℕ → List ℕ
start_bytes b n = bytes 2 b.interlace ++ (bytes 4 b.records ++ (bytes 2 b.record_size ++ bytes 2 n))

-- a column of so many rows
abbrev pub column_bytes : List ℕ → ℕ → ℕ → List ℕ
column_bytes rows n first = bytes_each 2 (every first 4 n rows)

-- their types, sizes, offsets and orders
abbrev pub columns_bytes : List ℕ → ℕ → List ℕ
columns_bytes rows n = column_bytes rows n 0 ++ (column_bytes rows n 1 ++ (column_bytes rows n 2 ++ column_bytes rows n 3))

-- the names, each with its length before it
unfoldable pub names_bytes : List ℕ → List ℕ → List ℕ
names_bytes [] all = []
names_bytes (n ∷ ns) all = bytes 2 n ++ (take n all ++ names_bytes ns (drop n all))

-- a head that was found: its record's place and bytes, which break no rule, and room for its fields
pub record HeadHeld (s : List ℕ) (found : Hit) (room start size : ℕ) (h : Head) : Type 0 where
  pub short : length s ≤ most_bytes
  pub inside : start + size ≤ length s
  pub starts : start_of s found ≡ start
  pub bytes_are : record_bytes s found ≡ part s start size
  pub parsed : h ≡ head_in (part s start size)
  pub last : h.tail.end ≤ size
  pub few : h.fields ≤ most_fields
  pub fits : h.fields ≤ room

abbrev pub Held : List ℕ → Hit → ℕ → Result Found Refusal → Type 0
Held s found room (Ok x) = HeadHeld s found room x.start x.size x.head
Held s found room (Err r) = Unit {0}
