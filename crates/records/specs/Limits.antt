-- Numbers that the documents fix for records, each named once: tags, types and limits. Assumes nothing.
use Rattle.std.specs.Prelude.{ℕ}

-- ---- Tags

abbrev pub number_type_tag : ℕ
number_type_tag = 106

abbrev pub array_tag : ℕ
array_tag = 701

-- ---- Types

-- added to the code of a type whose values stand low byte first
abbrev pub little_endian_types : ℕ
little_endian_types = 16384

-- ---- Limits

abbrev pub most_interlace : ℕ
most_interlace = 2

-- the greatest number of 16 bits
abbrev pub most_count : ℕ
most_count = 65535
