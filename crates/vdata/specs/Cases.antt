-- Worked values as one table: what the definitions compute of the bytes of a number beside its kind and its bits, written down by hand, for each
-- type of document 01 and the same type low byte first. Assumes nothing.
use Rattle.std.specs.Prelude.{ℕ, List, [], ◌∷◌}
use Rattle.directory.specs.Cases.{Row}
use Rattle.vdata.specs.Patterns.{value_at, value_kind, value_bits}

-- a type's code and the bytes of a number of it; then its kind and its bits
abbrev pub value_row : ℕ → List ℕ → ℕ → ℕ → Row
value_row code bytes kind bits = let x = value_at code bytes 0 in record { computed = value_kind x ∷ value_bits x ∷ []; paper = kind ∷ bits ∷ [] }

unfoldable pub value_cases : List Row
value_cases =
    -- characters and bytes
    value_row 3 (0xe9 ∷ []) 2 0xe9 ∷ value_row 16387 (0xe9 ∷ []) 2 0xe9
    ∷ value_row 4 (0x6e ∷ []) 2 0x6e ∷ value_row 16388 (0x6e ∷ []) 2 0x6e
    ∷ value_row 20 (0x80 ∷ []) 1 0xffffffffffffff80 ∷ value_row 16404 (0x80 ∷ []) 1 0xffffffffffffff80
    ∷ value_row 21 (0x80 ∷ []) 2 0x80 ∷ value_row 16405 (0x80 ∷ []) 2 0x80
    -- -511, 65025
    ∷ value_row 22 (0xfe ∷ 0x01 ∷ []) 1 0xfffffffffffffe01 ∷ value_row 16406 (0x01 ∷ 0xfe ∷ []) 1 0xfffffffffffffe01
    ∷ value_row 23 (0xfe ∷ 0x01 ∷ []) 2 0xfe01 ∷ value_row 16407 (0x01 ∷ 0xfe ∷ []) 2 0xfe01
    -- 16909188 and -2147483647, 2147483649
    ∷ value_row 24 (0x01 ∷ 0x02 ∷ 0x03 ∷ 0x84 ∷ []) 1 0x01020384 ∷ value_row 16408 (0x84 ∷ 0x03 ∷ 0x02 ∷ 0x01 ∷ []) 1 0x01020384
    ∷ value_row 24 (0x80 ∷ 0x00 ∷ 0x00 ∷ 0x01 ∷ []) 1 0xffffffff80000001 ∷ value_row 16408 (0x01 ∷ 0x00 ∷ 0x00 ∷ 0x80 ∷ []) 1 0xffffffff80000001
    ∷ value_row 25 (0x80 ∷ 0x00 ∷ 0x00 ∷ 0x01 ∷ []) 2 0x80000001 ∷ value_row 16409 (0x01 ∷ 0x00 ∷ 0x00 ∷ 0x80 ∷ []) 2 0x80000001
    -- 1.5, and a signalling NaN
    ∷ value_row 5 (0x3f ∷ 0xc0 ∷ 0x00 ∷ 0x00 ∷ []) 3 0x3fc00000 ∷ value_row 16389 (0x00 ∷ 0x00 ∷ 0xc0 ∷ 0x3f ∷ []) 3 0x3fc00000
    ∷ value_row 5 (0x7f ∷ 0x80 ∷ 0x00 ∷ 0x01 ∷ []) 3 0x7f800001 ∷ value_row 16389 (0x01 ∷ 0x00 ∷ 0x80 ∷ 0x7f ∷ []) 3 0x7f800001
    -- -2.5, and a quiet NaN
    ∷ value_row 6 (0xc0 ∷ 0x04 ∷ 0 ∷ 0 ∷ 0 ∷ 0 ∷ 0 ∷ 0 ∷ []) 4 0xc004000000000000 ∷ value_row 16390 (0 ∷ 0 ∷ 0 ∷ 0 ∷ 0 ∷ 0 ∷ 0x04 ∷ 0xc0 ∷ []) 4 0xc004000000000000
    ∷ value_row 6 (0xff ∷ 0xf8 ∷ 0x12 ∷ 0x34 ∷ 0x56 ∷ 0x78 ∷ 0x9a ∷ 0xbc ∷ []) 4 0xfff8123456789abc
    ∷ value_row 16390 (0xbc ∷ 0x9a ∷ 0x78 ∷ 0x56 ∷ 0x34 ∷ 0x12 ∷ 0xf8 ∷ 0xff ∷ []) 4 0xfff8123456789abc
    ∷ []
