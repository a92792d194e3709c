-- Worked cases of linked blocks as one table: what the definitions compute beside what the rules give. Assumes nothing.
use Rattle.std.specs.Prelude.{ℕ, List, [], ◌∷◌, ◌++◌}
use Rattle.wire.specs.Numbers.{bytes, put}
use Rattle.directory.specs.Slots.{content_at}
use Rattle.storage.specs.Descriptions.{record_fault}
use Rattle.storage.specs.Copies.{Stored, in_blocks}

-- file L: the element 100/1 is extended, "abcdef" in three blocks, of which the first table names two and the second one
unfoldable pub L : List ℕ
L =
    -- the four bytes, and one block of six slots: the record (at 10), the tables (at 22 and 34), the blocks (at 46, 58 and 70)
    0x0e ∷ 0x03 ∷ 0x13 ∷ 0x01 ∷ 0 ∷ 6 ∷ 0 ∷ 0 ∷ 0 ∷ 0
    ∷ 64 ∷ 100 ∷ 0 ∷ 1 ∷ 0 ∷ 0 ∷ 0 ∷ 82 ∷ 0 ∷ 0 ∷ 0 ∷ 22
    ∷ 0 ∷ 20 ∷ 0 ∷ 2 ∷ 0 ∷ 0 ∷ 0 ∷ 104 ∷ 0 ∷ 0 ∷ 0 ∷ 6
    ∷ 0 ∷ 20 ∷ 0 ∷ 3 ∷ 0 ∷ 0 ∷ 0 ∷ 110 ∷ 0 ∷ 0 ∷ 0 ∷ 6
    ∷ 0 ∷ 20 ∷ 0 ∷ 4 ∷ 0 ∷ 0 ∷ 0 ∷ 116 ∷ 0 ∷ 0 ∷ 0 ∷ 3
    ∷ 0 ∷ 20 ∷ 0 ∷ 5 ∷ 0 ∷ 0 ∷ 0 ∷ 119 ∷ 0 ∷ 0 ∷ 0 ∷ 2
    ∷ 0 ∷ 20 ∷ 0 ∷ 6 ∷ 0 ∷ 0 ∷ 0 ∷ 121 ∷ 0 ∷ 0 ∷ 0 ∷ 1
    -- the record (at 82): kind 1, length 6, first_len 3, blk_len 2, num_blk 2, link_ref 2
    ∷ 0 ∷ 0 ∷ 0 ∷ 1 ∷ 0 ∷ 0 ∷ 0 ∷ 6 ∷ 0 ∷ 0 ∷ 0 ∷ 3 ∷ 0 ∷ 0 ∷ 0 ∷ 2 ∷ 0 ∷ 0 ∷ 0 ∷ 2 ∷ 0 ∷ 2
    -- the tables (at 104 and 110): the next one, then two blocks
    ∷ 0 ∷ 3 ∷ 0 ∷ 4 ∷ 0 ∷ 5
    ∷ 0 ∷ 0 ∷ 0 ∷ 6 ∷ 0 ∷ 0
    -- the blocks (at 116, 119 and 121): "abc", "de", "f"
    ∷ 97 ∷ 98 ∷ 99
    ∷ 100 ∷ 101
    ∷ 102 ∷ []

-- file M: the same with the record as the library writes it
unfoldable pub M : List ℕ
M =
    0x0e ∷ 0x03 ∷ 0x13 ∷ 0x01 ∷ 0 ∷ 6 ∷ 0 ∷ 0 ∷ 0 ∷ 0
    ∷ 64 ∷ 100 ∷ 0 ∷ 1 ∷ 0 ∷ 0 ∷ 0 ∷ 82 ∷ 0 ∷ 0 ∷ 0 ∷ 16
    ∷ 0 ∷ 20 ∷ 0 ∷ 2 ∷ 0 ∷ 0 ∷ 0 ∷ 98 ∷ 0 ∷ 0 ∷ 0 ∷ 6
    ∷ 0 ∷ 20 ∷ 0 ∷ 3 ∷ 0 ∷ 0 ∷ 0 ∷ 104 ∷ 0 ∷ 0 ∷ 0 ∷ 6
    ∷ 0 ∷ 20 ∷ 0 ∷ 4 ∷ 0 ∷ 0 ∷ 0 ∷ 110 ∷ 0 ∷ 0 ∷ 0 ∷ 3
    ∷ 0 ∷ 20 ∷ 0 ∷ 5 ∷ 0 ∷ 0 ∷ 0 ∷ 113 ∷ 0 ∷ 0 ∷ 0 ∷ 2
    ∷ 0 ∷ 20 ∷ 0 ∷ 6 ∷ 0 ∷ 0 ∷ 0 ∷ 115 ∷ 0 ∷ 0 ∷ 0 ∷ 1
    -- the record (at 82): kind 1, length 6, blocks of 2 bytes, 2 of them a table, the first table 2; block 0 has the 3 bytes of its own slot
    ∷ 0 ∷ 1 ∷ 0 ∷ 0 ∷ 0 ∷ 6 ∷ 0 ∷ 0 ∷ 0 ∷ 2 ∷ 0 ∷ 0 ∷ 0 ∷ 2 ∷ 0 ∷ 2
    -- the tables (at 98 and 104) and the blocks (at 110, 113 and 115)
    ∷ 0 ∷ 3 ∷ 0 ∷ 4 ∷ 0 ∷ 5
    ∷ 0 ∷ 0 ∷ 0 ∷ 6 ∷ 0 ∷ 0
    ∷ 97 ∷ 98 ∷ 99
    ∷ 100 ∷ 101
    ∷ 102 ∷ []

-- ---- Rows

pub record WorkedRow : Type 0 where
  pub computed : List ℕ
  pub expected : List ℕ

-- the first rule that its record breaks, its length, the first fault of its chain and its index, and the bytes before that
unfoldable pub stored_numbers : Stored → List ℕ
stored_numbers x = x.record_fault ∷ x.size ∷ x.chain_fault ∷ x.chain_index ∷ x.bytes

-- the extended element of the slot at 10
abbrev pub reading : List ℕ → List ℕ → WorkedRow
reading s expected = record { computed = stored_numbers (in_blocks s (content_at s 10)); expected = expected }

-- the first rule that bytes break as a record
abbrev pub judging : List ℕ → ℕ → WorkedRow
judging r expected = record { computed = record_fault r ∷ []; expected = expected ∷ [] }

-- ---- Cases

unfoldable pub worked_cases : List WorkedRow
worked_cases =
    -- the six bytes
    reading L (0 ∷ 6 ∷ 0 ∷ 0 ∷ 97 ∷ 98 ∷ 99 ∷ 100 ∷ 101 ∷ 102 ∷ [])
    -- length 4 and no second table: the second block gives one byte, and no more is judged
    ∷ reading (put (put L 86 (bytes 4 4)) 104 (bytes 2 0)) (0 ∷ 4 ∷ 0 ∷ 0 ∷ 97 ∷ 98 ∷ 99 ∷ 100 ∷ [])
    -- length 0 and no table at all
    ∷ reading (put (put L 86 (bytes 4 0)) 102 (bytes 2 0)) (0 ∷ 0 ∷ 0 ∷ 0 ∷ [])
    -- table 1: reference 0, an extended one, an entry short, the first one again
    ∷ reading (put L 104 (bytes 2 0)) (0 ∷ 6 ∷ 23 ∷ 1 ∷ 97 ∷ 98 ∷ 99 ∷ 100 ∷ 101 ∷ [])
    ∷ reading (put L 34 (bytes 2 16404)) (0 ∷ 6 ∷ 23 ∷ 1 ∷ 97 ∷ 98 ∷ 99 ∷ 100 ∷ 101 ∷ [])
    ∷ reading (put L 42 (bytes 4 4)) (0 ∷ 6 ∷ 24 ∷ 1 ∷ 97 ∷ 98 ∷ 99 ∷ 100 ∷ 101 ∷ [])
    ∷ reading (put L 104 (bytes 2 2)) (0 ∷ 6 ∷ 27 ∷ 1 ∷ 97 ∷ 98 ∷ 99 ∷ 100 ∷ 101 ∷ [])
    -- block 0 a byte short, block 1 of reference 0, block 2 extended: blocks are counted through the whole element
    ∷ reading (put L 54 (bytes 4 2)) (0 ∷ 6 ∷ 26 ∷ 0 ∷ [])
    ∷ reading (put L 108 (bytes 2 0)) (0 ∷ 6 ∷ 25 ∷ 1 ∷ 97 ∷ 98 ∷ 99 ∷ [])
    ∷ reading (put L 70 (bytes 2 16404)) (0 ∷ 6 ∷ 25 ∷ 2 ∷ 97 ∷ 98 ∷ 99 ∷ 100 ∷ 101 ∷ [])
    -- block 1 absent and table 1 too: what the walk meets first answers
    ∷ reading (put (put L 104 (bytes 2 9)) 108 (bytes 2 9)) (0 ∷ 6 ∷ 25 ∷ 1 ∷ 97 ∷ 98 ∷ 99 ∷ [])
    ∷ []

-- the record of 16 bytes
unfoldable pub sparse_cases : List WorkedRow
sparse_cases =
    -- the six bytes; length 2, of which block 0 has more
    reading M (0 ∷ 6 ∷ 0 ∷ 0 ∷ 97 ∷ 98 ∷ 99 ∷ 100 ∷ 101 ∷ 102 ∷ [])
    ∷ reading (put M 84 (bytes 4 2)) (0 ∷ 2 ∷ 0 ∷ 0 ∷ 97 ∷ 98 ∷ [])
    -- block 1 never written; block 0, which then has the length of the others (length 5)
    ∷ reading (put M 102 (bytes 2 0)) (0 ∷ 6 ∷ 0 ∷ 0 ∷ 97 ∷ 98 ∷ 99 ∷ 0 ∷ 0 ∷ 102 ∷ [])
    ∷ reading (put (put M 100 (bytes 2 0)) 84 (bytes 4 5)) (0 ∷ 5 ∷ 0 ∷ 0 ∷ 0 ∷ 0 ∷ 100 ∷ 101 ∷ 102 ∷ [])
    -- block 0 of no bytes (length 3); block 0 absent; table 1 of reference 0
    ∷ reading (put (put M 54 (bytes 4 0)) 84 (bytes 4 3)) (0 ∷ 3 ∷ 0 ∷ 0 ∷ 100 ∷ 101 ∷ 102 ∷ [])
    ∷ reading (put M 100 (bytes 2 9)) (0 ∷ 6 ∷ 25 ∷ 0 ∷ [])
    ∷ reading (put M 98 (bytes 2 0)) (0 ∷ 6 ∷ 23 ∷ 1 ∷ 97 ∷ 98 ∷ 99 ∷ 100 ∷ 101 ∷ [])
    ∷ []

-- records that break a rule
unfoldable pub record_cases : List WorkedRow
record_cases =
    -- of 16 bytes: of another kind, with blocks of 0, with 0 of them a table
    judging (bytes 2 2 ++ bytes 4 6 ++ bytes 4 0 ++ bytes 4 2 ++ bytes 2 2) 12
    ∷ judging (bytes 2 1 ++ bytes 4 6 ++ bytes 4 0 ++ bytes 4 2 ++ bytes 2 2) 13
    ∷ judging (bytes 2 1 ++ bytes 4 6 ++ bytes 4 2 ++ bytes 4 0 ++ bytes 2 2) 13
    -- of 3 and of 4 bytes: the kind is not there, is 1 in 16 bits, is 1 in 32 bits, is another
    ∷ judging (bytes 3 1) 13
    ∷ judging (bytes 2 1 ++ bytes 2 0) 13
    ∷ judging (bytes 4 1) 13
    ∷ judging (bytes 4 2) 12
    ∷ []
