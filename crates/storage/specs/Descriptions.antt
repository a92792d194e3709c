-- The record of an element in linked blocks, after document 01, "Reading elements", and request (iii) of document 02. It has one of two layouts,
-- which its length tells apart, and both are read into one description. Assumes nothing.
use Rattle.std.specs.Prelude.{ℕ, List, true, false, not, ◌||◌, length, leb, eqb}
use Rattle.answer.specs.Refusals.{STORAGE, CHAIN}
use Rattle.answer.specs.Search.{must}
use Rattle.wire.specs.Numbers.{be}
use Rattle.storage.specs.Limits.{linked_kind, kind_bytes, sparse_bytes, full_bytes}
use Rattle.storage.specs.Tables.{linked_bytes, block_ref}
use Rattle.storage.specs.declared.description.Description.{Description}

-- ---- What it says

-- how many bytes block 0 of a sparse record has, by the first table and the length of the later blocks: those of its own element, or, where it was
-- never written, as many as a later one
unfoldable pub first_length : List ℕ → ℕ → ℕ → ℕ
first_length s table block =
    elim (eqb (block_ref (linked_bytes s table) 0) 0) [
      | true ↦ block
      | false ↦ length (linked_bytes s (block_ref (linked_bytes s table) 0))
    ]

-- 16 bytes: kind in 16 bits, length, block length, blocks per table (32 each), first table (16)
abbrev pub sparse_description : List ℕ → List ℕ → Description
sparse_description s r =
    record { length = be 4 r 2; first = first_length s (be 2 r 14) (be 4 r 6); block = be 4 r 6; entries = be 4 r 10; table = be 2 r 14; sparse = true }

-- 22 bytes: document 01's kind in 32 bits, length, first_len, blk_len, num_blk and link_ref
abbrev pub full_description : List ℕ → Description
full_description r = record { length = be 4 r 4; first = be 4 r 8; block = be 4 r 12; entries = be 4 r 16; table = be 2 r 20; sparse = false }

unfoldable pub description_of : List ℕ → List ℕ → Description
description_of s r = elim (eqb (length r) sparse_bytes) [ true ↦ sparse_description s r | false ↦ full_description r ]

-- how many bytes the element has
unfoldable pub record_length : List ℕ → ℕ
record_length r = elim (eqb (length r) sparse_bytes) [ true ↦ be 4 r 2 | false ↦ be 4 r 4 ]

-- ---- Which rule it breaks first

unfoldable pub sparse_fault : List ℕ → ℕ
sparse_fault r =
    must (eqb (be 2 r 0) linked_kind) STORAGE
    (must (not (eqb (be 4 r 6) 0)) CHAIN
    (must (not (eqb (be 4 r 10) 0)) CHAIN 0))

unfoldable pub full_fault : List ℕ → ℕ
full_fault r =
    must (eqb (be 4 r 0) linked_kind) STORAGE
    (must (not (eqb (be 4 r 8) 0)) CHAIN
    (must (not (eqb (be 4 r 12) 0)) CHAIN
    (must (not (eqb (be 4 r 16) 0)) CHAIN 0)))

-- bytes that have the length of neither
unfoldable pub other_fault : List ℕ → ℕ
other_fault r =
    must (leb kind_bytes (length r)) CHAIN
    (must (eqb (be 2 r 0) linked_kind || eqb (be 4 r 0) linked_kind) STORAGE CHAIN)

-- the number of the first rule that the bytes of an extended element break as a record; 0 where they break none
unfoldable pub record_fault : List ℕ → ℕ
record_fault r =
    elim (eqb (length r) sparse_bytes) [
      | true ↦ sparse_fault r
      | false ↦ elim (eqb (length r) full_bytes) [ true ↦ full_fault r | false ↦ other_fault r ]
    ]
