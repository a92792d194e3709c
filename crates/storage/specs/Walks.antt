-- The walk over the tables and blocks of an element in linked blocks, and the bytes that they give, after document 01, "Reading elements",
-- and requests (i) and (iii) of document 02. Assumes nothing.
use Rattle.std.specs.Prelude.{ℕ, zero, suc, ◌+◌, ◌-◌, min, List, [], ◌∷◌, ◌++◌, true, false, eqb, length}
use Rattle.answer.specs.Refusals.{TABLE_LOOP}
use Rattle.storage.specs.Limits.{most_tables}
use Rattle.storage.specs.Tables.{linked_bytes, next_table, block_ref, table_fault, linked_block_fault, block_bytes}
use Rattle.storage.specs.declared.description.Description.{Description}

-- block 0 gives up to the first length, each later one up to the block length, and none more than are left to give
unfoldable pub share : Description → ℕ → ℕ → ℕ
share d zero left = min d.first left
share d (suc index) left = min d.block left

-- what a walk comes to: the bytes that the blocks before its first fault give, the number of that fault and the index of the table or block that
-- has it (both 0 where there is none), and how many bytes are left
pub record Walk : Type 0 where
  pub bytes : List ℕ
  pub fault : ℕ
  pub index : ℕ
  pub left : ℕ

-- it ends without fault, or at one
abbrev pub ends : ℕ → Walk
ends left = record { bytes = []; fault = 0; index = 0; left = left }

abbrev pub breaks : ℕ → ℕ → ℕ → Walk
breaks fault index left = record { bytes = []; fault = fault; index = index; left = left }

-- some bytes, then a walk
abbrev pub joined : List ℕ → Walk → Walk
joined bytes w = record { bytes = bytes ++ w.bytes; fault = w.fault; index = w.index; left = w.left }

-- a walk, then a second one where the first has no fault
abbrev pub and_then : Walk → Walk → Walk
and_then v w = elim v.fault [ zero ↦ joined v.bytes w | suc number ↦ v ]

-- the blocks of k entries of a table, from an entry on that names the block of an index, until no bytes are left
unfoldable pub blocks_from : List ℕ → Description → List ℕ → ℕ → ℕ → ℕ → ℕ → Walk
blocks_from s d t zero entry index left = ends left
blocks_from s d t (suc k) entry index left =
    elim (eqb left 0) [
      | true ↦ ends left
      | false ↦
          elim (linked_block_fault s d.sparse (block_ref t entry) (share d index left)) [
            | zero ↦
                joined (block_bytes s d.sparse (block_ref t entry) (share d index left))
                (blocks_from s d t k (entry + 1) (index + 1) (left - share d index left))
            | suc number ↦ breaks (suc number) index left
          ]
    ]

-- the tables from a reference on, after the tables before, until no bytes are left; k tables may still be walked, and one that is needed after
-- them is too many. A table's index is the number of tables before it; the index that is given is its first block's
unfoldable pub tables_from : List ℕ → Description → ℕ → List ℕ → ℕ → ℕ → ℕ → Walk
tables_from s d zero before ref index left = elim (eqb left 0) [ true ↦ ends left | false ↦ breaks TABLE_LOOP (length before) left ]
tables_from s d (suc k) before ref index left =
    elim (eqb left 0) [
      | true ↦ ends left
      | false ↦
          elim (table_fault s d before ref) [
            | zero ↦
                and_then (blocks_from s d (linked_bytes s ref) d.entries 0 index left)
                (tables_from s d k (before ++ (ref ∷ [])) (next_table (linked_bytes s ref)) (index + d.entries)
                (blocks_from s d (linked_bytes s ref) d.entries 0 index left).left)
            | suc number ↦ breaks (suc number) (length before) left
          ]
    ]

-- the whole chain of a record
unfoldable pub chain_of : List ℕ → Description → Walk
chain_of s d = tables_from s d most_tables [] d.table 0 d.length
