-- What elements were before two requests of document 02, which are to leave what they do not name as it was: the claims of that are about these
-- definitions, and nothing else uses them. By document 01 and request (i) alone, an element in linked blocks had one layout of its record, of 22
-- bytes, and no block without a reference; request (iii) leaves such a record's answers. And a slot with offset and length all ones was
-- none that opens; request (vii) leaves the answers of every file that opened. Assumes nothing.
use Rattle.std.specs.Prelude.{ℕ, zero, suc, ◌+◌, ◌-◌, List, [], ◌∷◌, ◌++◌, true, false, not, length, take, leb, eqb}
use Rattle.answer.specs.Search.{must, Hit, hit, miss}
use Rattle.wire.specs.Numbers.{be, part}
use Rattle.directory.specs.Slots.{offset_at}
use Rattle.directory.specs.Lookup.{find}
use Rattle.directory.specs.Before.{size_before}
use Rattle.storage.specs.Elements.{part_at, extended_at, Located, plain_only}
use Rattle.storage.specs.Tables.{linked_bytes, next_table, block_ref, link_fault, table_fault}
use Rattle.storage.specs.Descriptions.{full_description}
use Rattle.storage.specs.Walks.{share, Walk, ends, breaks, joined, and_then}
use Rattle.storage.specs.Copies.{Stored, of_walk}
use Rattle.storage.specs.declared.description.Description.{Description}
use Rattle.storage.specs.declared.element.Element.{Element}
use Rattle.storage.specs.declared.element.Element.TheVariants.{Absent, Plain, Extended}

-- ---- Request (iii)

-- the number of the first rule that the bytes of an extended element broke as a record
unfoldable pub fault_before : List ℕ → ℕ
fault_before r =
    must (leb 4 (length r)) 13
    (must (eqb (be 4 r 0) 1) 12
    (must (eqb (length r) 22) 13
    (must (not (eqb (be 4 r 8) 0)) 13
    (must (not (eqb (be 4 r 12) 0)) 13
    (must (not (eqb (be 4 r 16) 0)) 13 0)))))

-- the walk over the blocks of a table, and over the tables
unfoldable pub blocks_before : List ℕ → Description → List ℕ → ℕ → ℕ → ℕ → ℕ → Walk
blocks_before s d t zero entry index left = ends left
blocks_before s d t (suc k) entry index left =
    elim (eqb left 0) [
      | true ↦ ends left
      | false ↦
          elim (link_fault s (block_ref t entry) (share d index left) 25 26) [
            | zero ↦
                joined (take (share d index left) (linked_bytes s (block_ref t entry)))
                (blocks_before s d t k (entry + 1) (index + 1) (left - share d index left))
            | suc number ↦ breaks (suc number) index left
          ]
    ]

unfoldable pub tables_before : List ℕ → Description → ℕ → List ℕ → ℕ → ℕ → ℕ → Walk
tables_before s d zero before ref index left = elim (eqb left 0) [ true ↦ ends left | false ↦ breaks 27 (length before) left ]
tables_before s d (suc k) before ref index left =
    elim (eqb left 0) [
      | true ↦ ends left
      | false ↦
          elim (table_fault s d before ref) [
            | zero ↦
                and_then (blocks_before s d (linked_bytes s ref) d.entries 0 index left)
                (tables_before s d k (before ++ (ref ∷ [])) (next_table (linked_bytes s ref)) (index + d.entries)
                (blocks_before s d (linked_bytes s ref) d.entries 0 index left).left)
            | suc number ↦ breaks (suc number) (length before) left
          ]
    ]

-- by the fields of 22 bytes
unfoldable pub chain_before : List ℕ → List ℕ → Walk
chain_before s r = tables_before s (full_description r) 256 [] (be 2 r 20) 0 (be 4 r 4)

unfoldable pub in_blocks_before : List ℕ → List ℕ → Stored
in_blocks_before s r = of_walk (fault_before r) (be 4 r 4) (chain_before s r)

-- ---- Request (vii)

-- what a pair named before a slot with offset and length all ones was taken: the same, by the length that the slot says
unfoldable pub start_before : List ℕ → ℕ → ℕ
start_before s p = elim (size_before s p) [ zero ↦ 0 | suc n ↦ offset_at s p ]

unfoldable pub element_before : List ℕ → Hit → Element
element_before s (hit p) = elim (extended_at s p) [ false ↦ Plain (part_at p (start_before s p) (size_before s p)) | true ↦ Extended p ]
element_before s miss = Absent

unfoldable pub content_before : List ℕ → ℕ → List ℕ
content_before s p = part s (offset_at s p) (size_before s p)

-- the table or block with a reference
unfoldable pub linked_before : List ℕ → ℕ → Located
linked_before s ref = elim (eqb ref 0) [ true ↦ plain_only Absent | false ↦ plain_only (element_before s (find s 20 ref)) ]
