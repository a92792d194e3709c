-- The tables and blocks of an element in linked blocks, after document 01, "Reading elements", and requests (i) and (iii) of
-- document 02. Assumes nothing.
use Rattle.std.specs.Prelude.{ℕ, ◌+◌, ◌*◌, List, Bool, true, false, not, ◌&&◌, length, take, replicate, leb, eqb, Ok, Err}
use Rattle.answer.specs.Refusals.{NO_TABLE, SHORT_TABLE, NO_BLOCK, SHORT_BLOCK, TABLE_LOOP}
use Rattle.answer.specs.Search.{must, any}
use Rattle.answer.specs.Links.{link_after, links_after}
use Rattle.wire.specs.Numbers.{be}
use Rattle.directory.specs.Lookup.{find}
use Rattle.storage.specs.Limits.{linked_tag}
use Rattle.storage.specs.Elements.{Located, plain_only, located_at, bytes_at}
use Rattle.storage.specs.declared.element.Element.TheVariants.{Absent}
use Rattle.storage.specs.declared.description.Description.{Description}

-- the table or block with a reference: the element of tag 20 and that reference, which must be in plain storage; a reference of 0 names none
unfoldable pub linked_at : List ℕ → ℕ → Located
linked_at s ref = elim (eqb ref 0) [ true ↦ plain_only Absent | false ↦ located_at s (find s linked_tag ref) ]

abbrev pub is_there : Located → Bool
is_there (Ok x) = true
is_there (Err r) = false

-- the bytes of a table or a block
unfoldable pub linked_bytes : List ℕ → ℕ → List ℕ
linked_bytes s ref = bytes_at s (linked_at s ref)

-- a table: the reference of the next one, then those of its blocks
abbrev pub next_table : List ℕ → ℕ
next_table t = be 2 t 0

abbrev pub block_ref : List ℕ → ℕ → ℕ
block_ref t entry = be 2 t (2 + 2 * entry)

-- the reference that the table with a reference names next
abbrev pub next_of : List ℕ → ℕ → ℕ
next_of s ref = next_table (linked_bytes s ref)

-- the table k links after the one with a reference, and the first k tables from that one on
abbrev pub table_after : List ℕ → ℕ → ℕ → ℕ
table_after s k ref = link_after (next_of s) k ref

abbrev pub tables_after : List ℕ → ℕ → ℕ → List ℕ
tables_after s k ref = links_after (next_of s) k ref

-- the number of the first rule that a table or block breaks of which so many bytes are needed, 0 where it breaks none: one number where it is
-- not there, another where it is too short
unfoldable pub link_fault : List ℕ → ℕ → ℕ → ℕ → ℕ → ℕ
link_fault s ref count absent short =
    must (is_there (linked_at s ref)) absent
    (must (leb count (length (linked_bytes s ref))) short 0)

-- a table, after the tables before it: it comes twice, it is not there, it has not all its entries
unfoldable pub table_fault : List ℕ → Description → List ℕ → ℕ → ℕ
table_fault s d before ref = must (not (any (eqb ref) before)) TABLE_LOOP (link_fault s ref (2 + 2 * d.entries) NO_TABLE SHORT_TABLE)

-- a block was never written: its reference is 0, where the record is sparse
abbrev pub never_written : Bool → ℕ → Bool
never_written sparse ref = sparse && eqb ref 0

-- a block of which so many bytes are taken
unfoldable pub linked_block_fault : List ℕ → Bool → ℕ → ℕ → ℕ
linked_block_fault s sparse ref count = elim (never_written sparse ref) [ true ↦ 0 | false ↦ link_fault s ref count NO_BLOCK SHORT_BLOCK ]

-- what a block gives of which so many bytes are taken: one that was never written reads as zeros
unfoldable pub block_bytes : List ℕ → Bool → ℕ → ℕ → List ℕ
block_bytes s sparse ref count = elim (never_written sparse ref) [ true ↦ replicate count 0 | false ↦ take count (linked_bytes s ref) ]
