-- Numbers that documents 01 and 02 fix for reading elements, each named once: linked blocks. Assumes nothing.
use Rattle.std.specs.Prelude.{ℕ}

-- the tag of tables and blocks
abbrev pub linked_tag : ℕ
linked_tag = 20

-- the kind of a record of linked blocks, and how many bytes a kind takes where the record is not sparse
abbrev pub linked_kind : ℕ
linked_kind = 1

abbrev pub kind_bytes : ℕ
kind_bytes = 4

-- the two layouts of a record, by its length: the sparse one, as the library writes it (request (iii)), and the full one of document 01
abbrev pub sparse_bytes : ℕ
sparse_bytes = 16

abbrev pub full_bytes : ℕ
full_bytes = 22

abbrev pub most_tables : ℕ
most_tables = 256
