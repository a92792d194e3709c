-- The rules of an element in linked blocks as facts about its record and about its tables and blocks, each by its index, without a walk, after
-- document 01, "Reading elements", and requests (i), (iii) and (vii) of document 02. The numbers are the papers' own. Assumes nothing.
use Rattle.std.specs.Prelude.{ℕ, zero, suc, ◌+◌, ◌*◌, ◌-◌, ◌/◌, ◌%◌, ◌<◌, ◌≤◌, ◌≡◌, ◌⊎◌, List, true, false, length, eqb}
use Rattle.answer.specs.Rules.{Rules, done, rule, followed}
use Rattle.wire.specs.Numbers.{be}
use Rattle.directory.specs.Slots.{size_at}
use Rattle.directory.specs.Rules.{IsStored}
use Rattle.directory.specs.Named.{Named}
use Rattle.storage.specs.Elements.{extended_at}
use Rattle.storage.specs.Tables.{linked_bytes, block_ref, table_after}
use Rattle.storage.specs.Descriptions.{record_length}
use Rattle.storage.specs.Walks.{share}
use Rattle.storage.specs.declared.description.Description.{Description}

-- ---- The record

-- the rules of a record at its slot in the order in which they are judged. 16 bytes: the kind is 1, the length of a block and the blocks of a
-- table are not 0
abbrev pub sparse_rules : List ℕ → ℕ → Rules
sparse_rules r p =
    rule 12 p (be 2 r 0 ≡ 1)
    (rule 13 p (1 ≤ be 4 r 6)
    (rule 13 p (1 ≤ be 4 r 10)
    done))

-- 22 bytes: the kind is 1, first_len, blk_len and num_blk are not 0
abbrev pub full_rules : List ℕ → ℕ → Rules
full_rules r p =
    rule 12 p (be 4 r 0 ≡ 1)
    (rule 13 p (1 ≤ be 4 r 8)
    (rule 13 p (1 ≤ be 4 r 12)
    (rule 13 p (1 ≤ be 4 r 16)
    done)))

-- any other length: the kind is there, it is 1 in 16 or in 32 bits, and then the length is wrong
abbrev pub other_rules : List ℕ → ℕ → Rules
other_rules r p =
    rule 13 p (4 ≤ length r)
    (rule 12 p ((be 2 r 0 ≡ 1) ⊎ (be 4 r 0 ≡ 1))
    (rule 13 p ⊥
    done))

unfoldable pub record_rules : List ℕ → ℕ → Rules
record_rules r p =
    elim (eqb (length r) 16) [
      | true ↦ sparse_rules r p
      | false ↦ elim (eqb (length r) 22) [ true ↦ full_rules r p | false ↦ other_rules r p ]
    ]

-- then the buffer has room for as many bytes as the record says
abbrev pub copy_rules : List ℕ → ℕ → ℕ → Rules
copy_rules r p room = followed (record_rules r p) (rule 14 0 (record_length r ≤ room) done)

-- ---- Tables and blocks by their index

-- the reference of table i: the record names the first, and each table the next
abbrev pub table_at : List ℕ → Description → ℕ → ℕ
table_at s d i = table_after s i d.table

-- the reference of block j, counted through the whole element: so many a table
abbrev pub block_at : List ℕ → Description → ℕ → ℕ
block_at s d j = block_ref (linked_bytes s (table_at s d (j / d.entries))) (j % d.entries)

-- how many of the element's bytes the blocks before block j hold
unfoldable pub bytes_before : Description → ℕ → ℕ
bytes_before d zero = 0
bytes_before d (suc j) = d.first + j * d.block

-- bytes are still missing where block j begins
abbrev pub Needed : Description → ℕ → Type 0
Needed d j = bytes_before d j < d.length

-- how many are taken of it
abbrev pub taken : Description → ℕ → ℕ
taken d j = share d j (d.length - bytes_before d j)

-- ---- Sound ones

-- the slot at p has the table or block with a reference: tag 20, stored, in plain storage; 0 is no reference of one
pub record LinkSlot (s : List ℕ) (ref p : ℕ) : Type 0 where
  pub named : Named s 20 ref p
  pub stored : IsStored s p
  pub plain : extended_at s p ≡ false
  pub not_zero : ref ≡ 0 → ⊥

-- table i is no 257th, and none of those before it
pub record New (s : List ℕ) (d : Description) (i : ℕ) : Type 0 where
  pub few : i < 256
  pub once : (k : ℕ) → k < i → table_at s d k ≡ table_at s d i → ⊥

-- it is there, and has all its entries
pub record SoundTable (s : List ℕ) (d : Description) (i : ℕ) : Type 0 where
  pub new : New s d i
  pub slot : ℕ
  pub linked : LinkSlot s (table_at s d i) slot
  pub whole : 2 + 2 * d.entries ≤ size_at s slot

-- block j is there, and has the bytes that are taken of it
pub record StoredBlock (s : List ℕ) (d : Description) (j : ℕ) : Type 0 where
  pub slot : ℕ
  pub linked : LinkSlot s (block_at s d j) slot
  pub long : taken d j ≤ size_at s slot

-- it was never written: its reference is 0, where the record is sparse
pub record Unwritten (s : List ℕ) (d : Description) (j : ℕ) : Type 0 where
  pub allowed : d.sparse ≡ true
  pub none : block_at s d j ≡ 0

abbrev pub SoundBlock : List ℕ → Description → ℕ → Type 0
SoundBlock s d j = StoredBlock s d j ⊎ Unwritten s d j

-- every table and block of which bytes are needed is sound
pub record Unbroken (s : List ℕ) (d : Description) : Type 0 where
  pub tables : (i : ℕ) → Needed d (i * d.entries) → SoundTable s d i
  pub blocks : (j : ℕ) → Needed d j → SoundBlock s d j

-- ---- The first that is not

-- table i is needed, and every table and block before it is sound
pub record ReachesTable (s : List ℕ) (d : Description) (i : ℕ) : Type 0 where
  pub needed : Needed d (i * d.entries)
  pub tables : (k : ℕ) → k < i → SoundTable s d k
  pub blocks : (k : ℕ) → k < i * d.entries → SoundBlock s d k

-- block j is needed, and every block before it is sound and every table up to its own
pub record ReachesBlock (s : List ℕ) (d : Description) (j : ℕ) : Type 0 where
  pub needed : Needed d j
  pub tables : (k : ℕ) → k * d.entries ≤ j → SoundTable s d k
  pub blocks : (k : ℕ) → k < j → SoundBlock s d k

-- 27: table i is a 257th, or one of those before it
pub record TableLoop (s : List ℕ) (d : Description) (i : ℕ) : Type 0 where
  pub reached : ReachesTable s d i
  pub again : (i ≡ 256) ⊎ ((k : ℕ) × (k < i) × (table_at s d k ≡ table_at s d i))

-- 23: it is not there
pub record NoTable (s : List ℕ) (d : Description) (i : ℕ) : Type 0 where
  pub reached : ReachesTable s d i
  pub new : New s d i
  pub missing : (p : ℕ) → LinkSlot s (table_at s d i) p → ⊥

-- 24: it has not all its entries
pub record ShortTable (s : List ℕ) (d : Description) (i : ℕ) : Type 0 where
  pub reached : ReachesTable s d i
  pub new : New s d i
  pub slot : ℕ
  pub linked : LinkSlot s (table_at s d i) slot
  pub short : size_at s slot < 2 + 2 * d.entries

-- 25: block j is not there, and not by being never written
pub record NoBlock (s : List ℕ) (d : Description) (j : ℕ) : Type 0 where
  pub reached : ReachesBlock s d j
  pub meant : Unwritten s d j → ⊥
  pub missing : (p : ℕ) → LinkSlot s (block_at s d j) p → ⊥

-- 26: it has not the bytes that are taken of it
pub record ShortBlock (s : List ℕ) (d : Description) (j : ℕ) : Type 0 where
  pub reached : ReachesBlock s d j
  pub slot : ℕ
  pub linked : LinkSlot s (block_at s d j) slot
  pub short : size_at s slot < taken d j

-- a number and an index: which rule is the first that a table or a block breaks, and which one does
pub data Broken (s : List ℕ) (d : Description) (n x : ℕ) : Type 0 where
  no_table : n ≡ 23 → NoTable s d x → Broken s d n x
  short_table : n ≡ 24 → ShortTable s d x → Broken s d n x
  no_block : n ≡ 25 → NoBlock s d x → Broken s d n x
  short_block : n ≡ 26 → ShortBlock s d x → Broken s d n x
  table_loop : n ≡ 27 → TableLoop s d x → Broken s d n x
