-- What it is for the bytes of an element in linked blocks to come from its tables and the blocks that they name, after document 01,
-- "Reading elements", and request (iii) of document 02. Assumes nothing.
use Rattle.std.specs.Prelude.{ℕ, zero, suc, ◌+◌, ◌*◌, ◌-◌, ◌<◌, ◌≤◌, ◌≡◌, List, [], ◌∷◌, ◌++◌, Bool, true, ◌⊎◌, length}
use Rattle.answer.specs.Search.{In, Pairwise}
use Rattle.storage.specs.Limits.{most_tables}
use Rattle.storage.specs.Tables.{linked_at, is_there, linked_bytes, next_table, block_ref, never_written, block_bytes}
use Rattle.storage.specs.Walks.{share}
use Rattle.storage.specs.declared.description.Description.{Description}

-- the references of the blocks that k entries of a table name, from an entry on
unfoldable pub entries_of : List ℕ → ℕ → ℕ → List ℕ
entries_of t zero entry = []
entries_of t (suc k) entry = block_ref t entry ∷ entries_of t k (entry + 1)

-- the references of the blocks that tables name, in order
unfoldable pub block_refs : List ℕ → Description → List ℕ → List ℕ
block_refs s d [] = []
block_refs s d (t ∷ ts) = entries_of (linked_bytes s t) d.entries 0 ++ block_refs s d ts

-- what blocks give, one after the other, of which the first has an index, where so many bytes are left; once none are left a block gives none
unfoldable pub given : List ℕ → Description → ℕ → ℕ → List ℕ → List ℕ
given s d index left [] = []
given s d index left (b ∷ bs) = block_bytes s d.sparse b (share d index left) ++ given s d (index + 1) (left - share d index left) bs

-- how many bytes are left after blocks
unfoldable pub left_after : Description → ℕ → ℕ → List ℕ → ℕ
left_after d index left [] = left
left_after d index left (b ∷ bs) = left_after d (index + 1) (left - share d index left) bs

-- a block was never written, or is there and has the bytes that are taken of it
abbrev pub Holds : List ℕ → Bool → ℕ → ℕ → Type 0
Holds s sparse b count = (never_written sparse b ≡ true) ⊎ ((is_there (linked_at s b) ≡ true) × (count ≤ length (linked_bytes s b)))

-- and so is every block of which bytes are taken
abbrev pub Sound : List ℕ → Description → ℕ → ℕ → List ℕ → Type 0
Sound s d index left [] = Unit {0}
Sound s d index left (b ∷ bs) = (0 < left → Holds s d.sparse b (share d index left)) × Sound s d (index + 1) (left - share d index left) bs

-- the first of the tables has a reference, and each names the next
abbrev pub Chained : List ℕ → ℕ → List ℕ → Type 0
Chained s ref [] = Unit {0}
Chained s ref (t ∷ ts) = (t ≡ ref) × Chained s (next_table (linked_bytes s t)) ts

-- tables that a record leads to
pub record TablesOf (s : List ℕ) (d : Description) (tables : List ℕ) : Type 0 where
  pub chained : Chained s d.table tables
  pub few : length tables ≤ most_tables
  pub distinct : Pairwise (λ t u. t ≡ u → ⊥) tables
  pub whole : (t : ℕ) → In t tables → 2 + 2 * d.entries ≤ length (linked_bytes s t)

-- tables that a record leads to, whose blocks give all its bytes
pub record Complete (s : List ℕ) (d : Description) (tables : List ℕ) : Type 0 where
  pub tables_of : TablesOf s d tables
  pub sound : Sound s d 0 d.length (block_refs s d tables)
  pub all : left_after d 0 d.length (block_refs s d tables) ≡ 0
