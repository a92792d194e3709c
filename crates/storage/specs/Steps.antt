-- What the functions behind the calls take and leave. Assumes nothing.
use Rattle.std.specs.Prelude.{ℕ, ◌*◌, ◌%◌, ◌<◌, ◌≤◌, ◌≡◌, List, Bool, true, not, length, eqb, Option, Some, None, IfSome, Result, Ok, Err}
use Rattle.std.specs.Borrow.{Bor}
use Rattle.answer.specs.Refusals.{TABLE_LOOP, number_of}
use Rattle.answer.specs.declared.refusals.Rule.{Rule}
use Rattle.answer.specs.Search.{must, Hit, hit, miss}
use Rattle.wire.specs.Numbers.{put}
use Rattle.marks.specs.Marks.{marked}
use Rattle.directory.specs.Lookup.{find}
use Rattle.directory.specs.Steps.Cursors.{most_place}
use Rattle.storage.specs.Limits.{linked_tag, most_tables}
use Rattle.storage.specs.Descriptions.{description_of}
use Rattle.storage.specs.Tables.{linked_bytes, table_after, tables_after, table_fault, linked_block_fault, block_bytes}
use Rattle.storage.specs.Walks.{Walk}
use Rattle.storage.specs.declared.description.Description.{Description}
use Rattle.storage.specs.declared.linked.Broken.{Broken}

-- the slot that a search found, if it found one
abbrev pub found_at : Option ℕ → Hit
found_at (Some p) = hit p
found_at None = miss

-- the slot of the table or block with a reference that is not 0
pub record Sought (s : List ℕ) (ref : ℕ) (r : Option ℕ) : Type 0 where
  pub finds : found_at r ≡ find s linked_tag ref
  pub low : IfSome r (λ p. p ≤ most_place)

-- the fields of a record are numbers of 32 bits
pub record InRange (d : Description) : Type 0 where
  pub length : d.length < 4294967296
  pub entries : d.entries < 4294967296

pub record Describes (s r : List ℕ) (d : Description) : Type 0 where
  pub is : d ≡ description_of s r
  pub small : InRange d

-- a table or block of which so many bytes are needed, looked up: its bytes, or the first rule that it breaks
abbrev pub LookedUp : List ℕ → ℕ → ℕ → ℕ → Result (Bor (List ℕ)) Rule → Type 0
LookedUp s ref fault needed (Ok x) = (fault ≡ 0) × (x.now ≡ linked_bytes s ref) × (needed ≤ length x.now)
LookedUp s ref fault needed (Err r) = fault ≡ number_of r

-- the number of the first rule that the table with a reference breaks, after so many others: also that it is one too many
abbrev pub next_fault : List ℕ → Description → ℕ → ℕ → ℕ
next_fault s d count ref = must (not (eqb count most_tables)) TABLE_LOOP (table_fault s d (tables_after s count d.table) ref)

-- each of the first tables has set the mark of its reference
pub record Marked (s : List ℕ) (first count : ℕ) (marks : List ℕ) : Type 0 where
  pub long : length marks ≡ 4
  pub set : (i : ℕ) → i < count → marked marks (table_after s i first % 251) ≡ true

-- a block with a reference: what it gives is put to a place, or the first rule that it breaks
abbrev pub Gave : List ℕ → Bool → ℕ → ℕ → ℕ → List ℕ → List ℕ → Result Unit Rule → Type 0
Gave s sparse ref count at out after (Ok x) = (linked_block_fault s sparse ref count ≡ 0) × (after ≡ put out at (block_bytes s sparse ref count))
Gave s sparse ref count at out after (Err r) = (linked_block_fault s sparse ref count ≡ number_of r) × (after ≡ out)

-- where a walk stands: at the block of an index, with so many bytes left
pub record Reached (d : Description) (index left : ℕ) : Type 0 where
  pub low : index ≤ 256 * 4294967296
  pub less : left ≤ d.length

-- the first fault of a walk, as it is told
abbrev pub BreaksAt : Walk → Broken → Type 0
BreaksAt w b = (w.fault ≡ number_of b.rule) × (w.index ≡ b.index)

-- a walk whose bytes go to the buffer, from a place on: how many are left, or its first fault
abbrev pub Took : Walk → ℕ → List ℕ → List ℕ → Result ℕ Broken → Type 0
Took w at out after (Ok left) = (w.fault ≡ 0) × (w.left ≡ left) × (after ≡ put out at w.bytes)
Took w at out after (Err b) = BreaksAt w b × (after ≡ put out at w.bytes)

-- the whole walk of a chain
abbrev pub Followed : Walk → List ℕ → List ℕ → Result Unit Broken → Type 0
Followed w out after (Ok x) = (w.fault ≡ 0) × (after ≡ put out 0 w.bytes)
Followed w out after (Err b) = BreaksAt w b × (after ≡ put out 0 w.bytes)
