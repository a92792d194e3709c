-- What is known of slots that clash with none before them, so that they need not be compared. Assumes nothing.
use Rattle.std.specs.Prelude.{ℕ, ◌+◌, ◌*◌, ◌/◌, ◌%◌, ◌<◌, ◌≤◌, ◌≡◌, Bool, true, false, ◌⊎◌, List, ◌++◌, length, get_or}
use Rattle.answer.specs.Search.{any, In}
use Rattle.marks.specs.Marks.{marked}
use Rattle.directory.specs.Limits.{lone_tag}
use Rattle.directory.specs.Blocks.{slot_count}
use Rattle.directory.specs.Slots.{tag_at, ref_at, base_tag, clash, rows}
use Rattle.directory.specs.Rules.{Live}
use Rattle.directory.specs.Links.{slots_after, block_after}
use Rattle.directory.specs.Steps.Keys.{mark_by, mark_at}
use Rattle.directory.specs.declared.key.Key.{Key}

-- ---- The slots before one

-- slot i of block k
abbrev pub slot_at : List ℕ → ℕ → ℕ → ℕ
slot_at s k i = block_after s k 4 + 6 + 12 * i

-- the slots before it
abbrev pub earlier_of : List ℕ → ℕ → ℕ → List ℕ
earlier_of s k i = slots_after s k 4 ++ rows (block_after s k 4 + 6) i

-- it clashes with none of them
abbrev pub Alone : List ℕ → ℕ → ℕ → Type 0
Alone s k i = any (clash s (slot_at s k i)) (earlier_of s k i) ≡ false

-- of the first n slots of block k, each that is live, has no tag that stands alone and is sure clashes with none before it
abbrev pub Spares : List ℕ → ℕ → ℕ → (ℕ → Type 0) → Type 0
Spares s k n Sure =
    (i : ℕ) → i < n → Live s (slot_at s k i) → (base_tag (tag_at s (slot_at s k i)) ≡ lone_tag → ⊥) → Sure (slot_at s k i) → Alone s k i

-- the same of all slots of so many blocks
abbrev pub SparesAll : List ℕ → ℕ → (ℕ → Type 0) → Type 0
SparesAll s blocks Sure = (k : ℕ) → k < blocks → Spares s k (slot_count s (block_after s k 4)) Sure

-- no mark is taken back
abbrev pub Keeps : List ℕ → List ℕ → Type 0
Keeps before after = (n : ℕ) → marked before n ≡ true → marked after n ≡ true

-- ---- The highest references so far, by buckets of base tags

-- the highest reference of the bucket of the slot at p
abbrev pub highest_for : List ℕ → List ℕ → ℕ → ℕ
highest_for s highest p = get_or highest (base_tag (tag_at s p) % 127) 0

-- with a key more
pub record Raised (k : Key) (highest after : List ℕ) (below : Bool) : Type 0 where
  pub long : length after ≡ 127
  pub kept : (n : ℕ) → get_or highest n 0 ≤ get_or after n 0
  pub reached : k.reference ≤ get_or after (k.kind % 127) 0
  pub above : below ≡ true → get_or highest (k.kind % 127) 0 < k.reference

-- no live slot before slot i of block k has a reference above the highest of its bucket
pub record Below (s : List ℕ) (k i : ℕ) (highest : List ℕ) : Type 0 where
  pub long : length highest ≡ 127
  pub most : (q : ℕ) → In q (earlier_of s k i) → Live s q → ref_at s q ≤ highest_for s highest q

-- the window of a slot's mark is none of those that are marked
abbrev pub Calm : List ℕ → List ℕ → ℕ → Type 0
Calm s windows p = marked windows (mark_at s p / 2048) ≡ false

-- with the slot at p
pub record SuspectedAt (s : List ℕ) (p : ℕ) (highest highest_after windows windows_after : List ℕ) : Type 0 where
  pub long : length highest_after ≡ 127
  pub kept : (n : ℕ) → get_or highest n 0 ≤ get_or highest_after n 0
  pub reached : Live s p → ref_at s p ≤ highest_for s highest_after p
  pub wide : length windows_after ≡ 1
  pub keeps : Keeps windows windows_after
  pub sure : Live s p → Calm s windows_after p → highest_for s highest p < ref_at s p

-- with the slots of block k
pub record Suspected (s : List ℕ) (k : ℕ) (highest windows windows_after : List ℕ) : Type 0 where
  pub below : Below s (k + 1) 0 highest
  pub wide : length windows_after ≡ 1
  pub keeps : Keeps windows windows_after
  pub spares : Spares s k (slot_count s (block_after s k 4)) (Calm s windows_after)

-- with the slots of all blocks
pub record Unsuspected (s : List ℕ) (blocks : ℕ) (windows : List ℕ) : Type 0 where
  pub wide : length windows ≡ 1
  pub spares : SparesAll s blocks (Calm s windows)

-- ---- The marks of a window

-- the mark of every live slot before slot i of block k that is in the window is set
pub record Seen (s : List ℕ) (k i window : ℕ) (seen : List ℕ) : Type 0 where
  pub long : length seen ≡ 32
  pub set : (q : ℕ) → In q (earlier_of s k i) → Live s q → mark_at s q / 2048 ≡ window → marked seen (mark_at s q % 2048) ≡ true

-- a slot's mark is in the window, and it is not doubted
abbrev pub Clear : List ℕ → ℕ → List ℕ → ℕ → Type 0
Clear s window doubts p = (mark_at s p / 2048 ≡ window) × (marked doubts (mark_at s p % 512) ≡ false)

-- with the slot at p, of which something else may be sure
pub record NotedAt (s : List ℕ) (p window : ℕ) (seen seen_after doubts doubts_after : List ℕ) (Sure : Type 0) : Type 0 where
  pub long : length seen_after ≡ 32
  pub kept : Keeps seen seen_after
  pub reached : Live s p → mark_at s p / 2048 ≡ window → marked seen_after (mark_at s p % 2048) ≡ true
  pub wide : length doubts_after ≡ 8
  pub keeps : Keeps doubts doubts_after
  pub sure : Live s p → Clear s window doubts_after p → (marked seen (mark_at s p % 2048) ≡ false) ⊎ Sure

-- with the slots of block k
pub record Noted (s : List ℕ) (k window : ℕ) (seen doubts doubts_after : List ℕ) : Type 0 where
  pub sees : Seen s (k + 1) 0 window seen
  pub wide : length doubts_after ≡ 8
  pub keeps : Keeps doubts doubts_after
  pub spares : Spares s k (slot_count s (block_after s k 4)) (Clear s window doubts_after)

-- with the slots of all blocks
pub record Settled (s : List ℕ) (blocks window : ℕ) (doubts doubts_after : List ℕ) : Type 0 where
  pub wide : length doubts_after ≡ 8
  pub keeps : Keeps doubts doubts_after
  pub spares : SparesAll s blocks (Clear s window doubts_after)

-- ---- Doubts

-- a slot that is not doubted clashes with none before it
abbrev pub Sound : List ℕ → ℕ → List ℕ → Type 0
Sound s blocks doubts = SparesAll s blocks (λ p. marked doubts (mark_at s p % 512) ≡ false)

abbrev pub Undoubted : List ℕ → Key → Type 0
Undoubted doubts k = marked doubts (mark_by k.kind k.reference % 512) ≡ false
