-- The base tag and the reference of a slot as its key, and what a slot is compared by. Assumes nothing.
use Rattle.std.specs.Prelude.{ℕ, ◌+◌, ◌*◌, ◌%◌, ◌<◌, ◌≡◌, Bool, ◌||◌, List, eqb}
use Rattle.wire.specs.Numbers.{be}
use Rattle.directory.specs.Limits.{free_tag}
use Rattle.directory.specs.Slots.{tag_at, ref_at, base_tag}
use Rattle.directory.specs.declared.key.Key.{Key}

-- the key of the slot at p
pub record Keyed (s : List ℕ) (p : ℕ) (k : Key) : Type 0 where
  pub kind : k.kind ≡ base_tag (tag_at s p)
  pub reference : k.reference ≡ ref_at s p
  pub low : k.kind < 65536
  pub small : k.reference < 65536

-- the base tag is not that of a free slot
abbrev pub Based : List ℕ → ℕ → Type 0
Based s p = base_tag (tag_at s p) ≡ free_tag → ⊥

-- the mark of a base tag and a reference: of one base tag, each reference has its own
unfoldable pub mark_by : ℕ → ℕ → ℕ
mark_by kind reference = (kind % 16384 * 40503 + reference) % 65536

abbrev pub mark_at : List ℕ → ℕ → ℕ
mark_at s p = mark_by (base_tag (tag_at s p)) (ref_at s p)

-- the first four bytes of the slot at q are one of two numbers
abbrev pub is_either : List ℕ → ℕ → ℕ → ℕ → Bool
is_either s plain extended q = eqb (be 4 s q) plain || eqb (be 4 s q) extended
