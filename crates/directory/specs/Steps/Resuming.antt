-- A lookup that starts at a cursor, as where an earlier one ended, and goes round to the first slot. Assumes nothing.
use Rattle.std.specs.Prelude.{ℕ, ◌+◌, ◌*◌, List, [], ◌∷◌, Bool, true, false, not, ◌&&◌, leb, ltb, eqb}
use Rattle.answer.specs.Search.{Hit, hit, miss, In}
use Rattle.directory.specs.Lookup.{has}
use Rattle.directory.specs.Links.{slots_after}
use Rattle.directory.specs.Steps.Cursors.{ahead, most_place}
use Rattle.directory.specs.declared.cursor.Cursor.{Cursor}

-- a list from the first one on of which the test holds
unfoldable pub since : (ℕ → Bool) → List ℕ → List ℕ
since f [] = []
since f (x ∷ xs) = elim (f x) [ true ↦ x ∷ xs | false ↦ since f xs ]

-- a list, or another one where it is empty
abbrev pub or_else : List ℕ → List ℕ → List ℕ
or_else [] other = other
or_else (x ∷ xs) other = x ∷ xs

abbrev pub head_of : List ℕ → Hit
head_of [] = miss
head_of (x ∷ xs) = hit x

-- whether a cursor has a slot left, and its numbers are small enough to step on
unfoldable pub at_slot : Cursor → Bool
at_slot c = not (eqb c.left 0) && (leb (c.place + 12 * c.left) most_place && ltb c.next 4294967296)

-- the slots from a cursor on; none where it stands at none
unfoldable pub slots_hence : List ℕ → Cursor → List ℕ
slots_hence s from = elim (at_slot from) [ true ↦ ahead s from | false ↦ [] ]

-- the slots from the first one on that is live and has the base tag of a tag and a reference: of those from the cursor on, else of the whole chain
unfoldable pub resumed : List ℕ → ℕ → Cursor → ℕ → ℕ → List ℕ
resumed s blocks from tag ref = or_else (since (has s tag ref) (slots_hence s from)) (since (has s tag ref) (slots_after s blocks 4))

-- the slots ahead of a cursor are slots of a chain of so many blocks
abbrev pub OnChain : List ℕ → ℕ → Cursor → Type 0
OnChain s blocks c = (p : ℕ) → In p (ahead s c) → In p (slots_after s blocks 4)
