-- The rules of opening in the order in which they are judged, as facts about the bytes, after document 01, "Directory", and request (vii) of
-- document 02. The numbers are the papers' own. Assumes nothing.
use Rattle.std.specs.Prelude.{ℕ, ◌+◌, ◌*◌, ◌<◌, ◌≤◌, ◌≡◌, ◌⊎◌, List, [], ◌∷◌, ◌++◌, length, get_or}
use Rattle.answer.specs.Search.{In}
use Rattle.answer.specs.Rules.{Rules, done, rule, AllHold, FirstBroken}
use Rattle.wire.specs.Numbers.{be}
use Rattle.directory.specs.Blocks.{slot_count, next_block, block_end}
use Rattle.directory.specs.Slots.{tag_at, offset_at, base_tag, size_at, slot_places}
use Rattle.directory.specs.Opening.{open_of}
use Rattle.directory.specs.Rules.{Apart, Linked, Live, Clashing}

-- ---- Rules

-- the length, then the first bytes
abbrev pub header_rules : List ℕ → Rules
header_rules s =
    rule 1 0 (length s ≤ 2147483647)
    (rule 2 0 ((4 ≤ length s) × (be 4 s 0 ≡ 0x0e031301))
    done)

-- a block, after those before it: no loop, the number of blocks, its header, the number of slots, all of it, off header and blocks
abbrev pub block_rules : List ℕ → List ℕ → ℕ → Rules
block_rules s before b =
    rule 4 b (In b before → ⊥)
    (rule 6 b (length before < 256)
    (rule 3 b (b + 6 ≤ length s)
    (rule 6 b (length (slot_places s before) + slot_count s b ≤ 4096)
    (rule 3 b (b + 6 + 12 * slot_count s b ≤ length s)
    (rule 5 b ((4 ≤ b) × ((c : ℕ) → In c before → Apart b (block_end s b) c (block_end s c)))
    done)))))

-- a live slot whose element has so many bytes, after those before it: its tag, its element inside the image and off the directory, no live slot
-- before it that clashes
abbrev pub sized_rules : ℕ → List ℕ → List ℕ → List ℕ → ℕ → Rules
sized_rules size s blocks before p =
    let end = offset_at s p + size in
    rule 7 p ((base_tag (tag_at s p) ≡ 0 → ⊥) × (tag_at s p ≡ 16385 → ⊥))
    (rule 8 p (0 < size → end ≤ length s)
    (rule 9 p (0 < size → (4 ≤ offset_at s p) × ((b : ℕ) → In b blocks → Apart (offset_at s p) end b (block_end s b)))
    (rule 10 p ((q : ℕ) → In q before → Live s q → Clashing s p q → ⊥)
    done)))

abbrev pub slot_rules : List ℕ → List ℕ → List ℕ → ℕ → Rules
slot_rules s blocks before p = sized_rules (size_at s p) s blocks before p

-- every call on an image opens it first: opening's number and place where it does not open, then the call's own rules
abbrev pub opened_rules : List ℕ → Rules → Rules
opened_rules s rest = rule (open_of s).number (open_of s).place ((open_of s).number ≡ 0) rest

-- ---- Where they are judged

-- something holds of each of a list, after those before it
abbrev pub Each : (List ℕ → ℕ → Type 0) → List ℕ → Type 0
Each Holds l = (before : List ℕ) (x : ℕ) (after : List ℕ) → l ≡ before ++ (x ∷ after) → Holds before x

abbrev pub BlocksHold : List ℕ → List ℕ → Type 0
BlocksHold s bs = Each (λ before b. AllHold (block_rules s before b)) bs

-- live slots keep rules, each after those before it
abbrev pub SlotsKeep : (List ℕ → ℕ → Rules) → List ℕ → List ℕ → Type 0
SlotsKeep rules s ps = Each (λ before p. Live s p → AllHold (rules before p)) ps

abbrev pub SlotsHold : List ℕ → List ℕ → List ℕ → Type 0
SlotsHold s blocks ps = SlotsKeep (slot_rules s blocks) s ps

-- the links lead from the block at b through the blocks cs to the one at a place
abbrev pub Leads : List ℕ → ℕ → List ℕ → ℕ → Type 0
Leads s b [] at = b ≡ at
Leads s b (c ∷ cs) at = (b ≡ c) × (next_block s c ≡ 0 → ⊥) × Leads s (next_block s c) cs at

-- the whole chain is sound, and its blocks stand at the places bs
abbrev pub WholeChain : List ℕ → List ℕ → Type 0
WholeChain s bs = (get_or bs 0 0 ≡ 4) × Linked s bs × BlocksHold s bs

-- ---- The first fault

-- at a block to which the chain leads through blocks that keep the rules
abbrev pub AtBlock : List ℕ → ℕ → ℕ → Type 0
AtBlock s n p = (before : List ℕ) × Leads s 4 before p × BlocksHold s before × FirstBroken (block_rules s before p) n p

-- at a live slot, by the rules of slots, where the whole chain is sound and every live slot before it keeps the rules
abbrev pub AtSlot : (List ℕ → List ℕ → ℕ → Rules) → List ℕ → ℕ → ℕ → Type 0
AtSlot rules s n p =
    (bs : List ℕ) × WholeChain s bs
    × ((before : List ℕ) × (after : List ℕ) × (slot_places s bs ≡ before ++ (p ∷ after))
    × SlotsKeep (rules bs) s before × Live s p × FirstBroken (rules bs before p) n p)

abbrev pub FaultyBy : (List ℕ → List ℕ → ℕ → Rules) → List ℕ → ℕ → ℕ → Type 0
FaultyBy rules s n p = FirstBroken (header_rules s) n p ⊎ (AllHold (header_rules s) × (AtBlock s n p ⊎ AtSlot rules s n p))

-- the rule with this number is broken at this place, and nothing that is judged before it is
abbrev pub Faulty : List ℕ → ℕ → ℕ → Type 0
Faulty s n p = FaultyBy (slot_rules s) s n p
