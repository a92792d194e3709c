-- What opening asked of a live slot by document 01 alone, where the element of a slot with offset and length all ones ended past the image.
-- Request (vii) of document 02 lets such files open and is to change nothing else; the claims of that are about these definitions, and nothing
-- else uses them. Assumes nothing.
use Rattle.std.specs.Prelude.{ℕ, ◌⊎◌, List, true, false, eqb}
use Rattle.answer.specs.Search.{In}
use Rattle.answer.specs.Rules.{Rules, AllHold, OnlyBroken}
use Rattle.directory.specs.Slots.{tag_at, length_at, base_tag, slot_places}
use Rattle.directory.specs.Rules.{Live, Unstored}
use Rattle.directory.specs.Faults.{header_rules, sized_rules, Each, SlotsKeep, WholeChain, FaultyBy}

-- how many bytes an element had: as many as the last field of its slot says, but for the base tag that stands alone
unfoldable pub size_before : List ℕ → ℕ → ℕ
size_before s p = elim (eqb (base_tag (tag_at s p)) 107) [ true ↦ 0 | false ↦ length_at s p ]

abbrev pub rules_before : List ℕ → List ℕ → List ℕ → ℕ → Rules
rules_before s blocks before p = sized_rules (size_before s p) s blocks before p

-- the image opened, and its blocks stood at the places bs
abbrev pub OpenedBefore : List ℕ → List ℕ → Type 0
OpenedBefore s bs = AllHold (header_rules s) × WholeChain s bs × SlotsKeep (rules_before s bs) s (slot_places s bs)

-- it was refused with a number at a place
abbrev pub RefusedBefore : List ℕ → ℕ → ℕ → Type 0
RefusedBefore s n p = FaultyBy (rules_before s) s n p

-- a live slot kept the rules, or its element is named and not stored yet and 8 was its only fault
abbrev pub OnlyUnstored : List ℕ → List ℕ → List ℕ → ℕ → Type 0
OnlyUnstored s bs before p = AllHold (rules_before s bs before p) ⊎ (Unstored s p × OnlyBroken 8 (rules_before s bs before p))

-- the only faults of the image were 8 at such slots, and there is one
pub record UnstoredAlone (s bs : List ℕ) : Type 0 where
  pub header : AllHold (header_rules s)
  pub chain : WholeChain s bs
  pub slots : Each (λ before p. Live s p → OnlyUnstored s bs before p) (slot_places s bs)
  pub slot : ℕ
  pub there : In slot (slot_places s bs)
  pub live : Live s slot
  pub unstored : Unstored s slot
