-- What a listing of a group lists and what it asks, as facts, after document 01, "Records". The numbers are the paper's own. Assumes nothing.
use Rattle.std.specs.Prelude.{ℕ, zero, suc, ◌+◌, ◌*◌, ◌-◌, ◌/◌, ◌<◌, ◌≤◌, ◌≡◌, ◌⊎◌, List, [], ◌∷◌, ◌++◌, true, false, length, eqb}
use Rattle.answer.specs.Search.{In}
use Rattle.answer.specs.Rules.{Rules, done, rule, AllHold, FirstBroken}
use Rattle.directory.specs.Lookup.{find}
use Rattle.directory.specs.Rules.{Unstored}
use Rattle.directory.specs.Named.{Named}
use Rattle.records.specs.Readings.{record_bytes}
use Rattle.records.specs.RecordRules.{slot_in}
use Rattle.vgroup.specs.Groups.{group_members}
use Rattle.vgroup.specs.GroupRules.{group_rules}

-- tag and reference of each member of the group of a reference
abbrev pub members_of : List ℕ → ℕ → List ℕ
members_of s ref = group_members (record_bytes s (find s 1965 ref))

-- ---- What is listed

-- each pair in order, that of a group followed by what is below it
unfoldable pub followed : (ℕ → List ℕ) → List ℕ → List ℕ
followed inner [] = []
followed inner (tag ∷ []) = []
followed inner (tag ∷ ref ∷ rest) = tag ∷ ref ∷ (elim (eqb tag 1965) [ true ↦ inner ref | false ↦ [] ] ++ followed inner rest)

-- what is below the group of a reference, so many groups deep
unfoldable pub nested_in : ℕ → List ℕ → ℕ → List ℕ
nested_in zero s ref = []
nested_in (suc more) s ref = followed (nested_in more s) (members_of s ref)

-- members, and what is below the groups among them, so many groups deep
abbrev pub flat : ℕ → List ℕ → List ℕ → List ℕ
flat more s members = followed (nested_in more s) members

-- all that is listed of the named group: 16 groups deep, itself included
abbrev pub listed_of : List ℕ → ℕ → List ℕ
listed_of s ref = flat (16 - 1) s (members_of s ref)

-- ---- What is asked of a group

abbrev pub SoundGroup : List ℕ → ℕ → Type 0
SoundGroup s ref = AllHold (group_rules s (find s 1965 ref))

-- ---- What is asked of the groups below it

-- tag and reference are those of a member
abbrev pub Member : ℕ → ℕ → List ℕ → Type 0
Member tag ref [] = ⊥
Member tag ref (x ∷ []) = ⊥
Member tag ref (x ∷ y ∷ rest) = ((tag ≡ x) × (ref ≡ y)) ⊎ Member tag ref rest

-- references of groups: the first is one of the members, and each later one is a member of the one before it
abbrev pub Down : List ℕ → List ℕ → List ℕ → Type 0
Down s members [] = Unit {0}
Down s members (ref ∷ refs) = Member 1965 ref members × Down s (members_of s ref) refs

-- no more than so many lead down one from the other, and each of them is sound
abbrev pub AllSound : ℕ → List ℕ → List ℕ → Type 0
AllSound more s members = (refs : List ℕ) → Down s members refs → (length refs ≤ more) × ((ref : ℕ) → In ref refs → SoundGroup s ref)

-- a table of so many numbers has place for so many pairs, and they are not too many
abbrev pub HasPlace : ℕ → ℕ → Type 0
HasPlace room pairs = (pairs ≤ room / 2) × (pairs ≤ 4096)

-- all that a listing asks of an image that opens: a sound group, sound groups below it, 16 with it, and place for all that is listed
pub record Listable (s : List ℕ) (ref room : ℕ) : Type 0 where
  pub named : SoundGroup s ref
  pub nested : AllSound (16 - 1) s (members_of s ref)
  pub placed : HasPlace room (length (listed_of s ref) / 2)

-- ---- The first fault

-- rules that are judged only where something applies
abbrev pub when : Type 0 → Rules → Rules
when Applies done = done
when Applies (rule number place Holds rest) = rule number place (Applies → Holds) (when Applies rest)

-- a pair that is a member: the slot of the group that has it, and how many groups may be nested in that one
pub record Pair : Type 0 where
  pub tag : ℕ
  pub ref : ℕ
  pub holder : ℕ
  pub more : ℕ

-- that of a group: the depth, then the group's own rules
abbrev pub nested_rules : List ℕ → Pair → Rules
nested_rules s x = rule 22 x.holder (0 < x.more) (group_rules s (find s 1965 x.ref))

-- at a pair: the place for it, then, if it is of a group, the rules of that
abbrev pub pair_rules : List ℕ → Type 0 → Pair → Rules
pair_rules s Place x = rule 14 0 Place (when (x.tag ≡ 1965) (nested_rules s x))

-- the members are those before, whole pairs and sound with all that is below them, then a tag and a reference, then others
pub record Next (more : ℕ) (s members before : List ℕ) (tag ref : ℕ) : Type 0 where
  pub after : List ℕ
  pub parted : members ≡ before ++ (tag ∷ ref ∷ after)
  pub count : ℕ
  pub whole : length before ≡ 2 * count
  pub sound : AllSound more s before

-- listing members comes to the pair x after so many others: members of the group of a slot, in which so many groups may be nested
pub data Comes (s : List ℕ) (x : Pair) : ℕ → ℕ → List ℕ → ℕ → Type 0 where
  -- as one of these members
  member : {more holder pairs : ℕ} {members : List ℕ} (before : List ℕ) → Next more s members before x.tag x.ref
      → x.more ≡ more → x.holder ≡ holder → pairs ≡ length (flat more s before) / 2 → Comes s x more holder members pairs
  -- inside a sound group that is one of them
  inside : {more holder pairs : ℕ} {members : List ℕ} (before : List ℕ) (ref fewer inner : ℕ) → Next more s members before 1965 ref
      → more ≡ suc fewer → SoundGroup s ref → Comes s x fewer (slot_in (find s 1965 ref)) (members_of s ref) inner
      → pairs ≡ length (flat more s before) / 2 + 1 + inner → Comes s x more holder members pairs

-- a rule with this number and this place is the first that is broken at a pair, and those before it have their places
pub record AtPair (s : List ℕ) (ref room n p : ℕ) : Type 0 where
  pub pair : Pair
  pub pairs : ℕ
  pub comes : Comes s pair (16 - 1) (slot_in (find s 1965 ref)) (members_of s ref) pairs
  pub placed : HasPlace room pairs
  pub broken : FirstBroken (pair_rules s (HasPlace room (suc pairs)) pair) n p

-- the listing comes to a group that is named and not stored yet: those before it have their places, it has one too, and may be entered
pub record AtUnstored (s : List ℕ) (ref room p : ℕ) : Type 0 where
  pub pair : Pair
  pub pairs : ℕ
  pub comes : Comes s pair (16 - 1) (slot_in (find s 1965 ref)) (members_of s ref) pairs
  pub placed : HasPlace room (suc pairs)
  pub group : pair.tag ≡ 1965
  pub shallow : 0 < pair.more
  pub named : Named s 1965 pair.ref p
  pub unstored : Unstored s p

-- the first rule that is broken has this number and this place: one of the named group, else one at a pair
abbrev pub ListFault : List ℕ → ℕ → ℕ → ℕ → ℕ → Type 0
ListFault s ref room n p = FirstBroken (group_rules s (find s 1965 ref)) n p ⊎ (SoundGroup s ref × AtPair s ref room n p)
