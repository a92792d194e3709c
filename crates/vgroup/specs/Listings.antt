-- Listing a Vgroup's members and those of the groups among them, after document 01, "Records". Assumes nothing.
use Rattle.std.specs.Prelude.{ℕ, zero, suc, ◌-◌, ◌/◌, min, List, [], ◌∷◌, ◌++◌, true, false, length, eqb, Result, Ok, Err}
use Rattle.answer.specs.Refusals.{SMALL, DEEP}
use Rattle.answer.specs.Search.{Hit}
use Rattle.answer.specs.declared.Refusal.{Refusal}
use Rattle.answer.specs.Answer.{Answer, grant, refusal, unless}
use Rattle.wire.specs.Numbers.{part}
use Rattle.directory.specs.Opening.{opened}
use Rattle.directory.specs.Lookup.{find}
use Rattle.records.specs.Readings.{Sound, sound, refused}
use Rattle.vgroup.specs.Limits.{group_tag, most_groups, most_pairs}
use Rattle.vgroup.specs.Groups.{group_members, sound_group}

-- what was listed, tag and reference of each pair, up to the first refusal; its number is 0 where there is none
pub record Listing : Type 0 where
  pub pairs : List ℕ
  pub number : ℕ
  pub place : ℕ

abbrev pub stopped : ℕ → ℕ → Listing
stopped number place = record { pairs = []; number = number; place = place }

abbrev pub pair : ℕ → ℕ → Listing → Listing
pair tag ref l = record { pairs = tag ∷ ref ∷ l.pairs; number = l.number; place = l.place }

-- one listing, then another unless the first was refused
unfoldable pub followed_by : Listing → Listing → Listing
followed_by first rest =
    elim first.number [
      | zero ↦ record { pairs = first.pairs ++ rest.pairs; number = rest.number; place = rest.place }
      | suc number ↦ first
    ]

-- members in order, with place for so many pairs. At each pair: 14; then the members of a group follow it, as nested lists them
unfoldable pub members_from : (ℕ → ℕ → Listing) → List ℕ → ℕ → Listing
members_from nested [] room = stopped 0 0
members_from nested (tag ∷ []) room = stopped 0 0
members_from nested (tag ∷ ref ∷ rest) zero = stopped SMALL 0
members_from nested (tag ∷ ref ∷ rest) (suc room) =
    pair tag ref
    (elim (eqb tag group_tag) [
      | false ↦ members_from nested rest room
      | true ↦ followed_by (nested ref room) (members_from nested rest (room - length (nested ref room).pairs / 2))
    ])

-- a group that is a member: refused, or what is listed inside it, by its slot and its bytes
abbrev pub entered : List ℕ → (ℕ → List ℕ → ℕ → Listing) → Sound → ℕ → Listing
entered s inside (refused n p) room = stopped n p
entered s inside (sound x) room = inside x.slot (part s x.offset x.length) room

-- a group that is a member of the one of the slot at p, where so many more may be entered: 22 where none, else 11, 12, 15, then its members
unfoldable pub nested_from : ℕ → List ℕ → ℕ → ℕ → ℕ → Listing
nested_from zero s p ref room = stopped DEEP p
nested_from (suc more) s p ref room =
    entered s (λ q e left. members_from (nested_from more s q) (group_members e) left) (sound_group s (find s group_tag ref)) room

-- the members of the group of the slot at p and the bytes e, the first of so many groups that may be entered
abbrev pub list_from : ℕ → List ℕ → ℕ → List ℕ → ℕ → Listing
list_from groups s p e room = members_from (nested_from (groups - 1) s p) (group_members e) room

-- the pairs that a lent table has place for, at most 4,096
abbrev pub places_in : ℕ → ℕ
places_in room = min (room / 2) most_pairs

abbrev pub pairs_numbers : Result ℕ Refusal → Answer
pairs_numbers (Ok n) = grant (n ∷ [])
pairs_numbers (Err r) = refusal 1 r

-- the listing of the group at what a lookup found
abbrev pub listing_in : List ℕ → Hit → ℕ → Listing
listing_in s found room = entered s (list_from most_groups s) (sound_group s found) (places_in room)

unfoldable pub listing_at : List ℕ → Hit → ℕ → Answer
listing_at s found room = let l = listing_in s found room in unless 1 l.number l.place (grant (length l.pairs / 2 ∷ []))

unfoldable pub listing_of : List ℕ → ℕ → ℕ → Answer
listing_of s ref room = opened 1 s (listing_at s (find s group_tag ref) room)

-- the pairs of a granted call
abbrev pub pairs_at : List ℕ → Hit → ℕ → List ℕ
pairs_at s found room = (listing_in s found room).pairs

abbrev pub pairs_of : List ℕ → ℕ → ℕ → List ℕ
pairs_of s ref room = pairs_at s (find s group_tag ref) room
