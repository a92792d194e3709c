-- What undo (document 01's take-back) makes of a whole file for a desk, after "Edits and the trailer" and document 02 (viii). Assumes nothing.
use Rattle.std.specs.Prelude.{ℕ, ◌+◌, ◌-◌, List, Bool, ◌&&◌, ◌||◌, length, take, leb, eqb, Option, Some, None}
use Rattle.answer.specs.Refusals.{NO_EDIT, BAD_TRAILER, OTHER_DESK}
use Rattle.answer.specs.Search.{any, must}
use Rattle.wire.specs.Numbers.{put}
use Rattle.directory.specs.Blocks.{blocks_of}
use Rattle.directory.specs.Slots.{slots_of}
use Rattle.directory.specs.Rooms.{is_link}
use Rattle.directory.specs.Opening.{open_of}
use Rattle.journal.specs.Outcomes.{Outcome, granted, refused, passing, opened_to}
use Rattle.journal.specs.Trailers.{form_size, slot_size, link_size, trailer_at, carried_by, previous_of, old_bytes}
use Rattle.journal.specs.declared.change.Change.{Change}
use Rattle.journal.specs.declared.change.Form.{Form}

-- the file cut to its length before, with the old bytes put back
unfoldable pub restored : List ℕ → Change → List ℕ
restored s c = put (take c.before s) c.place (old_bytes c)

-- the place is a slot of the present directory, or the next field of one of its blocks, with padding that is zero
unfoldable pub place_known : List ℕ → Change → Bool
place_known s c =
    (eqb c.altered slot_size && any (eqb c.place) (slots_of s))
    || (eqb c.altered link_size && any (is_link c.place) (blocks_of s) && eqb c.second 0 && eqb c.third 0)

-- the rules of a trailer at t by the present image: the length before, and the place, which lies inside that length
unfoldable pub known : List ℕ → ℕ → Change → Bool
known s t c = leb c.before t && place_known s c && leb (c.place + c.altered) c.before

unfoldable pub opens : List ℕ → Bool
opens s = eqb (open_of s).number 0

-- the rules by the restored image: its trailer, or none, is the previous one as a trailer of a form names it, and it opens
unfoldable pub sound : Form → ℕ → List ℕ → Bool
sound form previous image = eqb previous (previous_of form image) && opens image

-- an edit of a desk is taken back for that desk alone: the number of the rule that another one breaks, or 0
unfoldable pub desk_fault : ℕ → ℕ → ℕ
desk_fault own desk = must (eqb own desk) OTHER_DESK 0

abbrev pub for_desk : ℕ → ℕ → ℕ → List ℕ → Outcome
for_desk own desk place file = passing (desk_fault own desk) place (granted file)

-- 21 is judged whole, then 30
unfoldable pub restored_fault : Form → Change → ℕ → List ℕ → ℕ
restored_fault form c desk image = must (sound form c.previous image) BAD_TRAILER (desk_fault c.desk desk)

-- what a trailer of a form at t restores for a desk, where all these rules are kept
unfoldable pub undo_to : List ℕ → ℕ → Form → ℕ → Change → Outcome
undo_to s desk form t c =
    passing (must (known s t c) BAD_TRAILER (restored_fault form c desk (restored s c))) t (granted (restored s c))

unfoldable pub undo_by : List ℕ → ℕ → Option Form → Outcome
undo_by s desk None = refused NO_EDIT 0
undo_by s desk (Some form) = let t = length s - form_size form in undo_to s desk form t (trailer_at form s t)

unfoldable pub undo_of : List ℕ → ℕ → Outcome
undo_of s desk = opened_to s (undo_by s desk (carried_by s))
