-- `directory::places::find_room` meets its contract. Assumes nothing.
use mathlib.Core.Path.{◌≡◌, sym, ap, ◌∙◌}
use mathlib.Core.Bool.{not}
use Rattle.std.proofs.Common.{rules, tests}
use Rattle.std.proofs.lemmas.Iterator.Search.{find_from_yields_List}
use Rattle.answer.specs.Search.{first}
use Rattle.directory.specs.Slots.{live_at}
use Rattle.directory.specs.Links.{slots_after}
use Rattle.directory.specs.declared.places.Room.TheVariants.{Block}
use Rattle.directory.proofs.Walks
use Rattle.directory.proofs.Rooms
use Rattle.directory.proofs.places.find_room.Goals as goal
use Rattle.directory.proofs.places.find_room.Goals.{After-find-free}

-- what is found is the first free slot
free : (c : After-find-free) → let a = c.args in first (λ p. not (live_at a.image.now p)) (slots_after a.image.now a.blocks 4) ≡ Walks.hit_of c.find-free.result
free c =
    let a = c.args in
    Walks.first_found _ _ _ (find_from_yields_List (λ p. not (live_at a.image.now p)) c.find-free.new.self _ c.find-free.result c.find-free.ensures.ran (Walks.slots_come _ _ c.of.ensures) (λ x b q k. rw (Rooms.free_is a.image.now x) (search (rules, tests))))

pub returns-in-Some : goal.returns-in-Some
returns-in-Some c = sym (Rooms.room_slot _ _ _ (free (goal.at.returns-in-Some c).After-find-free ∙ ap Walks.hit_of c.in-Some.is))

pub returns-in-None : goal.returns-in-None
returns-in-None c =
    ap Block c.last_block.ensures ∙ sym (Rooms.room_block _ _ (free (goal.at.returns-in-None c).After-find-free ∙ ap Walks.hit_of c.in-None.is))
