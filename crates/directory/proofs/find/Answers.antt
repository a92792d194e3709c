-- `directory::find` meets its contract. Assumes nothing.
use mathlib.Core.Path.{sym}
use Rattle.directory.specs.Lookup.{find_of}
use Rattle.directory.proofs.Opens
use Rattle.directory.proofs.Named
use Rattle.directory.proofs.find.Goals as goal

pub returns-in_default : goal.returns-in_default
unfolding find_of
returns-in_default c = sym (Opens.refused_is _ _ c.open-opened.ensures 1 _ _ c.unwrap_err.ensures)

pub returns : goal.returns
returns c =
    let o = Opens.accepted_with _ _ c.open-opened.ensures _ c.in-Ok.is in
    Named.found_opened _ _ _ _ o _ c.find_slot.ensures
