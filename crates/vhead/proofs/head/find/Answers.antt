-- `vhead::head::find` meets its contract. Assumes nothing.
use mathlib.Core.Path.{sym}
use Rattle.directory.proofs.Opens
use Rattle.vhead.specs.Heads.{head_within}
use Rattle.vhead.proofs.HeadsRead
use Rattle.vhead.proofs.head.find.Goals as goal

pub returns-in_default : goal.returns-in_default
unfolding head_within
returns-in_default c = record { answer = sym (Opens.refused_is _ _ c.open-opened.ensures 12 _ _ c.unwrap_err.ensures); held = tt }

pub returns : goal.returns
returns c =
    let both = HeadsRead.head_found_opened _ _ _ _ (Opens.accepted_with _ _ c.open-opened.ensures _ c.in-Ok.is) c.find_in.result (c.find_in.ensures.answer, c.find_in.ensures.held) in
    record { answer = both.0; held = both.1 }
