-- `vhead::head::read` meets its contract. Assumes nothing.
use Prim.Native.Nat.{◌/◌, min}
use mathlib.Core.Path.{subst}
use lib.ListN.{length}
use Rattle.directory.proofs.Opens
use Rattle.vhead.specs.Limits.{head_tag}
use Rattle.vhead.specs.Heads.{head_within}
use Rattle.vhead.specs.Steps.{Held}
use Rattle.vhead.proofs.HeadsRead
use Rattle.vhead.proofs.head.read.Goals as goal

pub returns-in_default : goal.returns-in_default
unfolding head_within
returns-in_default c =
    let o = c.open-opened.ensures in
    let told = c.unwrap_err.ensures in
    record { answer = (Opens.unopened_does _ _ o 12 _ _ _ _ told, Opens.unopened_does _ _ o 12 _ _ _ _ told); held = tt }

pub returns : goal.returns
returns c =
    let a = c.args in
    let room = min (length a.fields.now / 4) (length a.names.now / 2) in
    let r = c.read_in in
    let o = Opens.accepted_with _ _ c.open-opened.ensures _ c.in-Ok.is in
    record {
      answer = HeadsRead.listed_opened _ _ _ _ o _ _ _ _ _ r.ensures.answer;
      held = subst (λ h. Held a.image.now h room r.result) (Opens.opened_find _ _ head_tag a.reference o) r.ensures.held;
    }
