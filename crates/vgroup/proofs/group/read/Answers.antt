-- `vgroup::group::read` meets its contract. Assumes nothing.
use Prim.Native.Nat.{ℕ}
use mathlib.Core.List.{List}
use mathlib.Core.Path.{subst}
use lib.ListN.{length}
use Rattle.answer.specs.Answer.{Answer}
use Rattle.answer.specs.Search.{Hit}
use Rattle.directory.proofs.Opens
use Rattle.records.specs.Readings.{record_bytes}
use Rattle.vgroup.specs.Limits.{group_tag}
use Rattle.vgroup.specs.Groups.{group_members, group_at, group_of}
use Rattle.vgroup.specs.Steps.{Held}
use Rattle.vgroup.proofs.group.read.Goals as goal

pub returns-in_default : goal.returns-in_default
unfolding group_of
returns-in_default c =
    record { answer = Opens.unopened_does _ _ c.open-opened.ensures 9 _ _ _ _ c.unwrap_err.ensures; held = tt }

pub returns : goal.returns
unfolding group_of
returns c =
    let a = c.args in
    let o = Opens.accepted_with _ _ c.open-opened.ensures _ c.in-Ok.is in
    let answer : Hit → Answer = λ h. group_at a.image.now h (length a.members.now) in
    let members : Hit → List ℕ = λ h. group_members (record_bytes a.image.now h) in
    let r = c.read_in in
    record {
      answer = Opens.opened_does 9 _ _ group_tag a.reference o answer members _ _ _ r.ensures.answer;
      held = subst (λ h. Held a.image.now h r.result) (Opens.opened_find _ _ group_tag a.reference o) r.ensures.held;
    }
