-- `vgroup::group::read_in` meets its contract. Assumes nothing.
use native.Mathlib.Omega.{arith}
use mathlib.Core.List.{[]}
use Rattle.std.proofs.lemmas.Result.{err_from_is_err_and}
use Rattle.vgroup.proofs.Groups
use Rattle.vgroup.proofs.group.read_in.Goals as goal

pub returns-in_err-found : goal.returns-in_err-found
returns-in_err-found c =
    let p = err_from_is_err_and c.from_residual.result c.from_residual.ensures.1 in
    rw (p.1, p.2) (record { answer = Groups.unsound _ _ _ _ c.find.ensures _ c.in_err-found.was; held = tt })

pub overflow_mul-group : goal.overflow_mul-group
overflow_mul-group c = omega (arith, Groups.members_fit _ _ [] _ c.find.ensures _ c.in_ok-found.was _ c.part-part.ensures _ c.parse-group.ensures)

pub returns-then-members-group : goal.returns-then-members-group
returns-then-members-group c =
    rw c.at.ensures
    (record { answer = Groups.small _ _ _ _ c.find.ensures _ c.in_ok-found.was _ c.part-part.ensures _ c.parse-group.ensures c.if-members-group.true; held = tt })

pub put_members-requires : goal.put_members-requires
put_members-requires c = (c.if-members-group.false, Groups.members_fit _ _ [] _ c.find.ensures _ c.in_ok-found.was _ c.part-part.ensures _ c.parse-group.ensures)

pub returns : goal.returns
returns c =
    let of = c.part-part.ensures in
    let parsed = c.parse-group.ensures in
    record {
      answer = Groups.listed _ _ _ _ c.find.ensures _ c.in_ok-found.was _ of _ parsed c.if-members-group.false _ c.put_members.ensures;
      held = Groups.held _ _ [] _ c.find.ensures _ c.in_ok-found.was _ of _ parsed;
    }
