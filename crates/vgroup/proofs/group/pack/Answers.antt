-- `vgroup::group::pack` meets its contract. Assumes nothing.
use Prim.Native.Nat.{◌+◌, ◌*◌, ◌/◌}
use native.Mathlib.Omega.{arith}
use mathlib.Core.Path.{◌≡◌, sym, ap, ◌∙◌}
use Rattle.std.proofs.lemmas.Result.{err_from_is_err_and}
use Rattle.answer.specs.Refusals.{fault_of}
use lib.ListN.{length}
use Rattle.records.proofs.Packings
use Rattle.vgroup.specs.Groups.{group_bytes}
use Rattle.vgroup.proofs.Groups
use Rattle.vgroup.proofs.group.pack.Goals as goal
use Rattle.vgroup.proofs.group.pack.Goals.{In_ok-check_pack}

-- the parts break no rule
sound : (c : In_ok-check_pack) → let a = c.args in Groups.PackSound (length a.members.now) (length a.name.now) (length a.class.now) a.x.version
sound c = Groups.pack_passed _ _ _ _ (sym c.check_pack.ensures ∙ ap fault_of c.in_ok-check_pack.was)

long : (c : In_ok-check_pack) → let a = c.args in
    length (group_bytes a.members.now a.name.now a.class.now a.x) ≡ 14 + 4 * (length a.members.now / 2) + length a.name.now + length a.class.now
long c = Groups.length_group _ _ _ _ (λ i. (c.type_inv.name i).fits) (λ i. (c.type_inv.class i).fits)

pub returns-in_err-check_pack : goal.returns-in_err-check_pack
returns-in_err-check_pack c =
    let p = err_from_is_err_and c.from_residual.result c.from_residual.ensures.1 in
    rw (p.1, p.2) (Packings.packs_fault _ _ _ _ (sym (ap fault_of c.in_err-check_pack.was) ∙ c.check_pack.ensures))

pub returns-then-out-length : goal.returns-then-out-length
returns-then-out-length c =
    rw c.at.ensures
    (Packings.packs_small _ _ _ (sym c.check_pack.ensures ∙ ap fault_of c.in_ok-check_pack.was) (omega (arith, long (goal.at.returns-then-out-length c).In_ok-check_pack, c.if-out-length.true)))

pub returns : goal.returns
returns c =
    Packings.packs_granted _ _ _ (sym c.check_pack.ensures ∙ ap fault_of c.in_ok-check_pack.was) (omega (arith, long (goal.at.returns c).In_ok-check_pack, c.if-out-length.false)) _ (sym (long (goal.at.returns c).In_ok-check_pack)) _
    (Groups.laid_group _ _ _ _ (λ i. (c.type_inv.name i).fits) (λ i. (c.type_inv.class i).fits) _ _ _ _ _
    c.write16.ensures c.lay_column.ensures c.lay_column-2.ensures c.lay.ensures)
