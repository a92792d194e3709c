-- `vhead::head::pack` meets its contract. Assumes nothing.
use Prim.Native.Nat.{◌+◌, ◌*◌}
use native.Mathlib.Omega.{arith}
use mathlib.Core.Path.{◌≡◌, sym, ap, ◌∙◌}
use Rattle.std.proofs.lemmas.Result.{err_from_is_err_and}
use Rattle.answer.specs.Refusals.{fault_of}
use lib.ListN.{length}
use Rattle.records.proofs.Packings
use Rattle.vhead.specs.Heads.{head_bytes}
use Rattle.vhead.proofs.HeadsPacked
use Rattle.vhead.proofs.head.pack.Goals as goal
use Rattle.vhead.proofs.head.pack.Goals.{In_ok-check_pack}

long : (c : In_ok-check_pack) → let a = c.args in
    length (head_bytes a.b a.rows.now a.lengths.now a.names.now a.name.now a.class.now a.x)
    ≡ 22 + 10 * length a.lengths.now + length a.names.now + length a.name.now + length a.class.now
long c = HeadsPacked.length_head _ _ _ _ _ _ _ (λ i. (c.type_inv.names i).fits) (λ i. (c.type_inv.name i).fits) (λ i. (c.type_inv.class i).fits) (c.in_ok-check_pack.ensures.packable).own

pub returns-in_err-check_pack : goal.returns-in_err-check_pack
returns-in_err-check_pack c =
    let p = err_from_is_err_and c.from_residual.result c.from_residual.ensures.1 in
    rw (p.1, p.2) (Packings.packs_fault _ _ _ _ (sym (ap fault_of c.in_err-check_pack.was) ∙ c.check_pack.ensures.fault))

pub returns-then-out-length : goal.returns-then-out-length
returns-then-out-length c =
    rw c.at.ensures
    (Packings.packs_small _ _ _ (sym c.check_pack.ensures.fault ∙ ap fault_of c.in_ok-check_pack.was) (omega (arith, long (goal.at.returns-then-out-length c).In_ok-check_pack, c.if-out-length.true)))

pub returns : goal.returns
returns c =
    Packings.packs_granted _ _ _ (sym c.check_pack.ensures.fault ∙ ap fault_of c.in_ok-check_pack.was) (omega (arith, long (goal.at.returns c).In_ok-check_pack, c.if-out-length.false)) _ (sym (long (goal.at.returns c).In_ok-check_pack)) _
    (HeadsPacked.laid_head _ _ _ _ _ _ _ (λ i. (c.type_inv.names i).fits) (λ i. (c.type_inv.name i).fits) (λ i. (c.type_inv.class i).fits) (c.in_ok-check_pack.ensures.packable).own _ _ _ _ _
    c.lay_start.ensures c.lay_columns.ensures c.lay_names.ensures c.lay.ensures)
