-- `records::array::pack` meets its contract. Assumes nothing.
use native.Mathlib.Omega.{arith}
use mathlib.Core.Path.{◌≡◌, sym, ap, ◌∙◌}
use Rattle.std.proofs.lemmas.List.{map-id}
use Rattle.std.proofs.lemmas.Result.{err_from_is_err_and}
use Rattle.answer.specs.Refusals.{fault_of}
use lib.ListN.{length}
use Rattle.records.specs.Arrays.{array_pack_fault}
use Rattle.records.proofs.Packings
use Rattle.records.proofs.Arrays
use Rattle.records.proofs.array.pack.Goals as goal
use Rattle.records.proofs.array.pack.Goals.{In_ok-check_pack}

-- the numbers break no rule
sound : (c : In_ok-check_pack) → let a = c.args in array_pack_fault (length a.sizes.now) (length a.pairs.now) ≡ 0
sound c = sym c.check_pack.ensures ∙ ap fault_of c.in_ok-check_pack.was

pub returns-in_err-check_pack : goal.returns-in_err-check_pack
returns-in_err-check_pack c =
    let p = err_from_is_err_and c.from_residual.result c.from_residual.ensures.1 in
    rw (p.1, p.2) (Packings.packs_fault _ _ _ _ (sym (ap fault_of c.in_err-check_pack.was) ∙ c.check_pack.ensures))

pub returns-then-out-length : goal.returns-then-out-length
returns-then-out-length c =
    let s = sound (goal.at.returns-then-out-length c).In_ok-check_pack in
    rw c.at.ensures (Packings.packs_small _ _ _ s (rw (Arrays.length_array _ _ (Arrays.pack_sound _ _ s).2) c.if-out-length.true))

pub lay-requires-2 : goal.lay-requires-2
lay-requires-2 c = omega (arith, (Arrays.pack_sound _ _ (sound (goal.at.lay-requires-2 c).In_ok-check_pack)).2)

pub returns : goal.returns
returns c =
    let a = c.args in
    let s = sound (goal.at.returns c).In_ok-check_pack in
    let many = (Arrays.pack_sound _ _ s).2 in
    let n = Arrays.length_array a.sizes.now a.pairs.now many in
    Packings.packs_granted _ _ _ s (rw n c.if-out-length.false) _ (sym n) _
    (Arrays.put_array a.sizes.now a.pairs.now many _ _ _ _ c.write16.ensures (rw map-id at c.lay.ensures) (rw map-id at c.lay-2.ensures))
