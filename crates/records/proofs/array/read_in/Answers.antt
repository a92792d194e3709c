-- `records::array::read_in` meets its contract. Assumes nothing.
use mathlib.Core.Path.{◌≡◌, sym, ap, ◌∙◌}
use Rattle.std.proofs.lemmas.List.{map-id}
use Rattle.std.proofs.lemmas.Result.{err_from_is_err_and}
use Rattle.answer.specs.Refusals.{fault_of}
use Rattle.records.specs.Arrays.{array_fault, array_at}
use Rattle.records.proofs.Readings
use Rattle.records.proofs.Arrays
use Rattle.records.proofs.array.read_in.Goals as goal
use Rattle.records.proofs.array.read_in.Goals.{In_default}

-- the bytes break no rule
sound : (c : In_default) → array_fault c.part-part.result.now ≡ 0
sound c = sym c.check.ensures ∙ ap fault_of c.in_default.is

pub returns-in_err-found : goal.returns-in_err-found
unfolding array_at
returns-in_err-found c =
    let p = err_from_is_err_and c.from_residual.result c.from_residual.ensures.1 in
    rw (p.1, p.2) (Arrays.leaves_refused _ _ _ _ _ (Readings.reads_refusal _ _ _ _ _ _ c.locate.ensures _ c.in_err-found.was))

pub returns-in-Err : goal.returns-in-Err
unfolding array_at
returns-in-Err c =
    rw c.at.ensures
    (Arrays.leaves_refused _ _ _ _ _ (Readings.reads_broken _ _ _ _ _ _ c.locate.ensures _ c.in_ok-found.was _ c.part-part.ensures _ (sym (ap fault_of c.in-Err.is) ∙ c.check.ensures)))

pub returns-then-sizes-array : goal.returns-then-sizes-array
returns-then-sizes-array c =
    rw c.at-then-sizes-array.ensures
    (Arrays.leaves_sizes _ _ _ _ _ c.locate.ensures _ c.in_ok-found.was _ c.part-part.ensures (sound (goal.at.returns-then-sizes-array c).In_default) _ c.parse-array.ensures c.if-sizes-array.true)

pub returns-then-pairs-entries : goal.returns-then-pairs-entries
returns-then-pairs-entries c =
    rw c.at-then-pairs-entries.ensures
    (Arrays.leaves_pairs _ _ _ _ _ c.locate.ensures _ c.in_ok-found.was _ c.part-part.ensures (sound (goal.at.returns-then-pairs-entries c).In_default) _ c.parse-array.ensures c.if-pairs-entries.true)

pub take-requires : goal.take-requires
take-requires c = (c.if-sizes-array.false, rw c.parse-array.ensures (Arrays.sizes_inside _ (sound (goal.at.take-requires c).In_default)))

pub take-requires-2 : goal.take-requires-2
take-requires-2 c = (c.if-pairs-entries.false, rw c.parse-array.ensures (Arrays.pairs_inside _ (sound (goal.at.take-requires-2 c).In_default)))

pub returns : goal.returns
returns c =
    Arrays.leaves_granted _ _ _ _ _ c.locate.ensures _ c.in_ok-found.was _ c.part-part.ensures (sound (goal.at.returns c).In_default) _ c.parse-array.ensures c.if-sizes-array.false c.if-pairs-entries.false _ _ (rw map-id at c.take.ensures) (rw map-id at c.take-2.ensures)
