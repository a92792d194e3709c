-- `records::dimension::read_in` meets its contract. Assumes nothing.
use mathlib.Core.Path.{sym, ap, ◌∙◌}
use Rattle.std.proofs.lemmas.Result.{err_from_is_err_and}
use Rattle.answer.specs.Refusals.{fault_of}
use Rattle.records.specs.Dimensions.{dimension_at}
use Rattle.records.proofs.Readings
use Rattle.records.proofs.dimension.read_in.Goals as goal

pub returns-in_err-found : goal.returns-in_err-found
unfolding dimension_at
returns-in_err-found c =
    let p = err_from_is_err_and c.from_residual.result c.from_residual.ensures.1 in
    rw (p.1, p.2) (sym (Readings.reads_refusal _ _ _ _ _ _ c.locate.ensures _ c.in_err-found.was))

pub returns-in-Err : goal.returns-in-Err
unfolding dimension_at
returns-in-Err c =
    rw c.at.ensures (sym (Readings.reads_broken _ _ _ _ _ _ c.locate.ensures _ c.in_ok-found.was _ c.part-part.ensures _ (sym (ap fault_of c.in-Err.is) ∙ c.check.ensures)))

pub returns : goal.returns
unfolding dimension_at
returns c =
    rw c.parse.ensures (sym (Readings.reads_passed _ _ _ _ _ _ c.locate.ensures _ c.in_ok-found.was _ c.part-part.ensures (sym c.check.ensures ∙ ap fault_of c.in_default.is)))
