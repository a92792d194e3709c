-- `vdata::column::read_in` meets its contract. Assumes nothing.
use mathlib.Core.Path.{sym, ap, ◌∙◌}
use Rattle.std.proofs.lemmas.Result.{err_from_is_err_and}
use Rattle.answer.specs.Refusals.{fault_of}
use Rattle.vdata.proofs.Columns
use Rattle.vdata.proofs.column.read_in.Goals as goal

pub returns-in_err-found : goal.returns-in_err-found
returns-in_err-found c =
    let p = err_from_is_err_and c.from_residual.result c.from_residual.ensures.1 in
    rw (p.1, p.2) (Columns.read_refused _ _ _ _ _ _ _ c.locate.ensures _ c.in_err-found.was _)

pub returns-in-Err : goal.returns-in-Err
returns-in-Err c =
    rw c.at.ensures (Columns.read_broken _ _ _ _ _ _ _ c.locate.ensures _ c.in_ok-found.was _ c.part-part.ensures _ (sym (ap fault_of c.in-Err.is) ∙ c.check.ensures) _)

pub returns : goal.returns
returns c =
    Columns.read_goes _ _ _ _ _ _ _ c.locate.ensures _ c.in_ok-found.was _ c.part-part.ensures (sym c.check.ensures ∙ ap fault_of c.in_default.is) _ _ _ c.read_after.ensures
