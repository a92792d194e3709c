-- `vgroup::group::find` meets its contract. Assumes nothing.
use mathlib.Core.Path.{sym, ap, ◌∙◌}
use Rattle.std.proofs.lemmas.Result.{err_from_is_err_and}
use Rattle.answer.specs.Refusals.{fault_of}
use Rattle.answer.proofs.Answer.{number_positive}
use Rattle.records.proofs.Readings
use Rattle.vgroup.proofs.group.find.Goals as goal

pub returns-in_err-found : goal.returns-in_err-found
returns-in_err-found c =
    let p = err_from_is_err_and c.from_residual.result c.from_residual.ensures.1 in
    rw (p.1, p.2) (sym (Readings.sound_refused _ _ _ _ (sym c.locate.ensures ∙ c.in_err-found.was)))

pub returns-in-Err : goal.returns-in-Err
returns-in-Err c =
    rw c.at.ensures
    (sym (Readings.sound_broken _ _ _ _ (sym c.locate.ensures ∙ c.in_ok-found.was) _ c.part.ensures _ (sym (ap fault_of c.in-Err.is) ∙ c.check.ensures) (number_positive _)))

pub returns : goal.returns
returns c =
    sym (Readings.sound_passes _ _ _ _ (sym c.locate.ensures ∙ c.in_ok-found.was) _ c.part.ensures (sym c.check.ensures ∙ ap fault_of c.in_default.is))
