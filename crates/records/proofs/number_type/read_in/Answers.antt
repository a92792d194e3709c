-- `records::number_type::read_in` meets its contract. Assumes nothing.
use mathlib.Core.Path.{sym}
use Rattle.std.proofs.lemmas.Result.{err_from_is_err_and}
use Rattle.answer.specs.declared.refusals.Rule.TheVariants.{Record}
use Rattle.records.specs.NumberTypes.{number_type_at}
use Rattle.records.proofs.Readings
use Rattle.records.proofs.NumberTypes
use Rattle.records.proofs.number_type.read_in.Goals as goal

pub returns-in_err-found : goal.returns-in_err-found
unfolding number_type_at
returns-in_err-found c =
    let p = err_from_is_err_and c.from_residual.result c.from_residual.ensures.1 in
    rw (p.1, p.2) (sym (Readings.reads_refusal _ _ _ _ _ _ c.locate.ensures _ c.in_err-found.was))

pub returns-then-part-ne4 : goal.returns-then-part-ne4
unfolding number_type_at
returns-then-part-ne4 c =
    rw c.at.ensures (sym (Readings.reads_broken _ _ _ _ _ _ c.locate.ensures _ c.in_ok-found.was _ c.part-part.ensures Record (sym (NumberTypes.other_bytes _ c.if-part-ne4.true))))

pub returns : goal.returns
unfolding number_type_at
returns c =
    rw c.parse.ensures (sym (Readings.reads_passed _ _ _ _ _ _ c.locate.ensures _ c.in_ok-found.was _ c.part-part.ensures (NumberTypes.four_bytes _ c.if-part-ne4.false)))
