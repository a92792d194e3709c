-- `vhead::head::check_pack` meets its contract. Assumes nothing.
use mathlib.Core.Path.{sym, ap, ◌∙◌}
use Rattle.std.proofs.lemmas.Result.{err_from_is_err_and}
use Rattle.answer.specs.Refusals.{fault_of}
use Rattle.answer.proofs.Answer.{number_positive}
use Rattle.vset.proofs.Tails
use Rattle.vhead.proofs.HeadsPacked
use Rattle.vhead.proofs.head.check_pack.Goals as goal

pub returns-in_err-check_pack-clause-fault : goal.returns-in_err-check_pack-clause-fault
returns-in_err-check_pack-clause-fault c =
    let p = err_from_is_err_and c.from_residual.result c.from_residual.ensures.1 in
    let e = sym (ap fault_of c.in_err-check_pack.was) ∙ c.check_pack.ensures in
    rw (p.1, p.2)
    (e
    ∙ sym (HeadsPacked.fault_goes_on _ _ _ _ _ _ _ c.if-lengths-gt-MOST_FIELDS.false c.if-rows-lengths.false (c.if-names-total.false ∙ c.total.ensures) c.if-b-gt-MOST_HEAD_INTERLACE.false
    ∙ Tails.fault_stops _ _ _ (λ q. number_positive _ (e ∙ q)) _))

pub returns-clause-fault : goal.returns-clause-fault
returns-clause-fault c =
    c.check_fields.ensures
    ∙ sym (HeadsPacked.fault_goes_on _ _ _ _ _ _ _ c.if-lengths-gt-MOST_FIELDS.false c.if-rows-lengths.false (c.if-names-total.false ∙ c.total.ensures) c.if-b-gt-MOST_HEAD_INTERLACE.false
    ∙ Tails.fault_goes _ _ _ (sym c.check_pack.ensures ∙ ap fault_of c.in_ok-check_pack.was) _)

pub returns-clause-packable : goal.returns-clause-packable
returns-clause-packable c =
    HeadsPacked.packable _ _ _ _ _ _ (λ i. (c.type_inv.lengths i).fits) c.if-lengths-gt-MOST_FIELDS.false (c.if-names-total.false ∙ c.total.ensures)
    (sym c.check_pack.ensures ∙ ap fault_of c.in_ok-check_pack.was)
