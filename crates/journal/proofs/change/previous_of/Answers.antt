-- `journal::change::previous_of` meets its contract. Assumes nothing.
use native.Mathlib.Omega.{arith}
use mathlib.Core.Path.{sym, ◌∙◌}
use Rattle.journal.proofs.Trailers
use Rattle.journal.proofs.change.previous_of.Goals as goal

pub overflow_sub-result : goal.overflow_sub-result
overflow_sub-result c = omega (arith, c.size_of.ensures, Trailers.ending_least c.in-Some.before c.args.image.now (sym c.carried_by.ensures ∙ c.in-Some.is))

pub returns-in-Some : goal.returns-in-Some
returns-in-Some c =
    rw c.size_of.ensures (sym (Trailers.previous_there _ _ _ (sym c.carried_by.ensures ∙ c.in-Some.is) (sym c.counts_form.ensures ∙ c.if-counts_form.true)))

pub returns-in_default : goal.returns-in_default
returns-in_default c = sym (Trailers.previous_other _ _ _ (sym c.carried_by.ensures ∙ c.in-Some.is) (sym c.counts_form.ensures ∙ c.if-counts_form.false))

pub returns-in_default-2 : goal.returns-in_default-2
returns-in_default-2 c = sym (Trailers.previous_none _ _ (sym c.carried_by.ensures ∙ c.in_default.is))
