-- `storage::size::size_in_blocks` meets its contract. Assumes nothing.
use mathlib.Core.Path.{◌≡◌, sym, ap, ◌∙◌}
use mathlib.Core.List.{[], ◌∷◌}
use borrow.Author.Rules.{rules}
use Rattle.std.proofs.lemmas.Result.{err_from_is_err_and}
use Rattle.answer.specs.Refusals.{fault_of}
use Rattle.answer.specs.Answer.{grant, refuse}
use Rattle.answer.proofs.Answer
use Rattle.directory.specs.Slots.{content_at}
use Rattle.storage.specs.Descriptions.{record_length, record_fault}
use Rattle.storage.specs.Copies.{in_blocks}
use Rattle.storage.proofs.Mapped
use Rattle.storage.proofs.Sizes
use Rattle.storage.proofs.size.size_in_blocks.Goals as goal
use Rattle.storage.proofs.size.size_in_blocks.Goals.{After-check}

-- the first rule that the element's record breaks
fault : (c : After-check) → let a = c.args in fault_of c.check.result ≡ record_fault (content_at a.image.now a.p)
fault c = c.check.ensures ∙ ap record_fault c.content-record.ensures

pub returns-in_err-map_err : goal.returns-in_err-map_err
unfolding in_blocks
returns-in_err-map_err c =
    let p = err_from_is_err_and c.from_residual.result c.from_residual.ensures.1 in
    let m = Mapped.mapped_err _ c.check.result _ c.map_err.ensures.cases _ c.in_err-map_err.was in
    let f = sym (ap fault_of m.1) ∙ fault (goal.at.returns-in_err-map_err c).After-check in
    let w : c.in_err-map_err.field-0.0 ≡ record { rule = m.0; place = c.args.p } = search (rules, m.2) in
    rw (p.1, p.2 ∙ w)
    (Answer.refusal_is 1 _ ∙ ap (λ n. refuse 1 n c.args.p) f ∙ sym (Sizes.size_broken _ _ (λ z. Answer.number_positive m.0 (f ∙ z))))

pub returns : goal.returns
unfolding in_blocks
returns c =
    let m = Mapped.mapped_ok _ c.check.result _ c.map_err.ensures.cases _ c.in_ok-map_err.was in
    ap (λ n. grant (n ∷ [])) (c.record_length.ensures ∙ ap record_length c.content-record.ensures)
    ∙ sym (Sizes.size_granted _ _ (sym (fault (goal.at.returns c).After-check) ∙ ap fault_of m))
