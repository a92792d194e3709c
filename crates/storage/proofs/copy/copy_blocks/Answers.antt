-- `storage::copy::copy_blocks` meets its contract. Assumes nothing.
use mathlib.Core.Path.{◌≡◌, sym, ap, ◌∙◌}
use borrow.Author.Rules.{rules}
use Rattle.std.proofs.lemmas.Result.{err_from_is_err_and}
use Rattle.answer.specs.Carried.{carries_none}
use Rattle.answer.specs.Refusals.{fault_of}
use Rattle.storage.proofs.Mapped
use Rattle.answer.specs.declared.refusals.Rule.TheVariants.{Small}
use Rattle.answer.proofs.Answer
use Rattle.answer.proofs.Lent
use Rattle.wire.proofs.Numbers
use Rattle.directory.specs.Slots.{content_at}
use Rattle.storage.specs.Descriptions.{description_of, record_length, record_fault}
use Rattle.storage.specs.Walks.{chain_of}
use Rattle.storage.proofs.Copies
use Rattle.storage.proofs.copy.copy_blocks.Goals as goal
use Rattle.storage.proofs.copy.copy_blocks.Goals.{After-check, After-describe-d, After-record_length, In_ok-map_err}

-- the first rule that the element's record breaks
fault : (c : After-check) → let a = c.args in fault_of c.check.result ≡ record_fault (content_at a.image.now a.p)
fault c = c.check.ensures ∙ ap record_fault c.content-record.ensures

-- it breaks none
sound : (c : In_ok-map_err) → let a = c.args in record_fault (content_at a.image.now a.p) ≡ 0
sound c =
    let m = Mapped.mapped_ok _ c.check.result _ c.map_err.ensures.cases _ c.in_ok-map_err.was in
    sym (c.check.ensures ∙ ap record_fault c.content-record.ensures) ∙ ap fault_of m

long : (c : After-record_length) → let a = c.args in c.record_length.result ≡ record_length (content_at a.image.now a.p)
long c = c.record_length.ensures ∙ ap record_length c.content-record.ensures

described : (c : After-describe-d) → let a = c.args in c.describe-d.result ≡ description_of a.image.now (content_at a.image.now a.p)
described c = let h = rw c.start-lookups.ensures at c.describe-d.ensures in h.0.is ∙ ap (description_of _) c.content-record.ensures

-- the lookups stay in the image
same : (c : After-describe-d) → c.describe-d.new.self ≡ c.args.image.now
same c = c.describe-d.ensures.1 ∙ c.start-lookups.ensures

pub content-record-requires : goal.content-record-requires
content-record-requires c = (c.requires.1, c.requires.2)

pub returns-in_err-map_err : goal.returns-in_err-map_err
returns-in_err-map_err c =
    let p = err_from_is_err_and c.from_residual.result c.from_residual.ensures.1 in
    let m = Mapped.mapped_err _ c.check.result _ c.map_err.ensures.cases _ c.in_err-map_err.was in
    let w : c.in_err-map_err.field-0.0 ≡ record { rule = m.0; place = c.args.p } = search (rules, m.2) in
    rw (p.1, p.2 ∙ ap carries_none w)
    (Lent.restated (Answer.carrying_zero 1 _) (Copies.blocks_record _ _ _ _ _ (sym (ap fault_of m.1) ∙ fault (goal.at.returns-in_err-map_err c).After-check)))

pub returns-then-out-record_length : goal.returns-then-out-record_length
returns-then-out-record_length c =
    let g = goal.at.returns-then-out-record_length c in
    rw (c.from.ensures, c.at.ensures)
    (Lent.restated (Answer.carrying_zero 1 (record { rule = Small; place = 0 })) (Copies.blocks_small _ _ _ _ (sound g.In_ok-map_err) (rw (long g.After-record_length) at c.if-out-record_length.true)))

pub returns-in_err-map_err-2 : goal.returns-in_err-map_err-2
returns-in_err-map_err-2 c =
    let g = goal.at.returns-in_err-map_err-2 c in
    let r = c.from_residual-in_err-map_err-2 in
    let p = err_from_is_err_and r.result r.ensures.1 in
    let m = Mapped.mapped_err _ c.follow.result _ c.map_err-2.ensures.cases _ c.in_err-map_err-2.was in
    let w : c.in_err-map_err-2.field-0.0 ≡ record { rule = m.0.rule; place = c.args.p; value = m.0.index } = search (rules, m.2) in
    let told = (rw (same g.After-describe-d, m.1) at c.follow.ensures).0 in
    rw (p.1, p.2 ∙ w, Numbers.put_nowhere _ _ _ told.1)
    (Copies.blocks_chain _ _ _ _ (sound g.In_ok-map_err) (rw (long g.After-record_length) at c.if-out-record_length.false) _ (described g.After-describe-d) _ told.0)

pub returns : goal.returns
returns c =
    let g = goal.at.returns c in
    let m = Mapped.mapped_ok _ c.follow.result _ c.map_err-2.ensures.cases _ c.in_ok-map_err-2.was in
    let told = rw (same g.After-describe-d, m) at c.follow.ensures in
    let again = rw told.1 at c.follow-2.ensures in
    Copies.blocks_granted _ _ _ _ (sound g.In_ok-map_err) (rw (long g.After-record_length) at c.if-out-record_length.false) _ (described g.After-describe-d) told.0.0 _
    (rw (Numbers.put_nowhere _ _ _ told.0.1) at (Copies.followed_leaves (chain_of c.args.image.now c.describe-d.result) _ _ _ again.0))
