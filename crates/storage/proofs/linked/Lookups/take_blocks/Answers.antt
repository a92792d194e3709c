-- `storage::linked::Lookups::take_blocks` meets its contract. The invariant: what is left of the walk over the table is what the walk comes to.
-- Assumes nothing.
use Prim.Native.Nat.{◌+◌}
use mathlib.Core.Path.{◌≡◌, ◌∙◌}
use borrow.Author.Rules.{rules}
use Rattle.std.proofs.lemmas.Result.{err_from_is_err_and}
use Rattle.storage.proofs.Mapped
use Rattle.storage.proofs.Walks
use Rattle.storage.proofs.Steps
use Rattle.storage.proofs.linked.Lookups.take_blocks.Goals as goal

pub returns-then-left-eq0 : goal.returns-then-left-eq0
returns-then-left-eq0 c = (Steps.taken_enough _ _ _ _ _ _ _ _ _ c.loop-entry.invariant.0 c.if-left-eq0.true, c.loop-entry.invariant.1)

pub returns-in_err-map_err : goal.returns-in_err-map_err
returns-in_err-map_err c =
    let p = err_from_is_err_and c.from_residual.result c.from_residual.ensures.1 in
    let m = Mapped.mapped_err _ c.take_block.result _ c.map_err.ensures.cases _ c.in_err-map_err.was in
    let w : c.in_err-map_err.field-0.0 ≡ record { rule = m.0; index = c.args.first + c.loop-entry.entry } = search (rules, m.2) in
    let g = rw (c.loop-entry.invariant.1, c.read16-reference.ensures.is, c.share_of-share.ensures, m.1) at c.take_block.ensures in
    rw (p.1, p.2 ∙ w, g.0.1) (Steps.taken_fault _ _ _ _ _ _ _ _ _ c.loop-entry.invariant.0 c.loop-entry-test.true c.if-left-eq0.false _ g.0.0, g.1)

pub overflow_sub-left : goal.overflow_sub-left
overflow_sub-left c = rw c.share_of-share.ensures (Walks.share_less _ _ _)

pub loop-entry-preserved : goal.loop-entry-preserved
loop-entry-preserved c =
    let m = Mapped.mapped_ok _ c.take_block.result _ c.map_err.ensures.cases _ c.in_ok-map_err.was in
    let g = rw (c.loop-entry.invariant.1, c.read16-reference.ensures.is, c.share_of-share.ensures, m) at c.take_block.ensures in
    (rw (g.0.1, c.share_of-share.ensures) (Steps.taking_next _ _ _ _ _ _ _ _ _ c.loop-entry.invariant.0 c.loop-entry-test.true c.if-left-eq0.false g.0.0), g.1)

pub returns : goal.returns
returns c = (Steps.taken_all _ _ _ _ _ _ _ _ _ c.loop-entry.invariant.0 c.loop-entry-test.false, c.loop-entry.invariant.1)
