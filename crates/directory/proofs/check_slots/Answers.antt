-- `directory::check_slots` meets its contract. The invariant: what the slots of the blocks left answer is the answer. Assumes nothing.
use native.Mathlib.Omega.{arith}
use mathlib.Core.Path.{◌≡◌, refl, sym, ◌∙◌}
use Rattle.directory.specs.Blocks.{next_block}
use Rattle.std.proofs.lemmas.Result.{err_from_is_err_and}
use Rattle.answer.proofs.Answer.{refusal_is}
use Rattle.answer.proofs.Links.{link_none, length_links}
use Rattle.directory.proofs.Gaps
use Rattle.directory.proofs.Earlier
use Rattle.directory.proofs.Checking
use Rattle.directory.proofs.check_slots.Goals as goal
use Rattle.directory.proofs.check_slots.Goals.{In-loop-before}

pub loop-before-init : goal.loop-before-init
loop-before-init c =
    record {
      at = link_none _ 0 4 refl;
      low = omega arith;
      reached = Checking.reached_start _ _;
      placed = Gaps.placed_none _ _ c.requires.1 _ c.none.ensures;
    }

pub returns-in_err-checked : goal.returns-in_err-checked
returns-in_err-checked c =
    let p = err_from_is_err_and c.from_residual.result c.from_residual.ensures.1 in
    rw (p.1, p.2) (refusal_is 3 _ ∙ sym c.in_err-checked.ensures)

pub loop-before-preserved : goal.loop-before-preserved
loop-before-preserved c =
    let r = c.in_ok-checked.ensures in
    record {
      at = Earlier.next_at _ _ _ c.loop-before.invariant.at ∙ sym c.read32-b.ensures.is;
      low = c.read32-b.ensures.small;
      reached = r.0;
      placed = r.1;
    }

pub returns : goal.returns
returns c =
    let l = c.loop-before in
    let p = c.requires in
    let a = c.args in
    let all : l.before ≡ a.shape.blocks = omega (arith, l.auto.before-end, c.loop-before-test.false) in
    sym (Checking.reached_all _ _ _ (rw all at l.invariant.reached) ∙ rw (length_links (next_block a.image.now) a.shape.blocks 4, p.0))
