-- `directory::slot::check_bytes` meets its contract. The invariant: what is still to be followed decides, and the blocks followed leave
-- the gap free. Assumes nothing.
use Prim.Native.Nat.{◌-◌}
use native.Mathlib.Omega.{arith}
use mathlib.Core.Path.{◌≡◌, sym, ap, ◌∙◌}
use mathlib.Core.Logic.{⊎_elim}
use mathlib.Core.Bool.{not}
use Rattle.answer.proofs.Search
use Rattle.directory.proofs.Links
use Rattle.directory.proofs.Blocks
use Rattle.directory.proofs.Gaps
use Rattle.directory.proofs.slot.check_bytes.Goals as goal
use Rattle.directory.proofs.slot.check_bytes.Goals.{In-loop-left, then-b-e+else-a-end, else-b-e}

pub returns-then-holds : goal.returns-then-holds
returns-then-holds c =
    let p = c.requires in
    let lies = c.holds.ensures c.if-holds.true in
    record { fault = sym (Search.must_holds _ _ _ (ap not (Gaps.between_off _ _ _ p.2.between _ _ lies.0 lies.1))); placed = p.2 }

pub returns-then-a-lt4 : goal.returns-then-a-lt4
returns-then-a-lt4 c =
    let p = c.requires in
    record { fault = sym (Search.must_fails _ _ _ (ap not (Blocks.meets_header _ _ _ _ c.if-a-lt4.true p.3))); placed = tt }

pub loop-left-init : goal.loop-left-init
loop-left-init c =
    let p = c.requires in
    let is = c.from_block-around.ensures in
    Gaps.search_start _ _ _ _ _ _ _ _ p.0 p.1 p.2 (omega (arith, c.if-a-lt4.false)) c.start-start.ensures (ap (λ g. g.low) is) (ap (λ g. g.block) is) (ap (λ g. g.left) is)

pub returns-then-a-end : goal.returns-then-a-end
returns-then-a-end c =
    let met = Links.follow_hit _ _ _ _ _ c.loop-left.invariant.follows c.loop-left-test.true (Blocks.meets_block_lem _ _ _ _ (rw c.read16.ensures.is at c.if-a-end.true) c.if-b-e.true) in
    record { fault = sym (Search.must_fails _ _ _ (ap not (Blocks.past_header _ _ _ _ c.if-a-lt4.false ∙ met))); placed = tt }

pub loop-left-preserved : goal.loop-left-preserved
loop-left-preserved c =
    let inv = c.loop-left.invariant in
    let more = c.loop-left-test.true in
    let r = c.read32-b.ensures in
    let small = rw r.is at r.small in
    elim c.if-b-e.branch [
      | then-b-e+else-a-end w ↦
          let g = w.from-around.ensures in
          let past = rw w.read16.ensures.is at g.1 in
          rw (r.is, w.around-is, w.left-is)
          (Gaps.search_next _ _ _ _ _ _ _ inv more small _ g.0 (omega (arith, g.2)) (rw (g.3, g.4) (Gaps.here_block _ _ _ _ _ _ _ inv more))
          (Blocks.past_block _ _ _ _ (rw w.read16.ensures.is at w.if-a-end.false)) (λ h. absurd (omega (arith, past))))
      | else-b-e w ↦
          let g = w.until-around.ensures in
          ⊎_elim
          (λ e. let n : c.if-b-e.left ≡ c.loop-left.left - 1 = w.left-is ∙ e in rw (r.is, w.around-is, n) (Gaps.search_next _ _ _ _ _ _ _ inv more small _ (omega (arith, g.0)) g.2 (rw (g.3, g.4) inv.block) (Blocks.before_block _ _ _ _ w.if-b-e.false) (λ h. g.1)))
          (λ e. let n : c.if-b-e.left ≡ 0 = w.left-is ∙ e.0 in rw (r.is, w.around-is, n) (Gaps.search_stop _ _ _ _ _ _ _ inv more small _ (omega (arith, g.0)) g.2 (rw (g.3, g.4) inv.block) (c.requires.0.rises e.1) w.if-b-e.false g.1))
          w.left_after-left.ensures
    ]

pub returns : goal.returns
returns c =
    let met = Links.follow_end _ _ _ _ _ c.loop-left.invariant.follows c.loop-left-test.false in
    record {
      fault = sym (Search.must_holds _ _ _ (ap not (Blocks.past_header _ _ _ _ c.if-a-lt4.false ∙ met)));
      placed = Gaps.search_gap _ _ _ _ _ _ _ c.loop-left.invariant c.loop-left-test.false;
    }
