-- `directory::chain::walk` meets its contract. The outer invariant: what is left of the chain is the chain; the inner one: what is still
-- to be followed of the earlier blocks decides. Assumes nothing.
use Prim.Native.Nat.{◌+◌, ◌*◌, ◌≤◌, ◌<◌}
use native.Mathlib.Omega.{arith}
use Rattle.std.proofs.Math.Nat.{sub-zero}
use mathlib.Core.Path.{◌≡◌, sym, ◌∙◌}
use mathlib.Core.Bool.{true, false, true≢false}
use lib.Dec.{eqb}
use borrow.Author.Tests.{leb-true}
use lib.ListN.{length}
use Rattle.answer.specs.Search.{any}
use Rattle.directory.specs.Blocks.{meets_block, next_block, block_end, block_fault}
use Rattle.directory.specs.Links.{blocks_after}
use Rattle.answer.proofs.Links.{length_links}
use Rattle.directory.proofs.Links
use Rattle.directory.proofs.Blocks
use Rattle.directory.proofs.chain.walk.Goals as goal
use Rattle.directory.proofs.chain.walk.Goals.{else-b-end-via-then-b-end+else-at-b, else-b-end-via-else-b-end, then-rising, else-rising, After-max-top, After-loop-passed, Else-blocks-eq-MOST_BLOCKS, Else-image-end, Else-seen_below}

-- the block is none of the earlier ones
fresh : (c : Else-seen_below) → any (eqb c.chain.at) (blocks_after c.args.image.now c.chain.blocks 4) ≡ false
fresh c = sym c.seen_below.ensures ∙ c.if-seen_below.false

few : (c : Else-blocks-eq-MOST_BLOCKS) → length (blocks_after c.args.image.now c.chain.blocks 4) < 256
few c =
    rw (length_links (next_block c.args.image.now) c.chain.blocks 4) (omega (arith, c.chain.invariant.most, c.if-blocks-eq-MOST_BLOCKS.false))

-- the block lies inside the image
whole : (c : Else-image-end) → block_end c.args.image.now c.chain.at ≤ length c.args.image.now
whole c = rw c.read16-count.ensures.is at c.if-image-end.false

-- what the tests before the search of the earlier blocks tell
clear : (c : Else-image-end) → Blocks.Clear c.args.image.now c.chain.at c.chain.blocks c.chain.slots
clear c =
    record {
      fresh = sym c.seen_below.ensures ∙ c.if-seen_below.false;
      few = omega (arith, c.chain.invariant.most, c.if-blocks-eq-MOST_BLOCKS.false);
      header = c.if-image-at.false;
      room = rw c.read16-count.ensures.is at c.if-slots-count-gt-MOST_SLOTS.false;
      whole = whole c;
    }

-- no earlier block meets the one at hand
good : (c : After-loop-passed) → Blocks.Clear c.args.image.now c.chain.at c.chain.blocks c.chain.slots → block_fault c.args.image.now (blocks_after c.args.image.now c.chain.blocks 4) c.chain.slots c.chain.at ≡ 0
good c k =
    let met = Links.follow_end _ _ _ _ _ c.loop-passed.invariant (omega (arith, c.loop-passed-test.false)) in
    Blocks.apart _ _ _ _ k (Blocks.past_header _ _ _ _ c.if-at-lt4.false ∙ rw c.read16-count.ensures.is at met)

-- whether the chain still rises
rises : (c : After-max-top) → c.if-rising.rising ≡ true → (c.chain.rising ≡ true) × (c.chain.top ≤ c.chain.at)
rises c e =
    elim c.if-rising.branch [
      | then-rising w ↦ (w.if-rising.true, leb-true _ _ (sym w.rising-is ∙ e))
      | else-rising w ↦ absurd (true≢false (sym e ∙ w.rising-is ∙ w.if-rising.false))
    ]

pub chain-init : goal.chain-init
chain-init c = Blocks.start _

pub loop-passed-init : goal.loop-passed-init
loop-passed-init c = rw sub-zero (Blocks.compare_from _ _ _ _ _ _ c.chain.invariant.ended c.to_compare-passed-end.ensures)

pub loop-passed-preserved : goal.loop-passed-preserved
loop-passed-preserved c =
    let r = c.read32-b.ensures in
    let misses : meets_block c.args.image.now c.chain.at (c.chain.at + 6 + 12 * c.read16-count.result) c.loop-passed.b ≡ false =
    elim c.else-b-end.branch [
      | else-b-end-via-then-b-end+else-at-b w ↦ Blocks.past_block _ _ _ _ (rw w.read16.ensures.is at w.if-at-b.false)
      | else-b-end-via-else-b-end w ↦ Blocks.before_block _ _ _ _ w.if-b-end.false
    ] in
    rw r.is (Links.follow_next _ _ _ _ _ c.loop-passed.invariant (omega (arith, c.loop-passed-test.true)) misses (rw r.is at r.small) _ (omega arith))

pub chain-preserved : goal.chain-preserved
chain-preserved c =
    let k = clear (goal.at.chain-preserved c).Else-image-end in
    let is = c.read16-count.ensures.is in
    let r = c.read32-next.ensures in
    rw (is, r.is) (Blocks.next _ _ _ _ _ _ c.chain.invariant (good (goal.at.chain-preserved c).After-loop-passed k) k.few _ (omega (arith, c.max-top.ensures)) (omega (arith, c.max-top.ensures, is)) (omega (arith, c.max-top.ensures, c.chain.invariant.inside, c.if-image-end.false)) k.room (λ e. c.if-next-eq0.false (r.is ∙ e)) (rw r.is at r.small) _ (rises (goal.at.chain-preserved c).After-max-top))

pub returns-then-seen_below : goal.returns-then-seen_below
returns-then-seen_below c = rw c.at.ensures (Blocks.stopped _ _ _ _ _ _ c.chain.invariant 3 (Blocks.fault_loop _ _ _ _ (sym c.seen_below.ensures ∙ c.if-seen_below.true)))

pub returns-then-blocks-eq-MOST_BLOCKS : goal.returns-then-blocks-eq-MOST_BLOCKS
returns-then-blocks-eq-MOST_BLOCKS c =
    let many : 256 ≤ length (blocks_after c.args.image.now c.chain.blocks 4) = rw (length_links (next_block c.args.image.now) c.chain.blocks 4) (omega (arith, c.if-blocks-eq-MOST_BLOCKS.true)) in
    rw c.at-then-blocks-eq-MOST_BLOCKS.ensures (Blocks.stopped _ _ _ _ _ _ c.chain.invariant 5 (Blocks.fault_blocks _ _ _ _ (fresh (goal.at.returns-then-blocks-eq-MOST_BLOCKS c).Else-seen_below) many))

pub returns-then-image-at : goal.returns-then-image-at
returns-then-image-at c =
    rw c.at-then-image-at.ensures (Blocks.stopped _ _ _ _ _ _ c.chain.invariant 2 (Blocks.fault_header _ _ _ _ (fresh (goal.at.returns-then-image-at c).Else-seen_below) (few (goal.at.returns-then-image-at c).Else-blocks-eq-MOST_BLOCKS) c.if-image-at.true))

pub returns-then-slots-count-gt-MOST_SLOTS : goal.returns-then-slots-count-gt-MOST_SLOTS
returns-then-slots-count-gt-MOST_SLOTS c =
    rw c.at-then-slots-count-gt-MOST_SLOTS.ensures (Blocks.stopped _ _ _ _ _ _ c.chain.invariant 5 (Blocks.fault_slots _ _ _ _ (fresh (goal.at.returns-then-slots-count-gt-MOST_SLOTS c).Else-seen_below) (few (goal.at.returns-then-slots-count-gt-MOST_SLOTS c).Else-blocks-eq-MOST_BLOCKS) c.if-image-at.false (rw c.read16-count.ensures.is at c.if-slots-count-gt-MOST_SLOTS.true)))

pub returns-then-image-end : goal.returns-then-image-end
returns-then-image-end c =
    let is = c.read16-count.ensures.is in
    rw c.at-then-image-end.ensures (Blocks.stopped _ _ _ _ _ _ c.chain.invariant 2 (Blocks.fault_whole _ _ _ _ (fresh (goal.at.returns-then-image-end c).Else-seen_below) (few (goal.at.returns-then-image-end c).Else-blocks-eq-MOST_BLOCKS) c.if-image-at.false (rw is at c.if-slots-count-gt-MOST_SLOTS.false) (rw is at c.if-image-end.true)))

pub returns-then-at-lt4 : goal.returns-then-at-lt4
returns-then-at-lt4 c =
    rw c.at-then-at-lt4.ensures (Blocks.stopped _ _ _ _ _ _ c.chain.invariant 4 (Blocks.over _ _ _ _ (clear (goal.at.returns-then-at-lt4 c).Else-image-end) (Blocks.meets_header _ _ _ _ c.if-at-lt4.true (omega arith))))

pub returns-then-at-b : goal.returns-then-at-b
returns-then-at-b c =
    let met = Links.follow_hit _ _ _ _ _ c.loop-passed.invariant (omega (arith, c.loop-passed-test.true)) (Blocks.meets_block_lem _ _ _ _ (rw c.read16.ensures.is at c.if-at-b.true) c.if-b-end.true) in
    rw c.at-then-at-b.ensures (Blocks.stopped _ _ _ _ _ _ c.chain.invariant 4 (Blocks.over _ _ _ _ (clear (goal.at.returns-then-at-b c).Else-image-end) (Blocks.past_header _ _ _ _ c.if-at-lt4.false ∙ rw c.read16-count.ensures.is at met)))

pub returns-then-next-eq0 : goal.returns-then-next-eq0
returns-then-next-eq0 c =
    let is = c.read16-count.ensures.is in
    rw is (Blocks.last _ _ _ _ _ _ c.chain.invariant (good (goal.at.returns-then-next-eq0 c).After-loop-passed (clear (goal.at.returns-then-next-eq0 c).Else-image-end)) (clear (goal.at.returns-then-next-eq0 c).Else-image-end).few _ (omega (arith, c.max-top.ensures)) (omega (arith, c.max-top.ensures, is)) (omega (arith, c.max-top.ensures, c.chain.invariant.inside, c.if-image-end.false)) _ (rises (goal.at.returns-then-next-eq0 c).After-max-top) (sym c.read32-next.ensures.is ∙ c.if-next-eq0.true))
