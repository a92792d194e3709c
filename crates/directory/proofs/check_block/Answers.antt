-- `directory::check_block` meets its contract. The outer invariant: what the rest of the slots answers is the answer; the inner one: what is
-- still to be searched of the blocks before decides. Assumes nothing.
use Prim.Native.Nat.{◌+◌, ◌*◌, ◌<◌}
use native.Mathlib.Omega.{arith}
use Rattle.std.proofs.Math.Nat.{sub-zero}
use mathlib.Core.Path.{◌≡◌, sym, ap, ◌∙◌}
use Rattle.answer.specs.Refusals.{fault_of}
use Rattle.answer.specs.Search.{any}
use Rattle.answer.proofs.Answer.{number_positive}
use Rattle.directory.specs.Blocks.{slot_count}
use Rattle.directory.specs.Slots.{clash, element_fault, rows}
use Rattle.directory.specs.Rules.{Live}
use Rattle.directory.specs.Links.{block_after, blocks_after}
use Rattle.directory.specs.Steps.Keys.{Based}
use Rattle.directory.specs.Steps.Doubts.{slot_at}
use Rattle.directory.proofs.Earlier
use Rattle.directory.proofs.Keys
use Rattle.directory.proofs.Checking
use Rattle.directory.proofs.check_block.Goals as goal
use Rattle.directory.proofs.check_block.Goals.{In-loop-i, Else-read16-eq-FREE, In-Ok, After-of-key, In-loop-passed, After-is_among-in-loop-passed}

-- the slot at hand
place : (c : In-loop-i) → let a = c.args in a.b + 6 + 12 * c.loop-i.i ≡ slot_at a.image.now a.before c.loop-i.i
place c = Earlier.slot_place _ _ _ c.requires.1.at _

counted : (c : In-loop-i) → let a = c.args in c.read16-count.result ≡ slot_count a.image.now (block_after a.image.now a.before 4)
counted c = c.read16-count.ensures.is ∙ ap (slot_count _) (sym c.requires.1.at)

more : (c : In-loop-i) → let a = c.args in c.loop-i.i < slot_count a.image.now (block_after a.image.now a.before 4)
more c = omega (arith, c.loop-i-test.true, counted c)

alive : (c : Else-read16-eq-FREE) → let a = c.args in Live a.image.now (a.b + 6 + 12 * c.loop-i.i)
alive c h = c.if-read16-eq-FREE.false (c.read16.ensures.is ∙ h)

element : (c : In-Ok) → let a = c.args in
    element_fault a.image.now (blocks_after a.image.now a.shape.blocks 4) (a.b + 6 + 12 * c.loop-i.i) 0 ≡ 0
element c = sym c.check_element.ensures.fault ∙ ap fault_of c.in-Ok.is

-- what is known where earlier slots are searched
based : (c : After-of-key) → let a = c.args in Based a.image.now (a.b + 6 + 12 * c.loop-i.i)
based c =
    Keys.based _ _ _ (λ h. c.if-read16-eq-FREE.false (c.read16.ensures.is ∙ h)) (sym c.check_element.ensures.fault ∙ ap fault_of c.in-Ok.is)

-- whether a slot of the earlier block at hand clashes
among : (c : After-is_among-in-loop-passed) → let a = c.args in let b = c.loop-passed.earlier in
    Based a.image.now (a.b + 6 + 12 * c.loop-i.i) → c.is_among-in-loop-passed.result ≡ any (clash a.image.now (a.b + 6 + 12 * c.loop-i.i)) (rows (b + 6) (slot_count a.image.now b))
among c based = rw (← c.read16-in-loop-passed.ensures.is) (c.is_among-in-loop-passed.ensures _ c.of-key.ensures based)

pub loop-i-init : goal.loop-i-init
loop-i-init c =
    let p = c.requires in
    record { going = Checking.going_start _ _ _ _ p.1.more p.4; placed = p.2 }

pub loop-passed-init : goal.loop-passed-init
loop-passed-init c =
    let e = (goal.at.loop-passed-init c).In-loop-i in
    let p = c.requires in
    let k = c.of-key.ensures in
    let lives = alive (goal.at.loop-passed-init c).Else-read16-eq-FREE in
    let own = Checking.own_clear _ _ _ _ _ _ (place e) p.1.more (more e) p.3 lives _ k _ c.to_search.ensures
    (rw p.1.at (sym (c.is_among.ensures _ k (based (goal.at.loop-passed-init c).After-of-key)) ∙ c.if-is_among.false)) in
    rw sub-zero (Checking.search_start _ _ _ _ _ _ (place e) p.1.more (more e) p.3 lives _ k _ c.to_search-passed-end.ensures own)

pub loop-passed-preserved : goal.loop-passed-preserved
loop-passed-preserved c =
    let r = c.read32-earlier.ensures in
    rw r.is (Checking.search_next _ _ _ _ _ _ c.loop-passed.invariant (omega (arith, c.loop-passed-test.true)) (sym (among (goal.at.loop-passed-preserved c).After-is_among-in-loop-passed (based (goal.at.loop-passed-preserved c).After-of-key)) ∙ c.if-is_among-2.false) (rw r.is at r.small) _ (omega arith))

pub loop-i-preserved-then-read16-eq-FREE : goal.loop-i-preserved-then-read16-eq-FREE
loop-i-preserved-then-read16-eq-FREE c =
    let e = (goal.at.loop-i-preserved-then-read16-eq-FREE c).In-loop-i in
    let l = c.loop-i.invariant in
    record { going = Checking.going_free _ _ _ _ _ l.going _ (place e) (more e) (sym c.read16.ensures.is ∙ c.if-read16-eq-FREE.true); placed = l.placed }

pub loop-i-preserved : goal.loop-i-preserved
loop-i-preserved c =
    let e = (goal.at.loop-i-preserved c).In-loop-i in
    let alone = Checking.search_end _ _ _ _ _ _ c.loop-passed.invariant (omega (arith, c.loop-passed-test.false)) in
    record {
      going = Checking.going_good _ _ _ _ _ c.loop-i.invariant.going _ (place e) (more e) (alive (goal.at.loop-i-preserved c).Else-read16-eq-FREE) (element (goal.at.loop-i-preserved c).In-Ok) alone;
      placed = c.in-Ok.ensures.placed;
    }

pub returns-after-loop-i : goal.returns-after-loop-i
returns-after-loop-i c =
    let l = c.loop-i in
    let is = c.read16-count.ensures in
    let counted : c.read16-count.result ≡ slot_count _ (block_after _ _ 4) = is.is ∙ ap (slot_count _) (sym c.requires.1.at) in
    (Checking.going_done _ _ _ _ _ l.invariant.going (omega (arith, counted, is.small)) (omega (arith, l.auto.i-end, c.loop-i-test.false, counted)), l.invariant.placed)

pub returns-in-Err : goal.returns-in-Err
returns-in-Err c =
    let g = goal.at.returns-in-Err c in
    rw c.at.ensures
    (Checking.going_element _ _ _ _ _ c.loop-i.invariant.going _ (place g.In-loop-i) (more g.In-loop-i) (alive g.Else-read16-eq-FREE) _ (number_positive c.in-Err.rule) (sym (ap fault_of c.in-Err.is) ∙ c.check_element.ensures.fault))

pub returns-then-is_among : goal.returns-then-is_among
returns-then-is_among c =
    let p = c.requires in
    let k = c.of-key.ensures in
    rw c.at-then-is_among.ensures
    (Checking.going_twice _ _ _ _ _ c.loop-i.invariant.going _ (place (goal.at.returns-then-is_among c).In-loop-i) (more (goal.at.returns-then-is_among c).In-loop-i) (alive (goal.at.returns-then-is_among c).Else-read16-eq-FREE) (element (goal.at.returns-then-is_among c).In-Ok)
    (Checking.own_found _ _ _ _ _ _ (place (goal.at.returns-then-is_among c).In-loop-i) p.1.more (more (goal.at.returns-then-is_among c).In-loop-i) p.3 (alive (goal.at.returns-then-is_among c).Else-read16-eq-FREE) _ k _ c.to_search.ensures
    (rw p.1.at (sym (c.is_among.ensures _ k (based (goal.at.returns-then-is_among c).After-of-key)) ∙ c.if-is_among.true))))

pub returns-then-is_among-2 : goal.returns-then-is_among-2
returns-then-is_among-2 c =
    rw c.at-then-is_among-2.ensures
    (Checking.going_twice _ _ _ _ _ c.loop-i.invariant.going _ (place (goal.at.returns-then-is_among-2 c).In-loop-i) (more (goal.at.returns-then-is_among-2 c).In-loop-i) (alive (goal.at.returns-then-is_among-2 c).Else-read16-eq-FREE) (element (goal.at.returns-then-is_among-2 c).In-Ok)
    (Checking.search_hit _ _ _ _ _ _ c.loop-passed.invariant (omega (arith, c.loop-passed-test.true)) (sym (among (goal.at.returns-then-is_among-2 c).After-is_among-in-loop-passed (based (goal.at.returns-then-is_among-2 c).After-of-key)) ∙ c.if-is_among-2.true)))
