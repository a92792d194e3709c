-- `directory::doubts::clashes` meets its contract. The invariant: what is still to be searched of the blocks before decides. Assumes nothing.
use Prim.Native.Nat.{◌+◌, ◌*◌}
use native.Mathlib.Omega.{arith}
use mathlib.Core.Path.{◌≡◌, sym, ◌∙◌}
use mathlib.Core.Bool.{true≢false}
use Rattle.answer.specs.Search.{any}
use Rattle.directory.specs.Blocks.{slot_count}
use Rattle.directory.specs.Slots.{clash, rows}
use Rattle.directory.specs.Steps.Keys.{Based}
use Rattle.directory.proofs.Earlier
use Rattle.directory.proofs.Checking
use Rattle.directory.proofs.doubts.clashes.Goals as goal
use Rattle.directory.proofs.doubts.clashes.Goals.{After-is_among-in-loop-passed, Else-key-eq-FREE, In-loop-passed, Start}

based : (c : Else-key-eq-FREE) → let a = c.args in Based a.image.now (a.b + 6 + 12 * a.i)
based c h = c.if-key-eq-FREE.false (c.of-key.ensures.kind ∙ h)

-- whether a slot of the earlier block at hand clashes
among : (c : After-is_among-in-loop-passed) → let a = c.args in let b = c.loop-passed.earlier in
    c.is_among-in-loop-passed.result ≡ any (clash a.image.now (a.b + 6 + 12 * a.i)) (rows (b + 6) (slot_count a.image.now b))
among c = rw (← c.read16.ensures.is) (c.is_among-in-loop-passed.ensures _ c.of-key.ensures ((λ h. c.if-key-eq-FREE.false (c.of-key.ensures.kind ∙ h))))

pub returns-then-key-eq-FREE : goal.returns-then-key-eq-FREE
returns-then-key-eq-FREE c = λ e. absurd (true≢false e)

pub loop-passed-init : goal.loop-passed-init
loop-passed-init c =
    let p = c.requires in
    Checking.search_all _ _ _ _ _ (omega arith) (rw p.1.at (sym (c.is_among.ensures _ c.of-key.ensures (based (goal.at.loop-passed-init c).Else-key-eq-FREE)) ∙ c.if-is_among.false))

pub returns-then-is_among-2 : goal.returns-then-is_among-2
returns-then-is_among-2 c = λ e. absurd (true≢false e)

pub loop-passed-preserved : goal.loop-passed-preserved
loop-passed-preserved c =
    let r = c.read32-earlier.ensures in
    rw r.is (Checking.search_next _ _ _ _ _ _ c.loop-passed.invariant (omega (arith, c.loop-passed-test.true)) (sym (among (goal.at.loop-passed-preserved c).After-is_among-in-loop-passed) ∙ c.if-is_among-2.false) (rw r.is at r.small) _ (omega arith))

pub returns : goal.returns
returns c = λ e. rw (← Earlier.slot_place _ _ _ c.requires.1.at c.args.i) (Checking.search_end _ _ _ _ _ _ c.loop-passed.invariant (omega (arith, c.loop-passed-test.false)))
