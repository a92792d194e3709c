-- `directory::doubts::suspect_block` meets its contract. The invariant: what holds of the slots before slot i. Assumes nothing.
use native.Mathlib.Omega.{arith}
use Rattle.directory.proofs.Earlier
use Rattle.directory.proofs.Doubting
use Rattle.directory.proofs.doubts.suspect_block.Goals as goal
use Rattle.directory.proofs.doubts.suspect_block.Goals.{In-loop-i}

pub loop-i-init : goal.loop-i-init
loop-i-init c =
    let p = c.requires in
    Doubting.suspecting_start _ _ _ _ p.1 p.2

pub loop-i-preserved : goal.loop-i-preserved
loop-i-preserved c =
    Doubting.suspecting_next _ _ _ _ _ _ c.loop-i.invariant _ (Earlier.slot_place _ _ _ c.requires.0.at _) _ _ c.suspect_slot.ensures

pub returns : goal.returns
returns c =
    let l = c.loop-i in
    let at = c.requires.0.at in
    Doubting.suspecting_done _ _ _ _ _ _ l.invariant (rw at (omega (arith, c.loop-i-test.false, l.auto.i-end, c.read16-count.ensures.is)))
