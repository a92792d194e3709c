-- `directory::doubts::note_block` meets its contract. The invariant: what holds of the slots before slot i. Assumes nothing.
use native.Mathlib.Omega.{arith}
use Rattle.directory.proofs.Earlier
use Rattle.directory.proofs.Doubting
use Rattle.directory.proofs.doubts.note_block.Goals as goal

pub loop-i-init : goal.loop-i-init
loop-i-init c =
    let p = c.requires in
    Doubting.noting_start _ _ _ _ _ p.2 p.3

pub loop-i-preserved : goal.loop-i-preserved
loop-i-preserved c =
    Doubting.noting_next _ _ _ _ _ _ _ c.loop-i.invariant _ (Earlier.slot_place _ _ _ c.requires.1.at _) _ _ c.note_slot.ensures

pub returns : goal.returns
returns c =
    let l = c.loop-i in
    let at = c.requires.1.at in
    Doubting.noting_done _ _ _ _ _ _ _ l.invariant (rw at (omega (arith, c.loop-i-test.false, l.auto.i-end, c.read16-count.ensures.is)))
