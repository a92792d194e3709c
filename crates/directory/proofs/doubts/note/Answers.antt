-- `directory::doubts::note` meets its contract. The invariant: what holds of the slots of the blocks so far. Assumes nothing.
use native.Mathlib.Omega.{arith}
use mathlib.Core.Path.{◌≡◌, refl, sym, ◌∙◌}
use Rattle.directory.proofs.Earlier
use Rattle.directory.proofs.Doubting
use Rattle.directory.proofs.doubts.note.Goals as goal
use Rattle.directory.proofs.doubts.note.Goals.{In-loop-before}

pub loop-before-init : goal.loop-before-init
loop-before-init c = Doubting.notes_start _ _ _ _ refl c.requires.1

pub loop-before-preserved : goal.loop-before-preserved
loop-before-preserved c =
    let inv = c.loop-before.invariant in
    Doubting.notes_next _ _ _ _ _ _ _ _ _ _ inv (Earlier.next_at _ _ _ inv.at ∙ sym c.read32-b.ensures.is) c.note_block.ensures

pub returns : goal.returns
returns c =
    let l = c.loop-before in
    let all : l.before ≡ c.args.shape.blocks = omega (arith, l.auto.before-end, c.loop-before-test.false) in
    record { wide = l.invariant.wide; keeps = l.invariant.keeps; spares = rw all at l.invariant.spares }
