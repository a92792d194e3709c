-- `journal::write::write_free_slots` meets its contract. The invariant: i slots are written. Assumes nothing.
use native.Mathlib.Omega.{arith}
use mathlib.Core.Path.{◌≡◌, refl}
use Rattle.wire.specs.Numbers.{put}
use Rattle.journal.specs.Edits.{free_slots}
use Rattle.journal.proofs.Runs
use Rattle.journal.proofs.write.write_free_slots.Goals as goal

pub loop-i-init : goal.loop-i-init
unfolding put free_slots
loop-i-init c = refl

pub loop-i-preserved : goal.loop-i-preserved
loop-i-preserved c = Runs.free_more _ _ c.loop-i.i c.loop-i.invariant c.write_slot.ensures

pub returns : goal.returns
returns c =
    let l = c.loop-i in
    let e : l.i ≡ c.args.count = omega arith in
    rw (← e) l.invariant
