-- `journal::restore` meets its contract. Assumes nothing.
use Prim.Native.Nat.{◌-◌}
use mathlib.Core.Path.{sym, ap}
use lib.Seq.{length-take-le}
use borrow.Author.Rules.{rules}
use Rattle.answer.specs.Refusals.{fault_of}
use Rattle.journal.proofs.Restores
use Rattle.journal.proofs.restore.Goals as goal

pub write_back-requires : goal.write_back-requires
write_back-requires c = Restores.place_low _ _ _ _ _ c.requires

pub slice_bounds-check_restored-end : goal.slice_bounds-check_restored-end
slice_bounds-check_restored-end c = Restores.front_fits _ _ _ _ _ c.requires c.write_back.ensures

pub slice_bounds-check_restored-end-2 : goal.slice_bounds-check_restored-end-2
slice_bounds-check_restored-end-2 c = sym (length-take-le _ _ (Restores.front_fits _ _ _ _ _ c.requires c.write_back.ensures))

pub returns-in-Ok : goal.returns-in-Ok
returns-in-Ok c = Restores.sound_leaves _ _ _ _ _ c.requires c.write_back.ensures _ _ c.check_restored.ensures (ap fault_of c.in-Ok.is)

pub write_back-requires-in-Err : goal.write_back-requires-in-Err
write_back-requires-in-Err c = Restores.present_low _ _ _ _ _ c.requires

pub overflow_sub-n : goal.overflow_sub-n
overflow_sub-n c = rw c.size_of.ensures (Restores.least _ _ _ _ _ c.requires)

pub returns-in-Err : goal.returns-in-Err
returns-in-Err c =
    rw c.at.ensures
    (Restores.unsound_leaves _ _ _ _ _ c.requires c.write_back.ensures _ _ c.check_restored.ensures (λ i. search rules)
    _ (ap fault_of c.in-Err.is) _ c.write_back-in-Err.ensures _ (ap (λ k. c.args.n - k) c.size_of.ensures))
