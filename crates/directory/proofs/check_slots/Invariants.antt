-- `directory::check_slots` meets its contract. The invariant: what the slots of the blocks left answer is the answer. Assumes nothing.
use Prim.Native.Nat.{ℕ, ◌<◌}
use mathlib.Core.Path.{◌≡◌}
use mathlib.Core.List.{List}
use Rattle.directory.specs.Links.{block_after}
use Rattle.directory.specs.Steps.Gaps.{Placed}
use Rattle.directory.specs.Steps.Checks.{Reached}
use Rattle.directory.specs.declared.Checked.{Checked}
use Rattle.directory.proofs.check_slots.Given as goal

-- so many blocks are passed
pub record Passing (image : List ℕ) (blocks : ℕ) (checked : Checked) (b before : ℕ) : Type 0 where
  pub at : block_after image before 4 ≡ b
  pub low : b < 4294967296
  pub reached : Reached image blocks before checked.live
  pub placed : Placed image blocks checked.gap

abbrev pub invariant-loop-before : goal.invariant-loop-before
invariant-loop-before l = Passing l.image l.shape.blocks l.checked l.b l.before
