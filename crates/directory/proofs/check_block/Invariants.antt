-- `directory::check_block` meets its contract. The outer invariant: what the rest of the slots answers is the answer; the inner one: what is
-- still to be searched of the blocks before decides. Assumes nothing.
use Prim.Native.Nat.{ℕ, ◌-◌}
use Rattle.directory.proofs.Checking
use Rattle.directory.specs.Steps.Gaps.{Placed}
use Rattle.directory.specs.declared.gap.Gap.{Gap}
use mathlib.Core.List.{List}
use Rattle.directory.proofs.check_block.Given as goal

-- what holds before each slot
pub record Passing (image : List ℕ) (blocks before i live : ℕ) (gap : Gap) : Type 0 where
  pub going : Checking.Going image blocks before i live
  pub placed : Placed image blocks gap

abbrev pub invariant-loop-passed : goal.invariant-loop-passed
invariant-loop-passed l = Checking.Searching l.image l.before l.i l.p l.earlier (l._passed-end - l._passed)

abbrev pub invariant-loop-i : goal.invariant-loop-i
invariant-loop-i l = Passing l.image l.shape.blocks l.before l.i l.live l.gap
