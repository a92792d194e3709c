-- `directory::gap::Gap::behind` meets its contract. Assumes nothing.
use Prim.Native.Nat.{◌+◌, ◌*◌}
use native.Mathlib.Omega.{arith}
use mathlib.Core.Path.{refl, ap, ◌∙◌}
use borrow.Author.Tests.{not-false}
use Rattle.directory.proofs.Gaps
use Rattle.directory.proofs.gap.Gap.behind.Goals as goal
use Rattle.directory.proofs.gap.Gap.behind.Goals.{then-left-eq1, else-left-eq1}

pub returns-then-not-shape : goal.returns-then-not-shape
returns-then-not-shape c = let p = c.requires in Gaps.placed_none _ _ p.0 _ c.none.ensures

pub returns : goal.returns
returns c =
    let p = c.requires in
    Gaps.placed_behind _ _ p.0 (not-false _ c.if-not-shape.false) _ _ p.1 (λ i. (c.type_inv.image i).fits) _
    (ap (λ n. c.args.b + 6 + 12 * n) c.read16.ensures.is)
    (λ h. elim c.if-left-eq1.branch [
      | then-left-eq1 w ↦ absurd (omega (arith, w.if-left-eq1.true))
      | else-left-eq1 w ↦ w.high-is ∙ w.read32-high.ensures.is
    ]) refl refl
