-- `storage::linked::Lookups::among` meets its contract. The invariant: what is still to be followed decides. Assumes nothing.
use native.Mathlib.Omega.{arith}
use Rattle.std.proofs.Math.Nat.{sub-zero}
use Prim.Native.Nat.{◌+◌, ◌-◌}
use mathlib.Core.Path.{◌≡◌, refl, sym, ◌∙◌}
use borrow.Author.Tests.{eq-eqb, ne_eqb}
use Rattle.answer.proofs.Links
use Rattle.storage.proofs.linked.Lookups.among.Goals as goal

pub loop-passed-init : goal.loop-passed-init
loop-passed-init c = rw sub-zero (refl, refl)

pub returns-then-reference-table : goal.returns-then-reference-table
returns-then-reference-table c =
    (sym (Links.along_hit _ _ _ _ (omega (arith, c.loop-passed-test.true)) (eq-eqb _ _ c.if-reference-table.true)) ∙ c.loop-passed.invariant.0, c.loop-passed.invariant.1)

pub loop-passed-preserved : goal.loop-passed-preserved
loop-passed-preserved c =
    let h = rw c.loop-passed.invariant.1 at c.reference_in-table.ensures in
    let n : c.args.count - (c.loop-passed._passed + 1) ≡ c.args.count - c.loop-passed._passed - 1 = omega arith in (
      rw (h.0, n) (sym (Links.along_next _ _ _ _ (omega (arith, c.loop-passed-test.true)) (ne_eqb _ _ c.if-reference-table.false)) ∙ c.loop-passed.invariant.0),
      h.1,
    )

pub returns : goal.returns
returns c = (sym (Links.along_end _ _ _ _ (omega (arith, c.loop-passed-test.false))) ∙ c.loop-passed.invariant.0, c.loop-passed.invariant.1)
