-- `directory::key::has_number` meets its contract. The invariant: what is still to be searched decides. Assumes nothing.
use Prim.Native.Nat.{◌+◌, ◌*◌}
use native.Mathlib.Omega.{arith}
use mathlib.Core.Path.{sym, ◌∙◌}
use mathlib.Core.Logic.{⊎_elim, inl, inr}
use lib.Dec.{eqb}
use borrow.Author.Tests.{eq-eqb, ne_eqb}
use Rattle.wire.specs.Numbers.{be}
use Rattle.answer.proofs.Tests.{or_either, or_neither}
use Rattle.directory.proofs.Keys
use Rattle.directory.proofs.key.has_number.Goals as goal

pub loop-i-init : goal.loop-i-init
loop-i-init c = Keys.rows_first _ _ _

pub returns-then-own-plain : goal.returns-then-own-plain
returns-then-own-plain c =
    let a = c.args in
    let is = c.read32-own.ensures.is in
    let either = ⊎_elim (λ e. inl (eq-eqb _ _ (sym is ∙ e))) (λ e. inr (eq-eqb _ _ (sym is ∙ e.1))) c.then-own-plain.either in
    sym (sym c.loop-i.invariant ∙ Keys.rows_hit _ _ _ _ c.loop-i-test.true (or_either (eqb (be 4 a.image.now (a.from + 12 * c.loop-i.i)) a.plain) (eqb (be 4 a.image.now (a.from + 12 * c.loop-i.i)) a.extended) either))

pub loop-i-preserved : goal.loop-i-preserved
loop-i-preserved c =
    let is = c.read32-own.ensures.is in
    let misses = or_neither _ _ (ne_eqb _ _ (λ e. c.if-own-plain.false (is ∙ e))) (ne_eqb _ _ (λ e. c.if-own-extended.false (is ∙ e))) in
    sym (Keys.rows_next _ _ _ _ c.loop-i-test.true misses) ∙ c.loop-i.invariant

pub returns : goal.returns
returns c = sym (sym c.loop-i.invariant ∙ Keys.rows_end _ _ _ (omega (arith, c.loop-i-test.false)))
