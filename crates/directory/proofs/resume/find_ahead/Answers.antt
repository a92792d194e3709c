-- `directory::resume::find_ahead` meets its contract. The invariant: what is still to be searched decides. Assumes nothing.
use native.Mathlib.Omega.{arith}
use mathlib.Core.Path.{sym, ap, ◌∙◌}
use lib.ListN.{length}
use Rattle.directory.specs.Lookup.{has}
use Rattle.directory.proofs.Cursors
use Rattle.directory.proofs.Resuming
use Rattle.directory.proofs.resume.find_ahead.Goals as goal

pub loop-at-smaller : goal.loop-at-smaller
loop-at-smaller c =
    let e = Cursors.ahead_here c.args.image.now c.loop-at.at c.loop-at-test.true in
    omega (arith, ap length c.advanced-at.ensures.is, ap length e)

pub loop-at-preserved : goal.loop-at-preserved
loop-at-preserved c = (
  Cursors.stands_self _ _ _ c.advanced-at.ensures,
  c.loop-at.invariant.1 ∙ Resuming.ahead_passed _ _ _ c.loop-at-test.true _ c.advanced-at.ensures (sym c.matches.ensures ∙ c.if-not-matches.true),
)

pub returns-else-not-matches : goal.returns-else-not-matches
returns-else-not-matches c =
    let l = c.loop-at.invariant in
    let found = Resuming.ahead_found c.args.image.now (has c.args.image.now c.args.tag c.args.reference) c.loop-at.at c.loop-at-test.true (sym c.matches.ensures ∙ c.if-not-matches.false) in
    rw (l.1 ∙ found) l.0

pub returns-after-loop-at : goal.returns-after-loop-at
returns-after-loop-at c =
    let l = c.loop-at.invariant in
    let none = Resuming.ahead_none c.args.image.now (has c.args.image.now c.args.tag c.args.reference) c.loop-at.at l.0 (omega (arith, c.loop-at-test.false)) in
    rw (l.1 ∙ none) l.0
