-- `directory::cursor::SlotsIterator::next` meets its contract. Assumes nothing.
use native.Mathlib.Omega.{arith}
use mathlib.Core.Path.{◌≡◌, sym, ap, ◌∙◌}
use mathlib.Core.List.{◌∷◌}
use lib.ListN.{length}
use Rattle.directory.specs.Steps.Cursors.{ahead, stepped}
use Rattle.directory.proofs.Cursors
use Rattle.directory.proofs.cursor.SlotsIterator.next.Goals as goal
use Rattle.directory.proofs.cursor.SlotsIterator.next.Goals.{Else-at-eq0}

-- the slot that comes is the first of those that were left
first : (c : Else-at-eq0) → let w = c.args.self.now in let at = c.settled-at.result in ahead w.image.now w.at ≡ at.place ∷ ahead w.image.now (stepped at)
first c =
    let w = c.args.self.now in
    sym c.settled-at.ensures.is ∙ Cursors.ahead_here w.image.now c.settled-at.result (omega (arith, c.if-at-eq0.false))

pub returns-clause-steps : goal.returns-clause-steps
returns-clause-steps c = (first (goal.at.returns-clause-steps c).Else-at-eq0, omega (arith, c.settled-at.ensures.bounded.low, c.if-at-eq0.false))

pub returns-clause-goes : goal.returns-clause-goes
returns-clause-goes c =
    record { on = λ _. (tt, tt, omega (arith, ap length (first (goal.at.returns-clause-goes c).Else-at-eq0))); keeps = tt; rests = λ _. tt }
