-- `directory::resume::find_from` meets its contract. Assumes nothing.
use native.Mathlib.Omega.{arith}
use Rattle.directory.specs.Lookup.{has}
use Rattle.directory.specs.Steps.Cursors.{Stands}
use Rattle.directory.specs.Steps.Resuming.{since, slots_hence}
use Rattle.directory.proofs.Resuming
use Rattle.directory.proofs.resume.find_from.Goals as goal
use Rattle.directory.proofs.resume.find_from.Goals.{After-find_ahead-at}

-- what the search from the cursor on comes to
hence : (c : After-find_ahead-at) → let a = c.args in Stands a.image.now c.find_ahead-at.result (since (has a.image.now a.tag a.reference) (slots_hence a.image.now a.from))
hence c = rw (← (c.standing.ensures c.args.image.now).is) c.find_ahead-at.ensures

pub returns-then-at-gt0 : goal.returns-then-at-gt0
returns-then-at-gt0 c = Resuming.resumed_here _ _ _ _ _ _ (hence (goal.at.returns-then-at-gt0 c).After-find_ahead-at) c.if-at-gt0.true

pub returns : goal.returns
returns c =
    let round = rw c.start.ensures.is at c.find_ahead.ensures in
    Resuming.resumed_round _ _ _ _ _ _ (hence (goal.at.returns c).After-find_ahead-at) (omega (arith, c.if-at-gt0.false)) _ round
