-- `directory::resume::find_ahead` meets its contract. The invariant: what is still to be searched decides. Assumes nothing.
use mathlib.Core.Path.{◌≡◌}
use lib.ListN.{length}
use Rattle.directory.specs.Lookup.{has}
use Rattle.directory.specs.Steps.Cursors.{Stands, ahead}
use Rattle.directory.specs.Steps.Resuming.{since}
use Rattle.directory.proofs.resume.find_ahead.Given as goal

abbrev pub invariant-loop-at : goal.invariant-loop-at
invariant-loop-at l =
    Stands l.image l.at (ahead l.image l.at) × (since (has l.image l.tag l.reference) (ahead l.image l.initial.at) ≡ since (has l.image l.tag l.reference) (ahead l.image l.at))

abbrev pub decreases-loop-at : goal.decreases-loop-at
decreases-loop-at l = length (ahead l.image l.at)
