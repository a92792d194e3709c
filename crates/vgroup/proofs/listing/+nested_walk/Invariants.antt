-- `vgroup::listing::nested` and `walk`, which call each other, meet their contracts. The measure is how many groups may still be entered.
-- Assumes nothing.
use Prim.Native.Nat.{◌+◌, ◌*◌}
use Rattle.vgroup.proofs.Listings
use Rattle.vgroup.proofs.listing.+nested_walk.Given as goal

abbrev pub decreases-nested : goal.decreases-nested
decreases-nested l = 2 * l.more + 1

abbrev pub decreases-walk : goal.decreases-walk
decreases-walk l = 2 * l.groups

abbrev pub invariant-walk-loop-i : goal.invariant-walk-loop-i
invariant-walk-loop-i l = Listings.Walking l.image l.part l.found.slot l.groups l.room l.at l.initial.table l.count l.table l.pairs l.i
