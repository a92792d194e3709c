-- `storage::linked::Lookups::follow` meets its contract. The invariant: what is left of the walk is what the walk comes to. Assumes nothing.
use Prim.Native.Nat.{◌-◌}
use mathlib.Core.Path.{◌≡◌}
use Rattle.storage.proofs.Steps
use Rattle.storage.proofs.linked.Lookups.follow.Given as goal

abbrev pub invariant-loop-left : goal.invariant-loop-left
invariant-loop-left l = Steps.Following l.fn.self l.d l.initial.out l.marks l.count l.reference l.index l.left l.out × (l.self ≡ l.fn.self)

abbrev pub decreases-loop-left : goal.decreases-loop-left
decreases-loop-left l = 256 - l.count
