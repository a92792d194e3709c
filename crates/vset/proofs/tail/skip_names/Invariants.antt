-- `vset::tail::skip_names` meets its contract. The invariant: the names that are left end where all do. Assumes nothing.
use Prim.Native.Nat.{◌+◌, ◌*◌, ◌-◌, ◌≤◌}
use mathlib.Core.Path.{◌≡◌}
use Rattle.vset.specs.Tails.{names_end}
use Rattle.vset.proofs.tail.skip_names.Given as goal

abbrev pub invariant-loop : goal.invariant-loop
invariant-loop l = (names_end l.part (l.count - l.counter) l.end ≡ names_end l.part l.count l.at) × (l.end ≤ l.at + 65537 * l.counter)
