-- `storage::linked::Lookups::among` meets its contract. The invariant: what is still to be followed decides. Assumes nothing.
use Prim.Native.Nat.{◌-◌}
use mathlib.Core.Path.{◌≡◌}
use lib.Dec.{eqb}
use Rattle.answer.specs.Search.{any}
use Rattle.storage.specs.Tables.{tables_after}
use Rattle.storage.proofs.linked.Lookups.among.Given as goal

abbrev pub invariant-loop-passed : goal.invariant-loop-passed
invariant-loop-passed l =
    (any (eqb l.reference) (tables_after l.fn.self (l.count - l._passed) l.table) ≡ any (eqb l.reference) (tables_after l.fn.self l.count l.first)) × (l.self ≡ l.fn.self)
