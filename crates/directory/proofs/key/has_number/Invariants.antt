-- `directory::key::has_number` meets its contract. The invariant: what is still to be searched decides. Assumes nothing.
use Prim.Native.Nat.{◌+◌, ◌*◌, ◌-◌}
use mathlib.Core.Path.{◌≡◌}
use Rattle.answer.specs.Search.{any}
use Rattle.directory.specs.Slots.{rows}
use Rattle.directory.specs.Steps.Keys.{is_either}
use Rattle.directory.proofs.key.has_number.Given as goal

abbrev pub invariant-loop-i : goal.invariant-loop-i
invariant-loop-i l = any (is_either l.image l.plain l.extended) (rows (l.from + 12 * l.i) (l.count - l.i)) ≡ any (is_either l.image l.plain l.extended) (rows l.from l.count)
