-- `vhead::head::numbers_at` meets its contract. Assumes nothing.
use native.Mathlib.Omega.{arith}
use mathlib.Core.Path.{sym, ◌∙◌}
use Rattle.vhead.proofs.Heads
use Rattle.vhead.proofs.head.numbers_at.Goals as goal

pub field_at-requires : goal.field_at-requires
field_at-requires c = (c.read16.ensures.is ∙ sym (Heads.fields_count _), c.read16.ensures.small, omega (arith, c.ranges.i))
