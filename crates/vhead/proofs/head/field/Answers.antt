-- `vhead::head::field` meets its contract. Assumes nothing.
use native.Mathlib.Omega.{arith}
use mathlib.Core.Path.{sym, ◌∙◌}
use Rattle.vhead.proofs.Heads
use Rattle.vhead.proofs.head.field.Goals as goal

pub field_at-requires : goal.field_at-requires
field_at-requires c = (c.read16-fields.ensures.is ∙ sym (Heads.fields_count _), c.read16-fields.ensures.small, omega (arith, c.ranges.i))

pub returns : goal.returns
returns c =
    (Heads.named_field_lem _ _ _ _ _ _ c.read16-fields.ensures.is c.field_at.ensures.0 c.skip_names-at.ensures.0 c.read16.ensures.is, c.field_at.ensures.1, c.read16.ensures.small)
