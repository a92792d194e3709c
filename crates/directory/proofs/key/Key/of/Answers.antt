-- `directory::key::Key::of` meets its contract. Assumes nothing.
use native.Mathlib.Omega.{arith}
use mathlib.Core.Path.{ap, ◌∙◌}
use Rattle.directory.specs.Slots.{base_tag}
use Rattle.directory.proofs.Keys
use Rattle.directory.proofs.key.Key.of.Goals as goal

pub returns : goal.returns
returns c =
    let t = c.read16.ensures in
    let r = c.read16-reference.ensures in
    record {
      kind = c.base-kind.ensures ∙ ap base_tag t.is;
      reference = r.is;
      low = omega (arith, c.base-kind.ensures, Keys.base_low c.read16.result, t.small);
      small = r.small;
    }
