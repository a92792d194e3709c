-- `wire::byte` meets its contract. Assumes nothing.
use mathlib.Core.Path.{sym}
use Rattle.wire.proofs.Numbers
use Rattle.wire.proofs.byte.Goals as goal

pub returns : goal.returns
returns g c = sym (Numbers.byte_of g.row.WIDTH c.args.x c.args.i c.requires.1)
