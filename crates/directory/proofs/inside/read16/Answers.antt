-- `directory::inside::read16` meets its contract. Assumes nothing.
use native.Mathlib.Omega.{arith}
use Rattle.wire.proofs.Numbers
use Rattle.directory.proofs.inside.read16.Goals as goal

pub returns : goal.returns
returns c =
    let a = c.args in
    record { is = omega (arith, Numbers.be_two a.image.now a.at); small = omega arith }
