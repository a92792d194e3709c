-- `directory::inside::read32` meets its contract. Assumes nothing.
use native.Mathlib.Omega.{arith}
use Rattle.wire.proofs.Numbers
use Rattle.directory.proofs.inside.read32.Goals as goal

pub returns : goal.returns
returns c =
    let a = c.args in
    record { is = omega (arith, Numbers.be_four a.image.now a.at); small = omega arith }
