-- `vdata::inside::high32` meets its contract. Assumes nothing.
use native.Mathlib.Omega.{arith}
use Rattle.wire.proofs.Numbers
use Rattle.vdata.proofs.inside.high32.Goals as goal

pub returns : goal.returns
returns c =
    let a = c.args in
    record { is = omega (arith, Numbers.be_four a.part.now a.at); small = omega arith }
