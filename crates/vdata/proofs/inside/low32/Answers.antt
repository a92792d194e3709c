-- `vdata::inside::low32` meets its contract. Assumes nothing.
use native.Mathlib.Omega.{arith}
use Rattle.wire.proofs.Numbers
use Rattle.vdata.proofs.inside.low32.Goals as goal

pub returns : goal.returns
returns c =
    let a = c.args in
    record { is = omega (arith, Numbers.le_four a.part.now a.at); small = omega arith }
