-- `wire::read8` meets its contract. Assumes nothing.
use native.Mathlib.Omega.{arith}
use Rattle.std.proofs.Common.{rules}
use Rattle.wire.specs.declared.ByteOrder.TheVariants.{BigEndian}
use Rattle.wire.proofs.Numbers
use Rattle.wire.proofs.read8.Goals as goal

pub returns-in-Some : goal.returns-in-Some
returns-in-Some c = Numbers.reads_byte BigEndian _ _ _ (let h = c.in-Some.ensures in search rules) (λ i. omega (arith, c.type_inv.s i))

pub returns-in-None : goal.returns-in-None
returns-in-None c = Numbers.reads_past BigEndian 1 _ _ (let h = c.in-None.ensures in search rules)
