-- The widths of types: 1, 2, 4 or 8 bytes. Assumes nothing.
use Prim.Native.Nat.{ℕ, ◌≤◌}
use native.Mathlib.Omega.{arith}
use mathlib.Core.Path.{◌≡◌}
use mathlib.Core.Logic.{inl, inr}
use Rattle.std.proofs.lemmas.Grind.{common_steps}
use Rattle.answer.proofs.Tests.{zero?}
use Rattle.vdata.specs.Steps.{Fixed}
use Rattle.records.specs.Types.{width_of, row_of}

pub width_fixed : (code : ℕ) → 1 ≤ width_of code → Fixed (width_of code)
unfolding width_of row_of
width_fixed code known = grind (arith, common_steps)

-- one that is not 1, 2 or 4 is 8
pub width_eight : (code width : ℕ) → width ≡ width_of code → 1 ≤ width_of code → (width ≡ 1 → ⊥) → (width ≡ 2 → ⊥) → (width ≡ 4 → ⊥) → 8 ≡ width_of code
width_eight code width w known a b c = grind (arith, width_fixed code known)

pub width_low : (code : ℕ) → width_of code ≤ 8
width_low code = elim (zero? (width_of code)) [ inl e ↦ omega arith | inr m ↦ grind (arith, width_fixed code (omega (arith, m.1))) ]
