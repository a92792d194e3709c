-- `directory::key::mark_at` meets its contract. Assumes nothing.
use native.Mathlib.Omega.{arith}
use Rattle.directory.proofs.Keys
use Rattle.directory.proofs.key.mark_at.Goals as goal

pub returns : goal.returns
returns c = (Keys.word_mark _ (λ i. (c.type_inv.image i).fits) _ _ c.read32-own.ensures.is, omega arith)
