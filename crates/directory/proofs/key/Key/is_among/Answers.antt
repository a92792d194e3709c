-- `directory::key::Key::is_among` meets its contract. Assumes nothing.
use native.Mathlib.Omega.{arith}
use mathlib.Core.Path.{◌∙◌}
use Rattle.directory.proofs.Keys
use Rattle.directory.proofs.key.Key.is_among.Goals as goal
use Rattle.directory.proofs.key.Key.is_among.Goals.{then-self-lt-EXTENDED_FIRST, else-self-lt-EXTENDED_FIRST}

pub returns-then-self-eq-LONE : goal.returns-then-self-eq-LONE
returns-then-self-eq-LONE c = λ p w b. c.has_lone.ensures ∙ Keys.lone_among _ (λ i. (c.type_inv.image i).fits) _ _ w b _ c.if-self-eq-LONE.true

pub returns : goal.returns
returns c =
    λ p w b. c.has_number.ensures ∙ elim c.if-self-lt-EXTENDED_FIRST.branch [
      | then-self-lt-EXTENDED_FIRST l ↦ rw l.extended-is (Keys.low_among _ (λ i. (c.type_inv.image i).fits) _ _ w b _ c.if-self-eq-LONE.false l.if-self-lt-EXTENDED_FIRST.true)
      | else-self-lt-EXTENDED_FIRST l ↦ rw l.extended-is (Keys.high_among _ (λ i. (c.type_inv.image i).fits) _ _ w b _ c.if-self-eq-LONE.false (omega (arith, l.if-self-lt-EXTENDED_FIRST.false)))
    ]
