-- Lent memory after a call that is granted or refused. Assumes nothing.
use Prim.Native.Nat.{ℕ, zero, suc}
use mathlib.Core.Path.{◌≡◌, refl, sym, ap, ◌∙◌}
use mathlib.Core.List.{List, ◌++◌}
use lib.ListN.{length, drop, replicate}
use Rattle.answer.specs.Refusals.{number_of}
use Rattle.answer.specs.Answer.{Answer, grant, refuse_with, refuse, refusal}
use Rattle.answer.specs.declared.Refusal.{Refusal}
use Rattle.answer.specs.Lent.{laid_over, Does}
use Rattle.answer.proofs.Answer.{number_positive}

module _ {A : Type 0} (answer : Answer) (given lent : List A) where
  pub laid_refused : (answer.number ≡ 0 → ⊥) → laid_over answer given lent ≡ lent
  unfolding laid_over
  laid_refused z = go answer.number z
    where
      go : (n : ℕ) → (n ≡ 0 → ⊥) → ◌≡◌ {A = List A} (elim n [ zero ↦ given ++ drop (length given) lent | suc number ↦ lent ]) lent
      go zero z = absurd (z refl)
      go (suc n) z = refl

  pub laid_granted : answer.number ≡ 0 → laid_over answer given lent ≡ given ++ drop (length given) lent
  unfolding laid_over
  laid_granted e = rw (laid_over, e)

  -- a refusal leaves the memory
  pub refuses_with : (values : List ℕ) (n p : ℕ) → answer ≡ refuse_with values n p → (n ≡ 0 → ⊥) → Does answer given lent lent (refuse_with values n p)
  refuses_with values n p e z = record { answers = sym e; leaves = sym (laid_refused (λ q. z (sym (ap (λ a. a.number) e) ∙ q))) }

  pub refuses : (k : ℕ) (r : Refusal) → answer ≡ refuse k (number_of r.rule) r.place → Does answer given lent lent (refusal k r)
  refuses k r e = refuses_with (replicate k 0) (number_of r.rule) r.place e (number_positive r.rule)

  -- what is given lies at its front
  pub grants : (values : List ℕ) → answer ≡ grant values → (after : List A) → after ≡ given ++ drop (length given) lent → Does answer given lent after (grant values)
  grants values e after q = record { answers = sym e; leaves = q ∙ sym (laid_granted (ap (λ a. a.number) e)) }

-- the same by other numbers that are the answer
pub retold : {A : Type 0} {answer r n : Answer} {given before after : List A} → Does answer given before after r → n ≡ answer → Does answer given before after n
retold d e = record { answers = e; leaves = d.leaves }

-- the same by other numbers that say the same
pub restated : {A : Type 0} {answer r n : Answer} {given before after : List A} → n ≡ r → Does answer given before after r → Does answer given before after n
restated e d = record { answers = e ∙ d.answers; leaves = d.leaves }
