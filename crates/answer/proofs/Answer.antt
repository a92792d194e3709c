-- An answer or a refusal. Assumes nothing.
use Prim.Native.Nat.{ℕ, zero, suc}
use native.Mathlib.Nat.{suc-ne-zero}
use mathlib.Core.Path.{◌≡◌, refl, sym, ap, ◌∙◌}
use mathlib.Core.Logic.{inl, inr}
use mathlib.Core.Bool.{Bool, true, false}
use mathlib.Core.List.{List, ◌∷◌}
use lib.ListN.{replicate}
use Rattle.answer.specs.Refusals.{SMALL, number_of}
use Rattle.answer.specs.Answer.{Answer, grant, refuse_with, refuse, carried, refuse_carrying, nothing, refusal_with, refusal, carrying, Proper, unless_with, unless, in_room}
use Rattle.answer.specs.Carried.{carries_none}
use Rattle.answer.specs.declared.refusals.Rule.{Rule}
use Rattle.answer.specs.declared.refusals.Rule.TheVariants as rule
use Rattle.answer.specs.declared.Refusal.{Refusal}
use Rattle.answer.specs.declared.Carrying.{Carrying}
use Rattle.answer.proofs.Tests.{test, same?, zero?}
use Rattle.answer.proofs.Search.{must_holds, must_fails}

-- ---- Rules in order

module _ (values : List ℕ) (n place : ℕ) (answer : Answer) where
  pub unless_with_passes : n ≡ 0 → unless_with values n place answer ≡ answer
  unfolding unless_with
  unless_with_passes e = ap (λ m. unless_with values m place answer) e

  pub unless_with_stops : (n ≡ 0 → ⊥) → unless_with values n place answer ≡ refuse_with values n place
  unfolding unless_with
  unless_with_stops z = elim (zero? n) [ inl e ↦ absurd (z e) | inr m ↦ rw m.1 ]

  -- a call that is not refused broke no rule
  unless_with_passed : (unless_with values n place answer).number ≡ 0 → n ≡ 0
  unless_with_passed e = elim (same? n 0) [ inl z ↦ z | inr z ↦ absurd (z (ap (λ a. a.number) (sym (unless_with_stops z)) ∙ e)) ]

module _ (k n place : ℕ) (answer : Answer) where
  pub unless_passes : n ≡ 0 → unless k n place answer ≡ answer
  unless_passes e = unless_with_passes (replicate k 0) n place answer e

  pub unless_stops : (n ≡ 0 → ⊥) → unless k n place answer ≡ refuse k n place
  unless_stops z = unless_with_stops (replicate k 0) n place answer z

  pub unless_passed : (unless k n place answer).number ≡ 0 → n ≡ 0
  unless_passed e = unless_with_passed (replicate k 0) n place answer e

-- ---- A refusal that is returned

-- every rule has a number
pub number_positive : (r : Rule) → number_of r ≡ 0 → ⊥
number_positive rule.TooLong = suc-ne-zero _
number_positive rule.NotHdf = suc-ne-zero _
number_positive rule.DirCut = suc-ne-zero _
number_positive rule.DirLoop = suc-ne-zero _
number_positive rule.DirOver = suc-ne-zero _
number_positive rule.DirBig = suc-ne-zero _
number_positive rule.BadTag = suc-ne-zero _
number_positive rule.Outside = suc-ne-zero _
number_positive rule.OnDirectory = suc-ne-zero _
number_positive rule.Twice = suc-ne-zero _
number_positive rule.Absent = suc-ne-zero _
number_positive rule.Storage = suc-ne-zero _
number_positive rule.Chain = suc-ne-zero _
number_positive rule.Small = suc-ne-zero _
number_positive rule.Record = suc-ne-zero _
number_positive rule.Type = suc-ne-zero _
number_positive rule.NoValue = suc-ne-zero _
number_positive rule.Present = suc-ne-zero _
number_positive rule.NoRoom = suc-ne-zero _
number_positive rule.NoEdit = suc-ne-zero _
number_positive rule.BadTrailer = suc-ne-zero _
number_positive rule.Deep = suc-ne-zero _
number_positive rule.NoTable = suc-ne-zero _
number_positive rule.ShortTable = suc-ne-zero _
number_positive rule.NoBlock = suc-ne-zero _
number_positive rule.ShortBlock = suc-ne-zero _
number_positive rule.TableLoop = suc-ne-zero _
number_positive rule.NotStored = suc-ne-zero _
number_positive rule.OtherDesk = suc-ne-zero _

module _ (values : List ℕ) (n p : ℕ) where
  pub refused_is : (n ≡ 0 → ⊥) → refusal_with values n p ≡ refuse_with values n p
  refused_is z = elim (zero? n) [ inl e ↦ absurd (z e) | inr m ↦ rw m.1 ]

  refused_number : (refusal_with values n p).number ≡ n
  refused_number = elim (zero? n) [ inl e ↦ rw e | inr m ↦ rw m.1 ]

  refused_nothing : n ≡ 0 → refusal_with values n p ≡ nothing
  refused_nothing e = rw e

module _ (k : ℕ) (r : Refusal) where
  pub refusal_is : refusal k r ≡ refuse k (number_of r.rule) r.place
  refusal_is = refl

  pub refusal_number : (refusal k r).number ≡ number_of r.rule
  refusal_number = refl

  -- it is not what a granted call answers
  pub refusal_told : (values : List ℕ) → refusal k r ≡ grant values → ⊥
  refusal_told values e = number_positive r.rule (sym refusal_number ∙ ap (λ a. a.number) e)

module _ (k : ℕ) (r : Carrying) where
  pub carrying_told : (answer : Answer) → carrying k r ≡ answer → refuse_carrying k (number_of r.rule) r.place r.value ≡ answer
  carrying_told answer is = is

-- a value of 0 is one zero more
carried_zero : (k : ℕ) → carried k 0 ≡ replicate (suc k) 0
carried_zero zero = refl
carried_zero (suc k) = ap (λ l. 0 ∷ l) (carried_zero k)

pub carrying_zero : (k : ℕ) (r : Refusal) → carrying k (carries_none r) ≡ refusal (suc k) r
carrying_zero k r = ap (λ l. refuse_with l (number_of r.rule) r.place) (carried_zero k)

-- ---- The shape of answers

module _ (k : ℕ) where
  pub proper_grant : (values : List ℕ) → Proper k (grant values)
  proper_grant values = record { granted = λ e. refl; refused = λ z. absurd (z refl) }

  pub proper_refuse : (n p : ℕ) → (n ≡ 0 → ⊥) → Proper k (refuse k n p)
  proper_refuse n p z = record { granted = λ e. absurd (z e); refused = λ h. refl }

  pub proper_refusal : (r : Refusal) → Proper k (refusal k r)
  proper_refusal r = rw (refusal_is k r) (proper_refuse (number_of r.rule) r.place (number_positive r.rule))

  pub proper_unless : (n place : ℕ) (answer : Answer) → Proper k answer → Proper k (unless k n place answer)
  unfolding unless_with
  proper_unless zero place answer h = h
  proper_unless (suc n) place answer h = proper_refuse (suc n) place (suc-ne-zero n)

  pub proper_room : (enough : Bool) (answer : Answer) → Proper k answer → Proper k (in_room k enough answer)
  unfolding in_room
  proper_room enough answer h = proper_unless _ 0 answer h

  -- a refusal that is a call's answer is told by its number, its place and zeros
  pub told : (r : Refusal) (answer : Answer) → refusal k r ≡ answer → refuse k (number_of r.rule) r.place ≡ answer
  told r answer is = sym (refusal_is k r) ∙ is

-- ---- What is lent

module _ (k : ℕ) (enough : Bool) (answer : Answer) where
  pub in_room_enough : enough ≡ true → in_room k enough answer ≡ answer
  unfolding in_room
  in_room_enough e = unless_passes k _ 0 answer (must_holds enough SMALL 0 e)

  pub in_room_short : enough ≡ false → in_room k enough answer ≡ refuse k SMALL 0
  unfolding in_room unless_with
  in_room_short e = ap (λ n. unless k n 0 answer) (must_fails enough SMALL 0 e)

  -- a call that is not refused had room
  pub in_room_passed : (in_room k enough answer).number ≡ 0 → (enough ≡ true) × (in_room k enough answer ≡ answer)
  in_room_passed z =
      elim (test enough) [
        | inl e ↦ (e, in_room_enough e)
        | inr e ↦ absurd (suc-ne-zero 13 (ap (λ a. a.number) (sym (in_room_short e)) ∙ z))
      ]
