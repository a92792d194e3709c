-- Reading a record goes by its rules: it is granted exactly if all of them hold, and refused exactly as the first broken one says.
-- Assumes nothing.
use Prim.Native.Nat.{ℕ, suc, ◌<◌}
use native.Mathlib.Nat.{suc-ne-zero}
use native.Mathlib.Omega.{arith}
use mathlib.Core.Path.{◌≡◌, refl, sym, ap, ◌∙◌}
use mathlib.Core.Logic.{◌↔◌, ◌⊎◌, inl, inr}
use mathlib.Core.List.{List}
use mathlib.Core.Bool.{Bool, true, false, false≢true}
use Rattle.answer.specs.Answer.{Answer, refuse, unless_with, unless, in_room}
use Rattle.answer.specs.Search.{Hit, hit, miss, must}
use Rattle.answer.specs.Rules.{Rules, done, rule, AllHold, FirstBroken}
use Rattle.answer.specs.declared.Refusal.{Refusal}
use Rattle.answer.proofs.Tests.{same?, by_test, not_both}
use Rattle.answer.proofs.Rules.{Goes, goes_done, goes_rule, exactly, Below, broken_below}
use Rattle.answer.proofs.Answer.{unless_passes, unless_stops, refusal_is, number_positive}
use Rattle.directory.specs.Slots.{tag_at}
use Rattle.directory.specs.Opening.{open_of, opened}
use Rattle.directory.specs.Lookup.{find}
use Rattle.directory.specs.Rules.{Unstored}
use Rattle.directory.specs.Named.{Named, NamedUnstored}
use Rattle.directory.proofs.Slots.{unstored_is}
use Rattle.directory.proofs.Faults.{open_below}
use Rattle.directory.proofs.Named.{found_named, named_found}
use Rattle.directory.proofs.Opens.{opened_goes, opened_stops}
use Rattle.std.specs.Prelude.{Ok, Err}
use Rattle.answer.specs.Refusals.{number_of}
use Rattle.storage.specs.Elements.{part_at, element_at, plain_only, located_at}
use Rattle.storage.proofs.Elements.{plain_tag, unstored, plain, extended, kind_at}
use Rattle.records.specs.Readings.{record_at, record_of, record_bytes}
use Rattle.directory.specs.Faults.{opened_rules}
use Rattle.records.specs.RecordRules.{slot_in, plain_rules, record_rules}
use Rattle.records.proofs.Readings.{reads_refusal, reads_stopped, reads_passed, reads_bytes}

-- ---- Plain storage

-- what was found is refused, or its element stands at its slot and goes by the rules after these
module _ (Granted : Type 0) (Refused : ℕ → ℕ → Type 0) (s : List ℕ) (rest : Rules) where
  pub goes_plain : (found : Hit) → ((x : Refusal) → located_at s found ≡ Err x → Refused (number_of x.rule) x.place)
      → ((o n : ℕ) → located_at s found ≡ Ok (part_at (slot_in found) o n) → Goes rest Granted Refused) → Goes (plain_rules s found rest) Granted Refused
  unfolding element_at
  goes_plain miss refused stands =
      let none : (q : ℕ) → ◌≡◌ {A = Hit} miss (hit q) → ⊥ = λ q e. let z : ◌≡◌ {A = ℕ} 0 1 = cc in omega arith in
      goes_rule _ _ 11 0 _ _ (inr (λ h. none h.0 h.1)) (λ z. refused _ refl) (λ h. absurd (none h.0 h.1))
  goes_plain (hit p) refused stands =
      goes_rule _ _ 11 0 _ _ (inl (p, refl)) (λ z. absurd (z (p, refl)))
      (λ found. elim (kind_at s p) [
        | unstored u e ↦ goes_rule _ _ 29 p _ _ (inr (λ h. h u)) (λ y. refused _ (ap plain_only e)) (λ h. absurd (h u))
        | extended k x e ↦
            let z : ((tag_at s p < 16384) ⊎ (32767 < tag_at s p)) → ⊥ = λ h. not_both _ ((plain_tag s p).1 h) x in
            goes_rule _ _ 29 p _ _ (inl k) (λ y. absurd (y k))
            (λ y. goes_rule _ _ 12 p _ _ (inr z) (λ y. refused _ (ap plain_only e)) (λ h. absurd (z h)))
        | plain k x e ↦
            let h = (plain_tag s p).0 x in
            goes_rule _ _ 29 p _ _ (inl k) (λ y. absurd (y k))
            (λ y. goes_rule _ _ 12 p _ _ (inl h) (λ z. absurd (z h)) (λ y. stands _ _ (ap plain_only e)))
      ])

-- ---- 29

-- it is answered exactly if the element is not stored yet, where no rule after these has that number
module _ (s : List ℕ) (tag ref p : ℕ) where
  pub first_unstored : (open_of s).number ≡ 0 → (rest : Rules) → Below 29 rest → FirstBroken (plain_rules s (find s tag ref) rest) 29 p ↔ (Named s tag ref p × Unstored s p)
  first_unstored opens rest below = (
    (λ b. elim b [
      | inl x ↦ absurd (omega (arith, x.0))
      | inr ((q, f), inl (e, at, z)) ↦
          let same : p ≡ q = at ∙ ap slot_in f in
          let u : Unstored s p = elim (by_test _ _ (unstored_is s p)) [ inl u ↦ u | inr h ↦ absurd (z (rw at at h)) ] in
          (rw same (found_named s tag ref q f), u)
      | inr (f, inr (h, inl x)) ↦ absurd (omega (arith, x.0))
      | inr (f, inr (h, inr (t, x))) ↦ absurd (omega (arith, broken_below 29 29 p rest below x))
    ]),
    (λ h. let f = named_found s tag ref p opens h.0 in
        inr ((p, f), inl (refl, sym (ap slot_in f), λ k. rw (ap slot_in f) at k h.1))),
  )

  pub opened_unstored : (rest : Rules) → Below 29 rest → FirstBroken (opened_rules s (plain_rules s (find s tag ref) rest)) 29 p ↔ NamedUnstored s tag ref p
  opened_unstored rest below = (
    (λ b. elim b [
      | inl x ↦ absurd (omega (arith, open_below s, x.0))
      | inr (opens, x) ↦ let h = (first_unstored opens rest below).0 x in (opens, h.0, h.1)
    ]),
    (λ h. inr (h.0, (first_unstored h.0 rest below).1 (h.1, h.2))),
  )

-- ---- Answers by rules

-- an answer of k values is this refusal
abbrev pub Refuses : ℕ → Answer → ℕ → ℕ → Type 0
Refuses k a n p = (a ≡ refuse k n p) × (n ≡ 0 → ⊥)

abbrev pub By : ℕ → Rules → Answer → Type 0
By k R a = Goes R (a.number ≡ 0) (Refuses k a)

pub by_exactly : (k : ℕ) (R : Rules) (a : Answer) → By k R a → ((a.number ≡ 0) ↔ AllHold R) × ((n p : ℕ) → Refuses k a n p ↔ FirstBroken R n p)
by_exactly k R a g =
    exactly _ _ R g (λ z n p r. r.1 (ap (λ x. x.number) (sym r.0) ∙ z))
    (λ n p m q x y. let e = sym y.0 ∙ x.0 in (ap (λ w. w.number) e, ap (λ w. w.place) e))

-- a call that goes by the rules of an element and others answers 29 so
pub by_unstored : (k : ℕ) (a : Answer) (s : List ℕ) (tag ref : ℕ) (rest : Rules) → By k (opened_rules s (plain_rules s (find s tag ref) rest)) a → Below 29 rest
    → (p : ℕ) → (a ≡ refuse k 29 p) ↔ NamedUnstored s tag ref p
by_unstored k a s tag ref rest by below p =
    let first = (by_exactly k _ a by).1 29 p in
    let unstored = opened_unstored s tag ref p rest below in
    ((λ e. unstored.0 (first.0 (e, suc-ne-zero 28))), (λ h. (first.1 (unstored.1 h)).0))

module _ (k : ℕ) where
  pub by_same : (R : Rules) (a b : Answer) → a ≡ b → By k R b → By k R a
  by_same R a b e g = rw e g

  pub by_done : (a : Answer) → a.number ≡ 0 → By k done a
  by_done a e = goes_done (a.number ≡ 0) (Refuses k a) e

  -- a test at a place, before others, which holds exactly if the rule does
  pub by_must : (place : ℕ) (b : Bool) (m x : ℕ) (a : Answer) (Holds : Type 0) (rest : Rules) → (b ≡ true) ↔ Holds
      → (Holds → By k rest (unless k x place a)) → By k (rule (suc m) place Holds rest) (unless k (must b (suc m) x) place a)
  unfolding must unless_with
  by_must place true m x a Holds rest t r = let h = t.0 refl in goes_rule _ _ (suc m) place Holds rest (inl h) (λ z. absurd (z h)) r
  by_must place false m x a Holds rest t r =
      let z : Holds → ⊥ = λ h. false≢true (t.1 h) in
      goes_rule _ _ (suc m) place Holds rest (inr z) (λ y. (refl, suc-ne-zero m)) (λ h. absurd (z h))

  -- no test is left there
  pub by_rest : (place : ℕ) (a : Answer) (R : Rules) → By k R a → By k R (unless k 0 place a)
  unfolding unless_with
  by_rest place a R g = g

  -- 14, last
  pub by_room : (enough : Bool) (a : Answer) (Holds : Type 0) → (enough ≡ true) ↔ Holds → a.number ≡ 0 → By k (rule 14 0 Holds done) (in_room k enough a)
  unfolding in_room
  by_room enough a Holds t e = by_must 0 enough 13 0 a Holds done t (λ h. by_rest 0 a done (by_done a e))

  pub by_opened : (s : List ℕ) (a : Answer) (R : Rules) → By k R a → By k (opened_rules s R) (opened k s a)
  by_opened s a R g =
      goes_rule _ _ (open_of s).number (open_of s).place _ R (same? (open_of s).number 0) (λ z. (opened_stops k s a z, z))
      (λ e. by_same R _ a (opened_goes k s a e) g)

  module _ (s : List ℕ) (found : Hit) (fault : List ℕ → ℕ) (answer : ℕ → List ℕ → Answer) where
    -- a plain element: the first rule that its bytes break, or what the call goes on to
    reads_plain : (p o n : ℕ) → located_at s found ≡ Ok (part_at p o n)
        → let e = record_bytes s found in record_at k s found fault answer ≡ unless k (fault e) p (answer o e)
    reads_plain p o n l =
        let e = record_bytes s found in
        let b = reads_bytes s found _ refl _ l in
        elim (same? (fault e) 0) [
          | inl z ↦ reads_passed k s found fault answer _ refl _ l e b z ∙ sym (unless_passes k _ p _ z)
          | inr z ↦ reads_stopped k s found fault answer _ refl _ l e b _ refl z ∙ sym (unless_stops k _ p _ z)
        ]

    pub by_plain : (rest : Rules) → ((o : ℕ) → let e = record_bytes s found in By k rest (unless k (fault e) (slot_in found) (answer o e)))
        → By k (plain_rules s found rest) (record_at k s found fault answer)
    by_plain rest own =
        goes_plain _ _ s rest found
        (λ x e. (reads_refusal k s found fault answer _ refl x e ∙ refusal_is k x, number_positive x.rule))
        (λ o n l. by_same rest _ _ (reads_plain _ o n l) (own o))

  -- a record on an image, by the rules of its bytes and those after them
  pub by_record : (s : List ℕ) (tag ref : ℕ) (fault : List ℕ → ℕ) (answer : ℕ → List ℕ → Answer) (own : ℕ → List ℕ → Rules)
      → ((p o : ℕ) (e : List ℕ) → By k (own p e) (unless k (fault e) p (answer o e))) → By k (record_rules s tag ref own) (record_of k s tag ref fault answer)
  by_record s tag ref fault answer own g =
      by_opened s _ _ (by_plain s (find s tag ref) fault answer _ (λ o. g _ o _))
