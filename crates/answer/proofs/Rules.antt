-- A result that goes by rules is granted exactly if all of them hold, and refused exactly as the first broken one says. Assumes nothing.
use Prim.Native.Nat.{ℕ, suc, ◌<◌}
use native.Mathlib.Nat.{suc-ne-zero}
use mathlib.Core.Path.{◌≡◌, refl, sym, ◌∙◌}
use mathlib.Core.Logic.{◌↔◌, ◌⊎◌, inl, inr}
use mathlib.Core.Bool.{Bool, true, false, false≢true}
use Rattle.answer.specs.Search.{must}
use Rattle.answer.specs.Rules.{Rules, done, rule, AllHold, FirstBroken, followed}

-- every rule up to the first broken one is known to hold, and that one not to
abbrev pub Decided : Rules → Type 0
Decided done = Unit {0}
Decided (rule number place Holds rest) = (Holds → ⊥) ⊎ (Holds × Decided rest)

-- all rules hold, or one is the first that does not
pub judged : (R : Rules) → Decided R → AllHold R ⊎ ((n : ℕ) × (p : ℕ) × FirstBroken R n p)
judged done d = inl tt
judged (rule number place Holds rest) (inl z) = inr (number, place, inl (refl, refl, z))
judged (rule number place Holds rest) (inr d) =
    elim (judged rest d.1) [ inl a ↦ inl (d.0, a) | inr b ↦ inr (b.0, b.1, inr (d.0, b.2)) ]

-- a result, of which it is known what being granted and being refused mean, goes by the rules
pub record Goes (R : Rules) (Granted : Type 0) (Refused : ℕ → ℕ → Type 0) : Type 0 where
  pub decided : Decided R
  pub grants : AllHold R → Granted
  pub refuses : (n p : ℕ) → FirstBroken R n p → Refused n p

module _ (Granted : Type 0) (Refused : ℕ → ℕ → Type 0) where
  pub goes_done : Granted → Goes done Granted Refused
  goes_done g = record { decided = tt; grants = λ a. g; refuses = λ n p b. absurd b }

  -- one rule before others
  pub goes_rule : (number place : ℕ) (Holds : Type 0) (rest : Rules) → Holds ⊎ (Holds → ⊥) → ((Holds → ⊥) → Refused number place)
      → (Holds → Goes rest Granted Refused) → Goes (rule number place Holds rest) Granted Refused
  goes_rule number place Holds rest (inl h) broken holds =
      let r = holds h in
      record {
        decided = inr (h, r.decided);
        grants = λ a. r.grants a.1;
        refuses = λ n p b. elim b [ inl x ↦ absurd (x.2 h) | inr x ↦ r.refuses n p x.1 ];
      }
  goes_rule number place Holds rest (inr z) broken holds =
      record {
        decided = inl z;
        grants = λ a. absurd (z a.0);
        refuses = λ n p b. elim b [ inl x ↦ rw (x.0, x.1) (broken z) | inr x ↦ absurd (z x.0) ];
      }

  -- where no result is both, and a refusal has one number and one place, both directions
  pub exactly : (R : Rules) → Goes R Granted Refused → (Granted → (n p : ℕ) → Refused n p → ⊥)
      → ((n p m q : ℕ) → Refused n p → Refused m q → (m ≡ n) × (q ≡ p))
      → (Granted ↔ AllHold R) × ((n p : ℕ) → Refused n p ↔ FirstBroken R n p)
  exactly R g apart one = (
    (
      (λ x. elim (judged R g.decided) [ inl a ↦ a | inr b ↦ absurd (apart x b.0 b.1 (g.refuses b.0 b.1 b.2)) ]),
      g.grants,
    ),
    (λ n p. (
      (λ x. elim (judged R g.decided) [
        | inl a ↦ absurd (apart (g.grants a) n p x)
        | inr b ↦ let e = one b.0 b.1 n p (g.refuses b.0 b.1 b.2) x in rw (e.0, e.1) b.2
      ]),
      g.refuses n p,
    )),
  )

-- ---- A number that goes by rules which are judged at one place

abbrev pub IsFault : ℕ → ℕ → ℕ → ℕ → Type 0
IsFault fault place n p = (fault ≡ n) × (n ≡ 0 → ⊥) × (p ≡ place)

-- the number is 0 where all of them hold, and else that of the first broken one
abbrev pub Tells : Rules → ℕ → ℕ → Type 0
Tells R place fault = Goes R (fault ≡ 0) (IsFault fault place)

pub tells_done : (place : ℕ) → Tells done place 0
tells_done place = goes_done (◌≡◌ {A = ℕ} 0 0) (IsFault 0 place) refl

-- one test before others, which holds exactly if the rule does
pub tells_must : (place : ℕ) (b : Bool) (m x : ℕ) (Holds : Type 0) (rest : Rules) → (b ≡ true) ↔ Holds → Tells rest place x
    → Tells (rule (suc m) place Holds rest) place (must b (suc m) x)
unfolding must
tells_must place true m x Holds rest t r =
    let h = t.0 refl in goes_rule (x ≡ 0) (IsFault x place) (suc m) place Holds rest (inl h) (λ z. absurd (z h)) (λ k. r)
tells_must place false m x Holds rest t r =
    let z : Holds → ⊥ = λ h. false≢true (t.1 h) in
    goes_rule (suc m ≡ 0) (IsFault (suc m) place) (suc m) place Holds rest (inr z) (λ k. (refl, suc-ne-zero m, refl)) (λ h. absurd (z h))

pub tells_judged : (R : Rules) (place fault : ℕ) → Tells R place fault → AllHold R ⊎ ((n : ℕ) × FirstBroken R n place)
tells_judged R place fault t =
    elim (judged R t.decided) [ inl a ↦ inl a | inr b ↦ inr (b.0, rw (t.refuses b.0 b.1 b.2).2 at b.2) ]

-- ---- Rules, then others

decided_then : (R S : Rules) → Decided R → (AllHold R → Decided S) → Decided (followed R S)
decided_then done S d after = after tt
decided_then (rule number place Holds rest) S (inl z) after = inl z
decided_then (rule number place Holds rest) S (inr d) after = inr (d.0, decided_then rest S d.1 (λ a. after (d.0, a)))

all_then : (R S : Rules) → AllHold (followed R S) → AllHold R × AllHold S
all_then done S a = (tt, a)
all_then (rule number place Holds rest) S a = let r = all_then rest S a.1 in ((a.0, r.0), r.1)

pub broken_then : (R S : Rules) (n p : ℕ) → FirstBroken (followed R S) n p → FirstBroken R n p ⊎ (AllHold R × FirstBroken S n p)
broken_then done S n p b = inr (tt, b)
broken_then (rule number place Holds rest) S n p (inl b) = inl (inl b)
broken_then (rule number place Holds rest) S n p (inr b) =
    elim (broken_then rest S n p b.1) [ inl x ↦ inl (inr (b.0, x)) | inr x ↦ inr ((b.0, x.0), x.1) ]

pub first_then : (R S : Rules) (n p : ℕ) → FirstBroken R n p → FirstBroken (followed R S) n p
first_then done S n p b = absurd b
first_then (rule number place Holds rest) S n p (inl b) = inl b
first_then (rule number place Holds rest) S n p (inr b) = inr (b.0, first_then rest S n p b.1)

pub then_broken : (R S : Rules) (n p : ℕ) → AllHold R → FirstBroken S n p → FirstBroken (followed R S) n p
then_broken done S n p a b = b
then_broken (rule number place Holds rest) S n p a b = inr (a.0, then_broken rest S n p a.1 b)

-- a number goes by the first ones, and where it is 0 a result by the others
pub goes_then : (Granted : Type 0) (Refused : ℕ → ℕ → Type 0) (R S : Rules) (place fault : ℕ) → Tells R place fault → ((fault ≡ 0 → ⊥) → Refused fault place)
    → (fault ≡ 0 → Goes S Granted Refused) → Goes (followed R S) Granted Refused
goes_then Granted Refused R S place fault t broken onward =
    record {
      decided = decided_then R S t.decided (λ a. (onward (t.grants a)).decided);
      grants = λ a. let h = all_then R S a in (onward (t.grants h.0)).grants h.1;
      refuses = λ n p b. elim (broken_then R S n p b) [
        | inl x ↦ let f = t.refuses n p x in rw (← f.0, f.2) (broken (λ e. f.1 (sym f.0 ∙ e)))
        | inr x ↦ (onward (t.grants x.0)).refuses n p x.1
      ];
    }

-- ---- Numbers

-- every number of the rules is below a bound, and so is that of the first broken one
abbrev pub Below : ℕ → Rules → Type 0
Below m done = Unit {0}
Below m (rule number place Holds rest) = (number < m) × Below m rest

pub broken_below : (m n p : ℕ) (R : Rules) → Below m R → FirstBroken R n p → n < m
broken_below m n p done b f = absurd f
broken_below m n p (rule number place Holds rest) b (inl e) = rw e.0 b.0
broken_below m n p (rule number place Holds rest) b (inr f) = broken_below m n p rest b.1 f.1
