-- What a call answers, in the numbers of documents 01 and 02. Assumes nothing.
use Rattle.std.specs.Prelude.{ℕ, zero, suc, ◌≡◌, List, [], ◌∷◌, ◌++◌, Bool, replicate}
use Rattle.answer.specs.Refusals.{SMALL, number_of}
use Rattle.answer.specs.Search.{must}
use Rattle.answer.specs.declared.Refusal.{Refusal}
use Rattle.answer.specs.declared.Carrying.{Carrying}

pub record Answer : Type 0 where
  pub number : ℕ
  pub place : ℕ
  pub values : List ℕ

-- granted: number and place are 0
abbrev pub grant : List ℕ → Answer
grant values = record { number = 0; place = 0; values = values }

-- ---- Refusals

-- refused, with what stands beside number and place
abbrev pub refuse_with : List ℕ → ℕ → ℕ → Answer
refuse_with values number place = record { number = number; place = place; values = values }

-- by a call that answers k values: each of them is 0
abbrev pub refuse : ℕ → ℕ → ℕ → Answer
refuse k = refuse_with (replicate k 0)

-- by a call that answers k values and, behind them, one that the refusal carries: each of the k is 0
abbrev pub carried : ℕ → ℕ → List ℕ
carried k value = replicate k 0 ++ (value ∷ [])

abbrev pub refuse_carrying : ℕ → ℕ → ℕ → ℕ → Answer
refuse_carrying k number place value = refuse_with (carried k value) number place

-- the answer of no call: number 0 at a place
abbrev pub nothing : Answer
nothing = record { number = 0; place = 1; values = [] }

-- a refusal that a call returns: its number is not 0, for that would be the answer of no call
abbrev pub refusal_with : List ℕ → ℕ → ℕ → Answer
refusal_with values number place = elim number [ zero ↦ nothing | suc n ↦ refuse_with values (suc n) place ]

abbrev pub refusal : ℕ → Refusal → Answer
refusal k r = refuse k (number_of r.rule) r.place

abbrev pub carrying : ℕ → Carrying → Answer
carrying k r = refuse_carrying k (number_of r.rule) r.place r.value

-- ---- Shape

-- an answer has its shape: place 0 where it is granted, and these values beside number and place where it is refused
pub record ProperWith (values : List ℕ) (answer : Answer) : Type 0 where
  pub granted : answer.number ≡ 0 → answer.place ≡ 0
  pub refused : (answer.number ≡ 0 → ⊥) → answer.values ≡ values

-- of a call that answers k values: zeros where it is refused
abbrev pub Proper : ℕ → Answer → Type 0
Proper k answer = ProperWith (replicate k 0) answer

-- ---- Rules in order

-- a refusal with the number of the first rule broken and its place; where that is 0, the answer
unfoldable pub unless_with : List ℕ → ℕ → ℕ → Answer → Answer
unless_with values zero place answer = answer
unless_with values (suc number) place answer = refuse_with values (suc number) place

abbrev pub unless : ℕ → ℕ → ℕ → Answer → Answer
unless k number place answer = unless_with (replicate k 0) number place answer

abbrev pub unless_carrying : ℕ → ℕ → ℕ → ℕ → Answer → Answer
unless_carrying k number place value answer = unless_with (carried k value) number place answer

-- 14 comes last, where what is lent is too short
unfoldable pub in_room : ℕ → Bool → Answer → Answer
in_room k enough answer = unless k (must enough SMALL 0) 0 answer
