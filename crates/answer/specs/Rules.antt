-- The rules of a call as facts, in the order in which they are judged. Assumes nothing.
use Rattle.std.specs.Prelude.{ℕ, ◌≡◌, ◌⊎◌}

-- rules in order: what has to hold, and the number and the place of the refusal where it does not
pub data Rules : Type 1 where
  done : Rules
  rule : ℕ → ℕ → Type 0 → Rules → Rules

-- every rule holds
abbrev pub AllHold : Rules → Type 0
AllHold done = Unit {0}
AllHold (rule number place Holds rest) = Holds × AllHold rest

-- the first rule that does not hold has this number and this place
abbrev pub FirstBroken : Rules → ℕ → ℕ → Type 0
FirstBroken done n p = ⊥
FirstBroken (rule number place Holds rest) n p = ((n ≡ number) × (p ≡ place) × (Holds → ⊥)) ⊎ (Holds × FirstBroken rest n p)

-- the rules of one number are broken, and all others hold
abbrev pub OnlyBroken : ℕ → Rules → Type 0
OnlyBroken n done = Unit {0}
OnlyBroken n (rule number place Holds rest) = (number ≡ n → Holds → ⊥) × ((number ≡ n → ⊥) → Holds) × OnlyBroken n rest

-- rules, then others
abbrev pub followed : Rules → Rules → Rules
followed done S = S
followed (rule number place Holds rest) S = rule number place Holds (followed rest S)
