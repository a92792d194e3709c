-- What a call leaves in lent memory, beside its answer. Assumes nothing.
use Rattle.std.specs.Prelude.{zero, suc, ◌≡◌, List, ◌++◌, length, drop}
use Rattle.answer.specs.Answer.{Answer}

-- lent memory after a call: what it gives at the front and the rest as it was; all as it was where the call is refused
unfoldable pub laid_over : {A : Type 0} → Answer → List A → List A → List A
laid_over answer given lent = elim answer.number [ zero ↦ given ++ drop (length given) lent | suc number ↦ lent ]

-- a call that is lent memory: the numbers that it returns are its answer, and it leaves the memory so
pub record Does {A : Type 0} (answer : Answer) (given before after : List A) (numbers : Answer) : Type 0 where
  pub answers : numbers ≡ answer
  pub leaves : after ≡ laid_over answer given before
