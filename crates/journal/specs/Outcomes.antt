-- What an edit or an undo comes to, and the numbers that it answers. Assumes nothing.
use Rattle.std.specs.Prelude.{ℕ, zero, suc, List, [], ◌∷◌, length, Result, Ok, Err}
use Rattle.answer.specs.Answer.{Answer, grant, refuse, refusal}
use Rattle.answer.specs.declared.Refusal.{Refusal}
use Rattle.directory.specs.Opening.{open_of}

-- the file that is made of the one before, or a number and a place
pub data Outcome : Type 0 where
  granted : List ℕ → Outcome
  refused : ℕ → ℕ → Outcome

-- a granted call answers the length of the file
abbrev pub outcome_answer : Outcome → Answer
outcome_answer (granted file) = grant (length file ∷ [])
outcome_answer (refused number place) = refuse 1 number place

-- the file of a granted call
abbrev pub file_of : Outcome → List ℕ
file_of (granted file) = file
file_of (refused number place) = []

-- the same of what the code returns
abbrev pub edited_numbers : Result ℕ Refusal → Answer
edited_numbers (Ok size) = grant (size ∷ [])
edited_numbers (Err r) = refusal 1 r

-- a refusal with the number of the first rule broken and its place; where that is 0, what the call goes on to
unfoldable pub passing : ℕ → ℕ → Outcome → Outcome
passing zero place outcome = outcome
passing (suc number) place outcome = refused (suc number) place

-- every call on an image first opens it
unfoldable pub opened_to : List ℕ → Outcome → Outcome
opened_to s outcome = passing (open_of s).number (open_of s).place outcome
