-- Packing a record into a lent buffer, after document 01, "Records". Assumes nothing.
use Rattle.std.specs.Prelude.{ℕ, ◌≤◌, ◌≡◌, List, [], ◌∷◌, length, leb, Result, Ok, Err}
use Rattle.answer.specs.Answer.{Answer, grant, refusal, unless, in_room}
use Rattle.answer.specs.Lent.{Does}
use Rattle.answer.specs.declared.Refusal.{Refusal}

-- packing answers the number of bytes
abbrev pub packed_numbers : Result ℕ Refusal → Answer
packed_numbers (Ok n) = grant (n ∷ [])
packed_numbers (Err r) = refusal 1 r

-- the first rule that the values break, at 0, then 14 where the lent buffer is too short
unfoldable pub pack_of : ℕ → List ℕ → ℕ → Answer
pack_of fault bytes room = unless 1 fault 0 (in_room 1 (leb (length bytes) room) (grant (length bytes ∷ [])))

-- what packing bytes, or the first rule broken, answers and leaves in the buffer
abbrev pub Packs : ℕ → List ℕ → List ℕ → List ℕ → Answer → Type 0
Packs fault bytes out after numbers = Does (pack_of fault bytes (length out)) bytes out after numbers

-- packing gives back e: it is granted, with the number of bytes, wherever there is room for them, and the bytes are e
pub record PacksBack (fault : ℕ) (bytes e : List ℕ) : Type 0 where
  pub granted : (room : ℕ) → length e ≤ room → pack_of fault bytes room ≡ grant (length e ∷ [])
  pub bytes_are : bytes ≡ e
