-- Desks: calls that all name one, files whose trailers are one's, and files that edits made of others, with a desk or from before there were
-- desks. Assumes nothing.
use Rattle.std.specs.Prelude.{ℕ, ◌≡◌, List, [], ◌∷◌, map, length}
use Rattle.wire.specs.Numbers.{Bytes}
use Rattle.answer.specs.Answer.{Answer, grant}
use Rattle.journal.specs.Outcomes.{granted, refused}
use Rattle.journal.specs.Trailers.{Author, unnamed, desk_of}
use Rattle.journal.specs.Undos.{undo_of}
use Rattle.journal.specs.History.{Edit, Call, edit, undo, TypedEdit, IsAuthor, edited}

-- ---- One desk

abbrev pub desk_named_by : Call → ℕ
desk_named_by (edit desk e) = desk
desk_named_by (undo desk) = desk

-- every call names the desk
abbrev pub AllBy : ℕ → List Call → Type 0
AllBy desk [] = Unit {0}
AllBy desk (c ∷ cs) = (desk_named_by c ≡ desk) × AllBy desk cs

-- undo takes back the trailers of a file for the desk, one after the other, until it is refused for another reason than a desk: there is no
-- trailer, say
pub data Owned (desk : ℕ) : List ℕ → Type 0 where
  bottom : (s : List ℕ) (number place : ℕ) → undo_of s desk ≡ refused number place → (number ≡ 30 → ⊥) → Owned desk s
  above : (s t : List ℕ) → undo_of s desk ≡ granted t → Owned desk t → Owned desk s

-- no answer has the number
abbrev pub NoneHas : ℕ → List Answer → Type 0
NoneHas number [] = Unit {0}
NoneHas number (a ∷ rest) = (a.number ≡ number → ⊥) × NoneHas number rest

-- ---- Files that edits made

-- an edit: whose it is, and the file that it was made of
pub record Step : Type 0 where
  pub author : Author
  pub file : List ℕ

-- t is what these edits made of the last file, the newest first: each was granted, in a buffer of some length
abbrev pub MadeBy : List ℕ → List Step → Type 0
MadeBy t [] = Unit {0}
MadeBy t (step ∷ steps) =
    ((capacity : ℕ) × (e : Edit) × TypedEdit e × (edited capacity step.author e step.file ≡ granted t))
    × IsAuthor step.author × Bytes step.file × MadeBy step.file steps

-- all of them are the desk's: it named them, or they named none and it is 0
abbrev pub AllOf : ℕ → List Step → Type 0
AllOf desk [] = Unit {0}
AllOf desk (step ∷ steps) = (desk ≡ desk_of step.author) × AllOf desk steps

-- the file at the bottom
abbrev pub bottom_of : List ℕ → List Step → List ℕ
bottom_of t [] = t
bottom_of t (step ∷ steps) = bottom_of step.file steps

-- an undo for each, which names its desk; and that each is granted the file that the edit was made of
abbrev pub undos_of : List Step → List Call
undos_of steps = map (λ step. undo (desk_of step.author)) steps

abbrev pub grants_of : List Step → List Answer
grants_of steps = map (λ step. grant (length step.file ∷ [])) steps

-- edits from before there were desks, of these files
abbrev pub old_steps : List (List ℕ) → List Step
old_steps files = map (λ file. record { author = unnamed; file = file }) files
