-- Calls on the first n bytes of a lent buffer, each of which names a desk: what each comes to, and what the buffer holds afterwards. Assumes
-- nothing.
use Rattle.std.specs.Prelude.{ℕ, List, true, false, length, take, leb, Result}
use Rattle.answer.specs.Refusals.{TOO_LONG}
use Rattle.answer.specs.Lent.{Does}
use Rattle.answer.specs.declared.Refusal.{Refusal}
use Rattle.journal.specs.Outcomes.{Outcome, refused, outcome_answer, file_of, edited_numbers}
use Rattle.journal.specs.Trailers.{named}
use Rattle.journal.specs.Edits.{add_of, replace_of, remove_of}
use Rattle.journal.specs.Undos.{undo_of}

-- the image is the first n bytes of the buffer; n over the buffer is refused
unfoldable pub image_in : List ℕ → ℕ → Outcome → Outcome
image_in buffer n outcome = elim (leb n (length buffer)) [ false ↦ refused TOO_LONG 0 | true ↦ outcome ]

unfoldable pub add_in : List ℕ → ℕ → ℕ → ℕ → ℕ → List ℕ → Outcome
add_in buffer n desk tag ref content = image_in buffer n (add_of (take n buffer) (length buffer) (named desk) tag ref content)

unfoldable pub replace_in : List ℕ → ℕ → ℕ → ℕ → ℕ → List ℕ → Outcome
replace_in buffer n desk tag ref content = image_in buffer n (replace_of (take n buffer) (length buffer) (named desk) tag ref content)

unfoldable pub remove_in : List ℕ → ℕ → ℕ → ℕ → ℕ → Outcome
remove_in buffer n desk tag ref = image_in buffer n (remove_of (take n buffer) (length buffer) (named desk) tag ref)

unfoldable pub undo_in : List ℕ → ℕ → ℕ → Outcome
undo_in buffer n desk = image_in buffer n (undo_of (take n buffer) desk)

-- a call that comes to an outcome answers it, and the file lies over the front of the buffer; bytes past its end stay; a refusal leaves
-- every byte
abbrev pub Leaves : Outcome → List ℕ → List ℕ → Result ℕ Refusal → Type 0
Leaves outcome before after r = Does (outcome_answer outcome) (file_of outcome) before after (edited_numbers r)
