-- The structs that the C functions return, as answers: number, place, then the values in order. Assumes nothing.
use Rattle.std.specs.Prelude.{ℕ, List, [], ◌∷◌}
use Rattle.answer.specs.Answer.{Answer}
use Rattle.answer.specs.Lent.{Does}
use Rattle.journal.specs.Outcomes.{Outcome, outcome_answer, file_of}
use Rattle.hdf4.specs.declared.ViewAnswer.{ViewAnswer}
use Rattle.hdf4.specs.declared.SizeAnswer.{SizeAnswer}
use Rattle.hdf4.specs.declared.CopyAnswer.{CopyAnswer}
use Rattle.hdf4.specs.declared.ChooseAnswer.{ChooseAnswer}
use Rattle.hdf4.specs.declared.EditAnswer.{EditAnswer}
use Rattle.hdf4.specs.declared.OpenAnswer.{OpenAnswer}
use Rattle.hdf4.specs.declared.FindAnswer.{FindAnswer}
use Rattle.hdf4.specs.declared.ListAnswer.{ListAnswer}

abbrev pub open_answer : OpenAnswer → Answer
open_answer r = record { number = r.number; place = r.place; values = r.blocks ∷ r.slots ∷ r.live ∷ [] }

abbrev pub find_answer : FindAnswer → Answer
find_answer r = record { number = r.number; place = r.place; values = r.slot ∷ [] }

abbrev pub list_answer : ListAnswer → Answer
list_answer r = record { number = r.number; place = r.place; values = r.elements ∷ [] }

abbrev pub view_answer : ViewAnswer → Answer
view_answer r = record { number = r.number; place = r.place; values = r.offset ∷ r.length ∷ [] }

abbrev pub size_answer : SizeAnswer → Answer
size_answer r = record { number = r.number; place = r.place; values = r.length ∷ [] }

abbrev pub copy_answer : CopyAnswer → Answer
copy_answer r = record { number = r.number; place = r.place; values = r.length ∷ r.index ∷ [] }

abbrev pub choose_answer : ChooseAnswer → Answer
choose_answer r = record { number = r.number; place = r.place; values = r.which ∷ r.offset ∷ r.length ∷ [] }

abbrev pub edit_answer : EditAnswer → Answer
edit_answer r = record { number = r.number; place = r.place; values = r.length ∷ [] }

-- an edit or an undo: its answer, and the file laid over the front of the buffer
abbrev pub Edits : Outcome → List ℕ → List ℕ → EditAnswer → Type 0
Edits outcome before after r = Does (outcome_answer outcome) (file_of outcome) before after (edit_answer r)
