-- The history (document 01's pile): a stack of whole files, each with the desk of the edit that made it, and the run of calls on a buffer that
-- is held against it. Assumes nothing. Neither is fed the other's answers.
use Rattle.std.specs.Prelude.{ℕ, ◌-◌, ◌<◌, ◌≡◌, List, [], ◌∷◌, length, take}
use Rattle.wire.specs.Numbers.{Bytes}
use Rattle.answer.specs.Answer.{Answer}
use Rattle.answer.specs.Lent.{laid_over}
use Rattle.journal.specs.Outcomes.{Outcome, granted, refused, outcome_answer, file_of}
use Rattle.journal.specs.Trailers.{form_size, Author, unnamed, named}
use Rattle.journal.specs.Edits.{add_of, replace_of, remove_of}
use Rattle.journal.specs.Undos.{for_desk, undo_of}
use Rattle.journal.specs.Buffers.{add_in, replace_in, remove_in, undo_in}
use Rattle.journal.specs.declared.change.Form.TheVariants.{Long}

-- ---- Calls

pub data Edit : Type 0 where
  add : ℕ → ℕ → List ℕ → Edit
  replace : ℕ → ℕ → List ℕ → Edit
  remove : ℕ → ℕ → Edit

-- each names a desk
pub data Call : Type 0 where
  edit : ℕ → Edit → Call
  undo : ℕ → Call

-- what the types of the arguments say
abbrev pub TypedEdit : Edit → Type 0
TypedEdit (add tag ref content) = (tag < 65536) × (ref < 65536) × Bytes content
TypedEdit (replace tag ref content) = (tag < 65536) × (ref < 65536) × Bytes content
TypedEdit (remove tag ref) = (tag < 65536) × (ref < 65536)

abbrev pub IsDesk : ℕ → Type 0
IsDesk desk = desk < 4294967296

abbrev pub IsAuthor : Author → Type 0
IsAuthor unnamed = Unit {0}
IsAuthor (named desk) = IsDesk desk

abbrev pub Typed : Call → Type 0
Typed (edit desk e) = IsDesk desk × TypedEdit e
Typed (undo desk) = IsDesk desk

abbrev pub AllTyped : List Call → Type 0
AllTyped [] = Unit {0}
AllTyped (c ∷ cs) = Typed c × AllTyped cs

-- ---- The history

-- a file that an edit made, and the edit's desk
pub record Entry : Type 0 where
  pub file : List ℕ
  pub desk : ℕ

-- the start file, and what granted edits that are not cancelled made, the newest first
pub record History : Type 0 where
  pub start : List ℕ
  pub made : List Entry

-- at first it holds the start file alone
abbrev pub started : List ℕ → History
started file = record { start = file; made = [] }

-- the file on top
abbrev pub top_of : List ℕ → List Entry → List ℕ
top_of start [] = start
top_of start (m ∷ ms) = m.file

abbrev pub top : History → List ℕ
top h = top_of h.start h.made

-- an edit is judged by the rules for edits on the top file and the buffer's length
unfoldable pub edited : ℕ → Author → Edit → List ℕ → Outcome
edited capacity author (add tag ref content) file = add_of file capacity author tag ref content
edited capacity author (replace tag ref content) file = replace_of file capacity author tag ref content
edited capacity author (remove tag ref) file = remove_of file capacity author tag ref

-- an undo with an edit to cancel is granted the file below the top to that edit's desk, and refused to others at the top file's trailer; with
-- the start file alone it is judged by the rules of undo on it
unfoldable pub below : ℕ → List ℕ → List Entry → Outcome
below desk start [] = undo_of start desk
below desk start (m ∷ ms) = for_desk m.desk desk (length m.file - form_size Long) (top_of start ms)

unfoldable pub decided : ℕ → Call → History → Outcome
decided capacity (edit desk e) h = edited capacity (named desk) e (top h)
decided capacity (undo desk) h = below desk h.start h.made

-- a granted edit's file is laid on top, with its desk; a granted undo takes the top file off, or puts the restored one in the place of the only
-- one; a refusal leaves the history
unfoldable pub pushed : History → ℕ → Outcome → History
pushed h desk (granted file) = record { start = h.start; made = record { file = file; desk = desk } ∷ h.made }
pushed h desk (refused number place) = h

unfoldable pub popped : History → Outcome → List Entry → History
popped h (granted file) [] = started file
popped h (granted file) (m ∷ ms) = record { start = h.start; made = ms }
popped h (refused number place) made = h

unfoldable pub history_after : ℕ → Call → History → History
history_after capacity (edit desk e) h = pushed h desk (edited capacity (named desk) e (top h))
history_after capacity (undo desk) h = popped h (below desk h.start h.made) h.made

unfoldable pub history_after_all : ℕ → List Call → History → History
history_after_all capacity [] h = h
history_after_all capacity (c ∷ cs) h = history_after_all capacity cs (history_after capacity c h)

unfoldable pub history_answers : ℕ → List Call → History → List Answer
history_answers capacity [] h = []
history_answers capacity (c ∷ cs) h = outcome_answer (decided capacity c h) ∷ history_answers capacity cs (history_after capacity c h)

-- ---- The run of the calls, by the definitions that their contracts cite

-- a buffer, and the length that the last granted call answered
pub record State : Type 0 where
  pub buffer : List ℕ
  pub size : ℕ

unfoldable pub outcome : Call → State → Outcome
outcome (edit desk (add tag ref content)) m = add_in m.buffer m.size desk tag ref content
outcome (edit desk (replace tag ref content)) m = replace_in m.buffer m.size desk tag ref content
outcome (edit desk (remove tag ref)) m = remove_in m.buffer m.size desk tag ref
outcome (undo desk) m = undo_in m.buffer m.size desk

unfoldable pub size_after : ℕ → Outcome → ℕ
size_after size (granted file) = length file
size_after size (refused number place) = size

-- the buffer that the contracts say the call leaves
unfoldable pub left : Outcome → State → State
left o m = record { buffer = laid_over (outcome_answer o) (file_of o) m.buffer; size = size_after m.size o }

unfoldable pub state_after : Call → State → State
state_after c m = left (outcome c m) m

unfoldable pub state_after_all : List Call → State → State
state_after_all [] m = m
state_after_all (c ∷ cs) m = state_after_all cs (state_after c m)

unfoldable pub answers : List Call → State → List Answer
answers [] m = []
answers (c ∷ cs) m = outcome_answer (outcome c m) ∷ answers cs (state_after c m)

-- ---- The claim's parts

-- the length is the top file's, and so are the buffer's bytes up to there
pub record Agrees (m : State) (h : History) : Type 0 where
  pub size : m.size ≡ length (top h)
  pub bytes : take m.size m.buffer ≡ top h
