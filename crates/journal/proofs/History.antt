-- The history claim: through every list of calls the buffer follows the history, answer by answer and byte by byte. Assumes nothing.
use Prim.Native.Nat.{ℕ, ◌≤◌}
use mathlib.Core.Path.{◌≡◌, refl, sym, ap, ap₂, ◌∙◌}
use mathlib.Core.List.{List, [], ◌∷◌, ◌++◌}
use native.Mathlib.Omega.{arith}
use lib.ListN.{length, take, drop, length-append, length-drop}
use lib.Seq.{length-take-le, take-append_seam}
use Rattle.wire.specs.Numbers.{Bytes}
use Rattle.wire.proofs.Numbers.{bytes_take, bytes_drop}
use Rattle.answer.specs.Answer.{Answer}
use Rattle.answer.specs.Lent.{laid_over}
use Rattle.directory.specs.Opening.{open_of}
use Rattle.journal.specs.Outcomes.{Outcome, granted, refused, outcome_answer}
use Rattle.journal.specs.Trailers.{named}
use Rattle.journal.specs.Edits.{add_of, replace_of, remove_of}
use Rattle.journal.specs.Undos.{desk_fault, undo_of}
use Rattle.journal.specs.Buffers.{image_in, add_in, replace_in, remove_in, undo_in}
use Rattle.journal.specs.History.{Edit, add, replace, remove, Call, edit, undo, IsDesk, TypedEdit, Typed, AllTyped, Entry, History, started, top_of, top, edited, below, decided, pushed, popped, history_after, history_after_all, history_answers, State, outcome, size_after, left, state_after, state_after_all, answers, Agrees}
use Rattle.journal.proofs.AllBytes.{bytes_append, bytes_restored}
use Rattle.journal.proofs.Undos.{change_of, undone, undone_length}
use Rattle.journal.proofs.Edits.{undo_of_edit}
use Rattle.journal.proofs.Outcomes.{granted_same, passing_granted}
use Rattle.journal.proofs.Buffers.{laid_kept, inside}

-- ---- What holds after every call

-- each file that an edit made undoes to the one under it, for that edit's desk, and for no other
abbrev pub Stacked : List ℕ → List Entry → Type 0
Stacked start [] = Unit {0}
Stacked start (m ∷ ms) = ((desk : ℕ) → undo_of m.file desk ≡ below desk start (m ∷ ms)) × Stacked start ms

-- the buffer keeps its length and is all bytes; the top file is its front, and opens if the start file does
pub record Follows (StartOpens : Type 0) (capacity : ℕ) (m : State) (h : History) : Type 0 where
  pub whole : length m.buffer ≡ capacity
  pub bytes : Bytes m.buffer
  pub inside : m.size ≤ length m.buffer
  pub agrees : Agrees m h
  pub opens : StartOpens → (open_of (top h)).number ≡ 0
  pub stacked : Stacked h.start h.made

pub left_refused : (m : State) (number place : ℕ) → left (refused number place) m ≡ m
unfolding left size_after
left_refused m number place = rw (laid_kept number place m.buffer)

module _ (StartOpens : Type 0) (capacity : ℕ) (m : State) (h : History) (f : Follows StartOpens capacity m h) where
  top_bytes : Bytes (top h)
  top_bytes = rw f.agrees.bytes at (bytes_take m.size m.buffer f.bytes)

  -- a file laid over the front of the buffer
  laid_keeps : (g : History) → Bytes (top g) → length (top g) ≤ capacity → (open_of (top g)).number ≡ 0 → Stacked g.start g.made
      → Follows StartOpens capacity (left (granted (top g)) m) g
  unfolding left laid_over size_after
  laid_keeps g all fits opens stacked =
      let t = top g in
      let rest = drop (length t) m.buffer in
      let n : length (t ++ rest) ≡ length m.buffer = length-append t rest ∙ rw length-drop (omega (arith, f.whole)) in
      record {
        whole = n ∙ f.whole;
        bytes = bytes_append t rest all (bytes_drop (length t) m.buffer f.bytes);
        inside = omega (arith, f.whole);
        agrees = record { size = refl; bytes = take-append_seam t rest };
        opens = λ x. opens;
        stacked = stacked;
      }

  -- an edit
  edit_keeps : (desk : ℕ) (e : Edit) → IsDesk desk → TypedEdit e → (o : Outcome) → edited capacity (named desk) e (top h) ≡ o
      → Follows StartOpens capacity (left o m) (pushed h desk o)
  unfolding pushed below
  edit_keeps desk e is y (granted t) q =
      let u = undo_of_edit (top h) capacity (named desk) e t top_bytes is y q in
      laid_keeps (record { start = h.start; made = record { file = t; desk = desk } ∷ h.made }) u.bytes u.fits u.opens (u.back, f.stacked)
  edit_keeps desk e is y (refused number place) q = rw (left_refused m number place) f

  -- undo that is granted the top file of a history
  back_keeps : (desk : ℕ) (g : History) → undo_of (top h) desk ≡ granted (top g) → Stacked g.start g.made
      → Follows StartOpens capacity (left (granted (top g)) m) g
  back_keeps desk g q stacked =
      let u = undone (top h) desk (top g) q in
      laid_keeps g (rw u.is at (bytes_restored (top h) (change_of u.form (top h)) top_bytes))
      (omega (arith, undone_length (top h) desk (top g) u, f.inside, f.whole, f.agrees.size)) u.opens stacked

  -- undo, with what edits made
  undo_keeps : (desk : ℕ) (made : List Entry) → Stacked h.start made → (o : Outcome) → undo_of (top h) desk ≡ o → o ≡ below desk h.start made
      → Follows StartOpens capacity (left o m) (popped h o made)
  unfolding popped below
  undo_keeps desk made s (refused number place) q b = rw (left_refused m number place) f
  undo_keeps desk [] s (granted t) q b = back_keeps desk (started t) q tt
  undo_keeps desk (n ∷ ns) s (granted t) q b =
      let is = granted_same _ t (passing_granted (desk_fault n.desk desk) _ (granted (top_of h.start ns)) t (sym b)).1 in
      rw (← is) (back_keeps desk (record { start = h.start; made = ns }) (q ∙ ap granted (sym is)) s.1)

  -- the history's answer is undo's of the top file
  undo_stacked : (desk : ℕ) (made : List Entry) → Stacked h.start made → undo_of (top_of h.start made) desk ≡ below desk h.start made
  unfolding below
  undo_stacked desk [] s = refl
  undo_stacked desk (n ∷ ns) s = s.0 desk

  -- the image in the buffer is the top file
  here : (o : List ℕ → Outcome) → image_in m.buffer m.size (o (take m.size m.buffer)) ≡ o (top h)
  here o = inside m.buffer m.size _ f.inside ∙ ap o f.agrees.bytes

  edit_decided : (desk : ℕ) (e : Edit) → outcome (edit desk e) m ≡ edited capacity (named desk) e (top h)
  unfolding outcome edited add_in replace_in remove_in
  edit_decided desk (add tag ref content) = rw (← f.whole) (here (λ s. add_of s (length m.buffer) (named desk) tag ref content))
  edit_decided desk (replace tag ref content) = rw (← f.whole) (here (λ s. replace_of s (length m.buffer) (named desk) tag ref content))
  edit_decided desk (remove tag ref) = rw (← f.whole) (here (λ s. remove_of s (length m.buffer) (named desk) tag ref))

  undo_decided : (desk : ℕ) → outcome (undo desk) m ≡ below desk h.start h.made
  unfolding outcome undo_in
  undo_decided desk = here (λ s. undo_of s desk) ∙ undo_stacked desk h.made f.stacked

  pub undo_step : (desk : ℕ) → (outcome (undo desk) m ≡ decided capacity (undo desk) h)
      × Follows StartOpens capacity (state_after (undo desk) m) (history_after capacity (undo desk) h)
  unfolding decided state_after history_after
  undo_step desk =
      rw (undo_decided desk) (refl, undo_keeps desk h.made f.stacked _ (undo_stacked desk h.made f.stacked) refl)

  -- each call is decided as the history decides it, and keeps all this
  pub step_keeps : (c : Call) → Typed c
      → (outcome c m ≡ decided capacity c h) × Follows StartOpens capacity (state_after c m) (history_after capacity c h)
  unfolding decided state_after history_after
  step_keeps (edit desk e) y = rw (edit_decided desk e) (refl, edit_keeps desk e y.0 y.1 (edited capacity (named desk) e (top h)) refl)
  step_keeps (undo desk) y = undo_step desk

-- ---- Through every list of calls

all_keep : (StartOpens : Type 0) (capacity : ℕ) (m : State) (h : History) → Follows StartOpens capacity m h → (calls : List Call) → AllTyped calls
    → (answers calls m ≡ history_answers capacity calls h) × Follows StartOpens capacity (state_after_all calls m) (history_after_all capacity calls h)
unfolding answers history_answers state_after_all history_after_all
all_keep StartOpens capacity m h f [] y = (refl, f)
all_keep StartOpens capacity m h f (c ∷ cs) y =
    let k = step_keeps StartOpens capacity m h f c y.0 in
    let r = all_keep StartOpens capacity (state_after c m) (history_after capacity c h) k.1 cs y.1 in
    (ap₂ {C = List Answer} (λ x xs. x ∷ xs) (ap outcome_answer k.0) r.0, r.1)

pub at_start : (buffer : List ℕ) (n : ℕ) → Bytes buffer → n ≤ length buffer
    → Follows ((open_of (take n buffer)).number ≡ 0) (length buffer) (record { buffer = buffer; size = n }) (started (take n buffer))
at_start buffer n bytes inside =
    record {
      whole = refl;
      bytes = bytes;
      inside = inside;
      agrees = record { size = sym (length-take-le n buffer inside); bytes = refl };
      opens = λ x. x;
      stacked = tt;
    }

-- what holds of every state that calls reach
pub reached : (buffer : List ℕ) (n : ℕ) → Bytes buffer → n ≤ length buffer → (calls : List Call) → AllTyped calls
    → Follows ((open_of (take n buffer)).number ≡ 0) (length buffer) (state_after_all calls (record { buffer = buffer; size = n }))
    (history_after_all (length buffer) calls (started (take n buffer)))
reached buffer n bytes inside calls typed =
    (all_keep _ (length buffer) (record { buffer = buffer; size = n }) (started (take n buffer)) (at_start buffer n bytes inside) calls typed).1

-- document 01's demand 3, with document 02 (viii): every answer is the history's, which is fed the desks, and after the last call length and
-- bytes are the top file's. It holds of files that do not open too: of those every call is refused
pub history : (buffer : List ℕ) (n : ℕ) → Bytes buffer → n ≤ length buffer → (calls : List Call) → AllTyped calls
    → (answers calls (record { buffer = buffer; size = n }) ≡ history_answers (length buffer) calls (started (take n buffer)))
    × Agrees (state_after_all calls (record { buffer = buffer; size = n })) (history_after_all (length buffer) calls (started (take n buffer)))
history buffer n bytes inside calls typed =
    let m : State = record { buffer = buffer; size = n } in
    let k = all_keep _ (length buffer) m (started (take n buffer)) (at_start buffer n bytes inside) calls typed in
    (k.0, k.1.agrees)
