-- What follows from the history claim: undo after any calls, for the desk of the edit that it cancels and for others, and what a refusal leaves.
-- Assumes nothing.
use Prim.Native.Nat.{ℕ, ◌-◌, ◌≤◌}
use mathlib.Core.Path.{◌≡◌, sym, ap, ◌∙◌}
use mathlib.Core.Logic.{◌↔◌}
use mathlib.Core.List.{List, [], ◌∷◌}
use lib.ListN.{length, take, drop}
use lib.Seq.{drop-append_seam}
use Rattle.wire.specs.Numbers.{Bytes}
use Rattle.answer.specs.Lent.{laid_over}
use Rattle.directory.specs.Opening.{open_of}
use Rattle.journal.specs.Outcomes.{granted, refused, outcome_answer}
use Rattle.journal.specs.Undos.{for_desk, undo_of}
use Rattle.journal.specs.History.{Call, undo, Typed, AllTyped, Entry, History, started, top_of, below, decided, popped, history_after, history_after_all, State, outcome, left, state_after, state_after_all, Agrees}
use Rattle.journal.proofs.Outcomes.{refused_granted}
use Rattle.journal.proofs.Undos.{for_own, for_other}
use Rattle.journal.proofs.History.{Follows, left_refused, undo_step, step_keeps, reached}

-- ---- In any state

-- the bytes past the end of the file that a granted call makes stay as they were
pub past_end_stays : (m : State) (c : Call) (t : List ℕ) → outcome c m ≡ granted t → drop (length t) (state_after c m).buffer ≡ drop (length t) m.buffer
unfolding state_after left laid_over
past_end_stays m c t e = rw e (drop-append_seam t (drop (length t) m.buffer))

-- a refused call leaves the buffer and the size as they were
pub refusal_alters_nothing : (m : State) (c : Call) (number place : ℕ) → outcome c m ≡ refused number place → state_after c m ≡ m
unfolding state_after
refusal_alters_nothing m c number place r = rw r (left_refused m number place)

-- ---- After any calls: the state m and the history h

module _ (buffer : List ℕ) (n : ℕ) (bytes : Bytes buffer) (inside : n ≤ length buffer)
    (calls : List Call) (typed : AllTyped calls) where
  abbrev m : State
  m = state_after_all calls (record { buffer = buffer; size = n })

  abbrev h : History
  h = history_after_all (length buffer) calls (started (take n buffer))

  follows : Follows ((open_of (take n buffer)).number ≡ 0) (length buffer) m h
  follows = reached buffer n bytes inside calls typed

  -- whatever is called next, its answer is the history's, and then the length and the bytes are again the top file's
  pub every_call : (c : Call) → Typed c → (outcome_answer (outcome c m) ≡ outcome_answer (decided (length buffer) c h))
      × Agrees (state_after c m) (history_after (length buffer) c h)
  every_call c y = let k = step_keeps _ (length buffer) m h follows c y in (ap outcome_answer k.0, k.1.agrees)

  -- the file in the buffer opens if the start file does
  pub stays_open : (open_of (take n buffer)).number ≡ 0 → (open_of (take m.size m.buffer)).number ≡ 0
  stays_open opens = rw follows.agrees.bytes (follows.opens opens)

  -- with the start file alone, undo answers what that file's trailer says, and a file that it restores becomes the only one
  pub undo_of_start : h.made ≡ [] → (desk : ℕ) → (outcome (undo desk) m ≡ undo_of h.start desk)
      × ((file : List ℕ) → undo_of h.start desk ≡ granted file
      → (history_after (length buffer) (undo desk) h ≡ started file) × Agrees (state_after (undo desk) m) (started file))
  unfolding decided history_after below popped
  undo_of_start e desk =
      let k = undo_step _ (length buffer) m h follows desk in
      let is : (file : List ℕ) → undo_of h.start desk ≡ granted file → history_after (length buffer) (undo desk) h ≡ started file = λ file q. rw (e, q) in
      (k.0 ∙ rw e, λ file q. (is file q, rw (is file q) at k.1.agrees))

  -- with an edit not yet cancelled, the last of which made a file
  module _ (entry : Entry) (entries : List Entry) (e : h.made ≡ entry ∷ entries) (desk : ℕ) where
    size_is : length entry.file ≡ m.size
    size_is = sym (follows.agrees.size ∙ ap (λ made. length (top_of h.start made)) e)

    undo_is : outcome (undo desk) m ≡ for_desk entry.desk desk (m.size - 36) (top_of h.start entries)
    unfolding decided below
    undo_is = (undo_step _ (length buffer) m h follows desk).0 ∙ rw (e, size_is)

    -- undo is granted to that edit's desk, and the file below the top is then the buffer's
    pub undo_cancels : desk ≡ entry.desk → (outcome (undo desk) m ≡ granted (top_of h.start entries))
        × Agrees (state_after (undo desk) m) (record { start = h.start; made = entries })
    unfolding decided history_after below popped
    undo_cancels own =
        let after : history_after (length buffer) (undo desk) h ≡ record { start = h.start; made = entries } =
        rw (e, for_own entry.desk desk (length entry.file - 36) (top_of h.start entries) own) in
        (undo_is ∙ for_own entry.desk desk _ _ own, rw after at (undo_step _ (length buffer) m h follows desk).1.agrees)

    -- to any other it is refused, with 30 at the trailer, and nothing is altered
    pub undo_other_desk : (desk ≡ entry.desk → ⊥) → (outcome (undo desk) m ≡ refused 30 (m.size - 36)) × (state_after (undo desk) m ≡ m)
    undo_other_desk other =
        let r = undo_is ∙ for_other entry.desk desk _ _ other in
        (r, refusal_alters_nothing m (undo desk) 30 _ r)

    -- so it is refused exactly if the edit was another desk's
    pub undo_refused_exactly : ((number : ℕ) × (place : ℕ) × (outcome (undo desk) m ≡ refused number place)) ↔ (desk ≡ entry.desk → ⊥)
    undo_refused_exactly = (
      (λ r own. refused_granted r.0 r.1 _ (sym r.2 ∙ (undo_cancels own).0)),
      (λ other. (30, m.size - 36, (undo_other_desk other).0)),
    )
