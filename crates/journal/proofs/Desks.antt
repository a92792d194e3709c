-- The laws of desks: a history that is one desk's, and undos of the edits that made a file. Assumes nothing.
use Prim.Native.Nat.{ℕ, ◌<◌}
use mathlib.Core.Path.{◌≡◌, refl, sym, ap, ap₂, ◌∙◌}
use mathlib.Core.List.{List, [], ◌∷◌}
use native.Mathlib.Omega.{arith}
use lib.ListN.{length, take}
use Rattle.answer.specs.Answer.{Answer}
use Rattle.answer.proofs.Rules.{Below, broken_below}
use Rattle.directory.proofs.Faults.{open_below}
use Rattle.journal.specs.Outcomes.{Outcome, granted, refused, outcome_answer}
use Rattle.journal.specs.Trailers.{desk_of}
use Rattle.journal.specs.Undos.{undo_of}
use Rattle.journal.specs.Rules.{add_rules, change_rules}
use Rattle.journal.specs.History.{Edit, add, replace, remove, Call, edit, undo, AllTyped, Entry, History, started, below, pushed, popped, decided, history_after, history_after_all, State, outcome, state_after, state_after_all, answers}
use Rattle.journal.specs.Desks.{desk_named_by, AllBy, Owned, bottom, above, NoneHas, Step, MadeBy, bottom_of, undos_of, grants_of}
use Rattle.journal.proofs.Outcomes.{refused_granted, granted_same}
use Rattle.journal.proofs.Undos.{for_own}
use Rattle.journal.proofs.Edits.{made, undo_of_edit}
use Rattle.journal.proofs.RuleClaims.{add_refused, replace_refused, remove_refused}
use Rattle.journal.proofs.History.{Follows, undo_step, step_keeps}

-- ---- A history that is one desk's

abbrev pub AllOwn : ℕ → List Entry → Type 0
AllOwn desk [] = Unit {0}
AllOwn desk (entry ∷ entries) = (desk ≡ entry.desk) × AllOwn desk entries

module _ (desk : ℕ) where
  pushed_own : (h : History) (d : ℕ) (o : Outcome) → desk ≡ d → AllOwn desk h.made → AllOwn desk (pushed h d o).made
  unfolding pushed
  pushed_own h d (granted file) e own = (e, own)
  pushed_own h d (refused number place) e own = own

  popped_own : (h : History) (o : Outcome) (made : List Entry) → AllOwn desk h.made → AllOwn desk made → AllOwn desk (popped h o made).made
  unfolding popped
  popped_own h (granted file) [] all own = tt
  popped_own h (granted file) (entry ∷ entries) all own = own.1
  popped_own h (refused number place) made all own = all

  own_after : (capacity : ℕ) (c : Call) (h : History) → desk_named_by c ≡ desk → AllOwn desk h.made → AllOwn desk (history_after capacity c h).made
  unfolding history_after
  own_after capacity (edit d e) h by own = pushed_own h d _ (sym by) own
  own_after capacity (undo d) h by own = popped_own h _ h.made own own

  pub own_all : (capacity : ℕ) (calls : List Call) (h : History) → AllBy desk calls → AllOwn desk h.made → AllOwn desk (history_after_all capacity calls h).made
  unfolding history_after_all
  own_all capacity [] h by own = own
  own_all capacity (c ∷ cs) h by own = own_all capacity cs (history_after capacity c h) by.1 (own_after capacity c h by.0 own)

  -- the trailers of its start file too
  pub record Alone (h : History) : Type 0 where
    pub owned : Owned desk h.start
    pub own : AllOwn desk h.made

  restored_owned : (s t : List ℕ) → Owned desk s → undo_of s desk ≡ granted t → Owned desk t
  restored_owned s t (bottom u number place r z) q = absurd (refused_granted number place t (sym r ∙ q))
  restored_owned s t (above u v g o) q = rw (← granted_same v t (sym g ∙ q)) o

  popped_start : (h : History) (made : List Entry) (o : Outcome) → Owned desk h.start → o ≡ below desk h.start made → Owned desk (popped h o made).start
  unfolding popped below
  popped_start h [] (granted file) owned e = restored_owned h.start file owned (sym e)
  popped_start h (entry ∷ entries) (granted file) owned e = owned
  popped_start h made (refused number place) owned e = owned

  pushed_start : (h : History) (d : ℕ) (o : Outcome) → (pushed h d o).start ≡ h.start
  unfolding pushed
  pushed_start h d (granted file) = refl
  pushed_start h d (refused number place) = refl

  start_after : (capacity : ℕ) (c : Call) (h : History) → desk_named_by c ≡ desk → Owned desk h.start → Owned desk (history_after capacity c h).start
  unfolding history_after
  start_after capacity (edit d e) h by owned = rw (pushed_start h d _) owned
  start_after capacity (undo d) h by owned = popped_start h h.made (below d h.start h.made) owned (ap (λ k. below k h.start h.made) by)

  alone_after : (capacity : ℕ) (c : Call) (h : History) → desk_named_by c ≡ desk → Alone h → Alone (history_after capacity c h)
  alone_after capacity c h by a = record { owned = start_after capacity c h by a.owned; own = own_after capacity c h by a.own }

  -- its undo is not refused with 30
  undo_alone : (start : List ℕ) (made : List Entry) → Owned desk start → AllOwn desk made → (place : ℕ) → below desk start made ≡ refused 30 place → ⊥
  unfolding below
  undo_alone start [] (bottom s number at r z) own place e = let same : refused number at ≡ refused 30 place = sym r ∙ e in z cc
  undo_alone start [] (above s t g o) own place e = refused_granted 30 place t (sym e ∙ g)
  undo_alone start (entry ∷ entries) owned own place e = refused_granted 30 place _ (sym e ∙ for_own entry.desk desk _ _ own.0)

change_below : (m : State) (tag ref size : ℕ) → Below 20 (change_rules m.buffer m.size tag ref size)
change_below m tag ref size =
    let low = open_below (take m.size m.buffer) in (omega arith, (omega arith, (omega arith, (omega arith, (omega arith, (omega arith, tt))))))

-- no edit is refused with 30
edit_below : (e : Edit) (desk : ℕ) (m : State) (number place : ℕ) → outcome (edit desk e) m ≡ refused number place → number < 20
unfolding outcome
edit_below (add tag ref content) desk m number place r =
    let low = open_below (take m.size m.buffer) in
    let numbers : Below 20 (add_rules m.buffer m.size tag ref content) =
    (omega arith, (omega arith, (omega arith, (omega arith, (omega arith, (omega arith, (omega arith, tt))))))) in
    broken_below 20 number place (add_rules m.buffer m.size tag ref content) numbers ((add_refused m.buffer m.size desk tag ref content number place).0 r)
edit_below (replace tag ref content) desk m number place r =
    broken_below 20 number place (change_rules m.buffer m.size tag ref (length content)) (change_below m tag ref (length content))
    ((replace_refused m.buffer m.size desk tag ref content number place).0 r)
edit_below (remove tag ref) desk m number place r =
    broken_below 20 number place (change_rules m.buffer m.size tag ref 0) (change_below m tag ref 0)
    ((remove_refused m.buffer m.size desk tag ref number place).0 r)

-- an outcome that is not refused with 30 does not answer it
not_thirty : (o : Outcome) → ((place : ℕ) → o ≡ refused 30 place → ⊥) → (outcome_answer o).number ≡ 30 → ⊥
not_thirty (granted file) z e = omega arith
not_thirty (refused number place) z e = z place (ap (λ k. refused k place) e)

module _ (StartOpens : Type 0) (capacity desk : ℕ) where
  call_alone : (c : Call) (m : State) (h : History) → Follows StartOpens capacity m h → desk_named_by c ≡ desk → Alone desk h
      → (place : ℕ) → outcome c m ≡ refused 30 place → ⊥
  unfolding decided
  call_alone (edit d e) m h f by a place r = let low = edit_below e d m 30 place r in omega arith
  call_alone (undo d) m h f by a place r =
      undo_alone desk h.start h.made a.owned a.own place
      (ap (λ k. below k h.start h.made) (sym by) ∙ sym (undo_step StartOpens capacity m h f d).0 ∙ r)

  pub answers_alone : (calls : List Call) (m : State) (h : History) → Follows StartOpens capacity m h → AllTyped calls → AllBy desk calls → Alone desk h
      → NoneHas 30 (answers calls m)
  unfolding answers
  answers_alone [] m h f typed by a = tt
  answers_alone (c ∷ cs) m h f typed by a = (
    not_thirty (outcome c m) (call_alone c m h f by.0 a),
    answers_alone cs (state_after c m) (history_after capacity c h) (step_keeps StartOpens capacity m h f c typed.0).1 typed.1 by.1
        (alone_after desk capacity c h by.0 a),
  )

-- ---- Files that edits made

-- the file that an edit was made of is given back to the edit's desk
pub step_back : (t : List ℕ) (step : Step) (steps : List Step) → MadeBy t (step ∷ steps) → (desk : ℕ) → desk ≡ desk_of step.author
    → undo_of t desk ≡ granted step.file
step_back t step steps made desk own =
    (undo_of_edit step.file made.0.0 step.author made.0.1 t made.2 made.1 made.0.2 made.0.3).back desk
    ∙ for_own (desk_of step.author) desk _ _ own

-- an undo that names the desk of the edit that made a file is granted the file that it was made of
step_undone : (StartOpens : Type 0) (capacity : ℕ) (m : State) (t : List ℕ) (step : Step) (steps : List Step) → Follows StartOpens capacity m (started t)
    → MadeBy t (step ∷ steps) → let c = undo (desk_of step.author) in
    (outcome c m ≡ granted step.file) × Follows StartOpens capacity (state_after c m) (started step.file)
unfolding decided history_after below popped
step_undone StartOpens capacity m t step steps f made =
    let desk = desk_of step.author in
    let q = step_back t step steps made desk refl in
    let k = undo_step StartOpens capacity m (started t) f desk in
    (k.0 ∙ q, rw q at k.1)

pub undone_all : (StartOpens : Type 0) (capacity : ℕ) (m : State) (t : List ℕ) (steps : List Step) → Follows StartOpens capacity m (started t) → MadeBy t steps
    → (answers (undos_of steps) m ≡ grants_of steps) × Follows StartOpens capacity (state_after_all (undos_of steps) m) (started (bottom_of t steps))
unfolding answers state_after_all
undone_all StartOpens capacity m t [] f made = (refl, f)
undone_all StartOpens capacity m t (step ∷ steps) f made =
    let k = step_undone StartOpens capacity m t step steps f made in
    let r = undone_all StartOpens capacity (state_after (undo (desk_of step.author)) m) step.file steps k.1 made.3 in
    (ap₂ {C = List Answer} (λ x xs. x ∷ xs) (ap outcome_answer k.0) r.0, r.1)
