-- The claims about desks: one that is alone on a file, and files that were edited before, by desks or before there were any. Assumes nothing.
use Prim.Native.Nat.{ℕ, ◌≤◌}
use mathlib.Core.Path.{◌≡◌, refl, sym, ap, ◌∙◌}
use mathlib.Core.List.{List, [], ◌∷◌, map}
use lib.ListN.{length, take, replicate}
use lib.Seq.{take-length}
use Rattle.wire.specs.Numbers.{Bytes}
use Rattle.answer.specs.Answer.{grant}
use Rattle.journal.specs.Outcomes.{granted}
use Rattle.journal.specs.Trailers.{named}
use Rattle.journal.specs.Undos.{undo_of}
use Rattle.journal.specs.Rules.{CarriesLong, desk_named, image_before}
use Rattle.journal.specs.History.{Edit, Call, undo, IsDesk, TypedEdit, AllTyped, Entry, History, started, top_of, edited, below, decided, history_after_all, State, outcome, state_after_all, answers, Agrees}
use Rattle.journal.specs.Desks.{AllBy, Owned, above, NoneHas, Step, MadeBy, AllOf, bottom_of, undos_of, grants_of, old_steps}
use Rattle.journal.specs.declared.change.Form.TheVariants.{Long}
use Rattle.journal.proofs.Trailers.{ending_carries}
use Rattle.journal.proofs.Undos.{for_own, undone}
use Rattle.journal.proofs.Edits.{made, undo_of_edit}
use Rattle.journal.proofs.UndoRules.{long_is, desk_is_named}
use Rattle.journal.proofs.RuleClaims.{undo_restores}
use Rattle.journal.proofs.History.{undo_step, reached, at_start}
use Rattle.journal.proofs.Desks.{AllOwn, own_all, answers_alone, step_back, undone_all}

-- ---- The trailer of an edit

-- a granted edit leaves a file that carries a long trailer, which names its desk and the image before
pub edit_signed : (s : List ℕ) (capacity desk : ℕ) (e : Edit) (t : List ℕ) → Bytes s → IsDesk desk → TypedEdit e
    → edited capacity (named desk) e s ≡ granted t → CarriesLong t × (desk_named t ≡ desk) × (image_before t ≡ s)
edit_signed s capacity desk e t all is y g =
    let u = undo_of_edit s capacity (named desk) e t all is y g in
    let back : undo_of t desk ≡ granted s = u.back desk ∙ for_own desk desk _ _ refl in
    let whole : take (length t) t ≡ t = take-length t in
    let ending = (made s capacity (named desk) e t y g).ending all is in
    let d = undone t desk s back in (
      (long_is t).0 (ending_carries Long t ending),
      sym (desk_is_named d.form t d.ending) ∙ d.own,
      sym (ap image_before whole) ∙ sym (undo_restores t (length t) desk u.bytes s (u.front t whole desk ∙ for_own desk desk _ _ refl)),
    )

-- ---- One desk alone

module _ (buffer : List ℕ) (n : ℕ) (bytes : Bytes buffer) (inside : n ≤ length buffer)
    (calls : List Call) (typed : AllTyped calls) (desk : ℕ) (by : AllBy desk calls) where
  abbrev m : State
  m = state_after_all calls (record { buffer = buffer; size = n })

  abbrev h : History
  h = history_after_all (length buffer) calls (started (take n buffer))

  -- after calls of one desk, from any start file, its undo is granted where there is an edit to cancel
  pub one_desk_cancels : (entry : Entry) (entries : List Entry) → h.made ≡ entry ∷ entries → outcome (undo desk) m ≡ granted (top_of h.start entries)
  unfolding decided below
  one_desk_cancels entry entries e =
      let own : AllOwn desk (entry ∷ entries) = rw e at (own_all desk (length buffer) calls (started (take n buffer)) by tt) in
      (undo_step _ (length buffer) m h (reached buffer n bytes inside calls typed) desk).0
      ∙ rw e (for_own entry.desk desk _ _ own.0)

  -- and where the trailers that the start file carries are its own, or none, no call is ever refused with 30
  pub one_desk_alone : Owned desk (take n buffer) → NoneHas 30 (answers calls (record { buffer = buffer; size = n }))
  one_desk_alone owned =
      answers_alone _ (length buffer) desk calls _ (started (take n buffer)) (at_start buffer n bytes inside) typed by (record { owned = owned; own = tt })

-- ---- Files that edits made

-- a file that a desk's edits made of one whose trailers are the desk's, or that has none, is such a file
pub made_owned : (desk : ℕ) (t : List ℕ) (steps : List Step) → AllOf desk steps → MadeBy t steps → Owned desk (bottom_of t steps) → Owned desk t
made_owned desk t [] own made owned = owned
made_owned desk t (step ∷ steps) own made owned =
    above t step.file (step_back t step steps made desk own.0) (made_owned desk step.file steps own.1 made.3 owned)

module _ (buffer : List ℕ) (n : ℕ) (bytes : Bytes buffer) (inside : n ≤ length buffer) where
  -- a file that edits made, each of a desk or from before there were desks: undos that name their desks are granted, edit by edit, the file that
  -- each was made of, and the last one is then the buffer's
  pub edits_undone : (steps : List Step) → MadeBy (take n buffer) steps → let m : State = record { buffer = buffer; size = n } in
      (answers (undos_of steps) m ≡ grants_of steps) × Agrees (state_after_all (undos_of steps) m) (started (bottom_of (take n buffer) steps))
  edits_undone steps made =
      let k = undone_all _ (length buffer) _ (take n buffer) steps (at_start buffer n bytes inside) made in (k.0, k.1.agrees)

  -- a file that was edited before there were desks is undone as desk 0, edit by edit, back to its start
  pub old_edits_undone : (files : List (List ℕ)) → MadeBy (take n buffer) (old_steps files)
      → let m : State = record { buffer = buffer; size = n } in let undos = replicate (length files) (undo 0) in
      (answers undos m ≡ map (λ file. grant (length file ∷ [])) files) × Agrees (state_after_all undos m) (started (bottom_of (take n buffer) (old_steps files)))
  old_edits_undone files made =
      let k = edits_undone (old_steps files) made in
      let undos = undos_old files in
      (ap (λ c. answers c (record { buffer = buffer; size = n })) (sym undos) ∙ k.0 ∙ grants_old files, rw undos at k.1)
    where
      undos_old : (files : List (List ℕ)) → undos_of (old_steps files) ≡ replicate (length files) (undo 0)
      undos_old [] = refl
      undos_old (file ∷ files) = ap (λ cs. undo 0 ∷ cs) (undos_old files)

      grants_old : (files : List (List ℕ)) → grants_of (old_steps files) ≡ map (λ file. grant (length file ∷ [])) files
      grants_old [] = refl
      grants_old (file ∷ files) = ap (λ a. grant (length file ∷ []) ∷ a) (grants_old files)
