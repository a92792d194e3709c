-- Undo step by step: what refuses it, then the old bytes put back and, where the restored image or the desk breaks a rule, the present ones
-- again. Assumes nothing.
use Prim.Native.Nat.{ℕ, ◌+◌, ◌-◌, ◌≤◌}
use native.Mathlib.Nat.{suc-ne-zero}
use native.Mathlib.Omega.{arith}
use mathlib.Core.Path.{◌≡◌, sym, ap, ◌∙◌}
use mathlib.Core.List.{List, ◌++◌}
use mathlib.Core.Bool.{true, false}
use lib.ListN.{length, take, drop}
use lib.Seq.{length-take-le, take_at}
use Rattle.std.specs.Prelude.{None, Result, Ok, Err}
use Rattle.wire.specs.Numbers.{put, part, Bytes}
use Rattle.wire.proofs.Numbers.{length_put, bytes_take}
use Rattle.answer.specs.Refusals.{BAD_TRAILER, number_of}
use Rattle.answer.specs.declared.Refusal.{Refusal}
use Rattle.answer.specs.declared.refusals.Rule.{Rule}
use Rattle.answer.specs.declared.refusals.Rule.TheVariants.{NoEdit, BadTrailer}
use Rattle.answer.proofs.Answer.{number_positive}
use Rattle.answer.proofs.Search.{must_holds, must_fails}
use Rattle.directory.specs.Limits.{most_bytes}
use Rattle.directory.specs.Opening.{open_of}
use Rattle.journal.specs.Outcomes.{Outcome, granted, refused, passing, opened_to}
use Rattle.journal.specs.Trailers.{form_size, least_before, carried_by, named, old_bytes}
use Rattle.journal.specs.Undos.{restored, known, restored_fault, undo_to, undo_by, undo_of}
use Rattle.journal.specs.Buffers.{image_in, undo_in, Leaves}
use Rattle.journal.specs.Steps.Restores.{Trailed, Carrying, Restorable}
use Rattle.journal.specs.declared.change.Change.{Change}
use Rattle.journal.specs.declared.change.Form.{Form}
use Rattle.journal.proofs.Parts.{part_front, put_undone}
use Rattle.journal.proofs.Outcomes.{passing_goes, passing_stops, opened_to_goes}
use Rattle.journal.proofs.Trailers.{ending_least, old_there, length_old}
use Rattle.journal.proofs.Undos.{Known, known_is, length_restored, put_restored}
use Rattle.journal.proofs.Buffers.{refuses, grants, leaves_same, image_short, undo_here}

-- ---- Undo before it writes

-- opening's refusal
pub undo_closed : (l : List ℕ) (n desk : ℕ) (r : Refusal) → ((rest : Outcome) → image_in l n (opened_to (take n l) rest) ≡ refused (number_of r.rule) r.place)
    → Leaves (undo_in l n desk) l l (Err r)
unfolding undo_in undo_of
undo_closed l n desk r stop = refuses l r (stop _)

pub undo_leaves : (l : List ℕ) (n desk : ℕ) → n ≤ length l → (after : List ℕ) (r : Result ℕ Refusal) → Leaves (undo_of (take n l) desk) l after r
    → Leaves (undo_in l n desk) l after r
undo_leaves l n desk fits after r d = leaves_same l after r (undo_here l n desk fits) d

pub undo_none : (l : List ℕ) (n desk : ℕ) → n ≤ length l → (open_of (take n l)).number ≡ 0 → carried_by (take n l) ≡ None
    → Leaves (undo_in l n desk) l l (Err (record { rule = NoEdit; place = 0 }))
unfolding undo_of undo_by
undo_none l n desk fits opens h =
    refuses l (record { rule = NoEdit; place = 0 }) (undo_here l n desk fits ∙ opened_to_goes (take n l) _ opens ∙ ap (undo_by (take n l) desk) h)

pub image_least : (l : List ℕ) (n : ℕ) (form : Form) → Trailed l n form → least_before + form_size form ≤ n
image_least l n form w = omega (arith, ending_least form (take n l) w.ending, length-take-le n l w.fits)

module _ (l : List ℕ) (n : ℕ) (form : Form) (c : Change) (w : Carrying l n form c) where
  undo_is : (desk : ℕ) → undo_of (take n l) desk ≡ undo_to (take n l) desk form (n - form_size form) c
  unfolding undo_of undo_by
  undo_is desk =
      opened_to_goes (take n l) _ w.trailed.opens ∙ ap (undo_by (take n l) desk) w.trailed.ending
      ∙ rw (length-take-le n l w.trailed.fits, ← w.is)

  pub undo_unknown : (desk place : ℕ) → place ≡ n - form_size form → known (take n l) place c ≡ false
      → Leaves (undo_in l n desk) l l (Err (record { rule = BadTrailer; place = place }))
  unfolding undo_to
  undo_unknown desk place is h =
      let bad = must_fails (known (take n l) place c) BAD_TRAILER (restored_fault form c desk (restored (take n l) c)) h in
      refuses l (record { rule = BadTrailer; place = place }) (undo_here l n desk w.trailed.fits ∙ undo_is desk ∙ ap (λ k. undo_to (take n l) desk form k c) (sym is)
      ∙ ap (λ k. passing k place (granted (restored (take n l) c))) bad ∙ passing_stops BAD_TRAILER _ _ (suc-ne-zero 20))

  pub known_low : known (take n l) (n - form_size form) c ≡ true → c.place ≤ most_bytes
  known_low h = let k = known_is (take n l) _ c h in omega (arith, image_short l n w.trailed.fits w.trailed.opens)

-- ---- A trailer whose place is known

module _ (l : List ℕ) (n : ℕ) (form : Form) (present change : Change) (w : Restorable l n form present change) where
  fits : n ≤ length l
  fits = w.trail.trailed.fits

  rules : Known (n - form_size form) change
  rules = known_is (take n l) _ change w.placed

  pub least : form_size form ≤ n
  least = omega (arith, image_least l n form w.trail.trailed)

  pub place_low : change.place ≤ most_bytes
  place_low = known_low l n form change w.trail w.placed

  pub present_low : present.place ≤ most_bytes
  present_low = rw (ap (λ c. c.place) w.now) place_low

  present_is : Bytes l → old_bytes present ≡ part l change.place change.altered
  present_is all =
      let k = rules in
      let m : length (take n l) ≡ n = length-take-le n l fits in
      ap old_bytes w.now
      ∙ old_there (take n l) (named w.desk) change.place change.altered (bytes_take n l all) (omega arith) k.size
      ∙ part_front l n change.place change.altered fits (omega arith)

  abbrev file : List ℕ
  file = restored (take n l) change

  file_long : length file ≡ change.before
  file_long = length_restored (take n l) _ change rules (omega (arith, length-take-le n l fits))

  -- the old bytes are written
  module _ {l₁ : List ℕ} (wrote : l₁ ≡ put l change.place (old_bytes change)) where
    laid : l₁ ≡ file ++ drop change.before l
    laid = wrote ∙ put_restored l n _ change fits (omega arith) rules

    pub front_fits : change.before ≤ length l₁
    front_fits = let k = rules in omega (arith, fits, ap length wrote, length_put l change.place (old_bytes change))

    -- undo of the image goes by the rules of the restored file, and of the desk, alone
    module _ (desk k : ℕ) (is : k ≡ restored_fault form change desk (take change.before l₁)) where
      judged : undo_of (take n l) desk ≡ passing k (n - form_size form) (granted file)
      unfolding undo_to
      judged =
          let front : take change.before l₁ ≡ file = ap (take change.before) laid ∙ take_at file (drop change.before l) change.before file_long in
          undo_is l n form change w.trail desk
          ∙ ap (λ m. passing m (n - form_size form) (granted file)) (must_holds _ BAD_TRAILER _ w.placed ∙ sym (rw front at is))

      pub sound_leaves : k ≡ 0 → Leaves (undo_of (take n l) desk) l l₁ (Ok change.before)
      sound_leaves z = grants l l₁ file change.before (judged ∙ passing_goes k _ _ z) (sym file_long) (laid ∙ rw file_long)

      -- and the present ones again
      pub unsound_leaves : Bytes l → (r : Rule) → k ≡ number_of r → (l₂ : List ℕ) → l₂ ≡ put l₁ present.place (old_bytes present) → (place : ℕ) → place ≡ n - form_size form
          → Leaves (undo_of (take n l) desk) l l₂ (Err (record { rule = r; place = place }))
      unsound_leaves all r broken l₂ e place p =
          let known = rules in
          let back : l₂ ≡ l =
          e ∙ ap (λ c. put l₁ c.place (old_bytes present)) w.now ∙ ap (put l₁ change.place) (present_is all)
          ∙ ap (λ x. put x change.place (part l change.place change.altered)) wrote
          ∙ put_undone l change.place change.altered (old_bytes change) (omega (arith, fits)) (length_old change known.size) in
          let z : k ≡ 0 → ⊥ = λ h. number_positive r (sym broken ∙ h) in
          rw (back, p) (refuses l (record { rule = r; place = n - form_size form }) (judged ∙ passing_stops k _ _ z ∙ ap (λ m. refused m (n - form_size form)) broken))
