-- The laws of undo: the rules of a trailer by the tests of the code, the old bytes put back, and what it tells that undo is granted.
-- Assumes nothing.
use Prim.Native.Nat.{ℕ, ◌+◌, ◌-◌, ◌≤◌}
use mathlib.Core.Path.{◌≡◌, refl, sym, ap, ◌∙◌}
use mathlib.Core.Logic.{inl, inr}
use mathlib.Core.List.{List, ◌++◌}
use mathlib.Core.Bool.{Bool, true, false, ◌&&◌, ◌||◌}
use native.Mathlib.Nat.{suc-ne-zero}
use native.Mathlib.Omega.{arith}
use lib.ListN.{length, take, drop}
use lib.Seq.{length-take-le, take-take}
use lib.Dec.{leb, eqb}
use borrow.Author.Tests.{leb-true, eqb-true, eq-eqb, ne_eqb}
use Rattle.std.specs.Prelude.{Option, Some, None}
use Rattle.wire.specs.Numbers.{put}
use Rattle.wire.proofs.Numbers.{length_put}
use Rattle.answer.specs.Refusals.{BAD_TRAILER}
use Rattle.answer.specs.Search.{any, must}
use Rattle.answer.proofs.Tests.{and_split, or_split}
use Rattle.answer.proofs.Search.{must_holds, must_fails, passed}
use Rattle.directory.specs.Blocks.{blocks_of}
use Rattle.directory.specs.Slots.{slots_of}
use Rattle.directory.specs.Rooms.{is_link}
use Rattle.directory.specs.Opening.{open_of}
use Rattle.journal.specs.Outcomes.{granted, refused}
use Rattle.journal.specs.Trailers.{form_size, slot_size, link_size, trailer_at, carried_by, previous_of, old_bytes}
use Rattle.journal.specs.Undos.{restored, place_known, known, opens, sound, desk_fault, for_desk, restored_fault, undo_to, undo_by, undo_of}
use Rattle.journal.specs.declared.change.Change.{Change}
use Rattle.journal.specs.declared.change.Form.{Form}
use Rattle.journal.proofs.Parts.{put_inside}
use Rattle.journal.proofs.Outcomes.{refused_granted, granted_same, passing_goes, passing_stops, passing_granted, opened_granted, opens_true}
use Rattle.journal.proofs.Trailers.{Sized, length_old, ending_least}

-- ---- The rules by the present image

module _ (s : List ℕ) (c : Change) where
  pub place_slot : c.altered ≡ slot_size → place_known s c ≡ any (eqb c.place) (slots_of s)
  unfolding place_known
  place_slot e = rw (place_known, e) (or_none (any (eqb c.place) (slots_of s)))
    where
      or_none : (b : Bool) → b || false ≡ b
      or_none true = refl
      or_none false = refl

  pub place_link : c.altered ≡ link_size → place_known s c ≡ any (is_link c.place) (blocks_of s) && eqb c.second 0 && eqb c.third 0
  unfolding place_known
  place_link e = rw (place_known, e)

  pub place_none : (c.altered ≡ slot_size → ⊥) → (c.altered ≡ link_size → ⊥) → place_known s c ≡ false
  unfolding place_known
  place_none h k = rw (place_known, ne_eqb _ _ h, ne_eqb _ _ k)

  pub place_sized : place_known s c ≡ true → Sized c.altered
  unfolding place_known
  place_sized e =
      let slot = any (eqb c.place) (slots_of s) in
      let link = any (is_link c.place) (blocks_of s) in
      let low = eqb c.second 0 in
      let high = eqb c.third 0 in
      elim (or_split (eqb c.altered slot_size && slot) (eqb c.altered link_size && link && low && high) e) [
        | inl h ↦ inl (eqb-true c.altered slot_size (and_split (eqb c.altered slot_size) slot h).0)
        | inr h ↦
            let k₁ = and_split (eqb c.altered link_size && link && low) high h in
            let k₂ = and_split (eqb c.altered link_size && link) low k₁.0 in
            inr (eqb-true c.altered link_size (and_split (eqb c.altered link_size) link k₂.0).0)
      ]

-- the change of a trailer at t alters a slot or a next field that lies inside the length before it
pub record Known (t : ℕ) (c : Change) : Type 0 where
  pub shorter : c.before ≤ t
  pub size : Sized c.altered
  pub inside : c.place + c.altered ≤ c.before

pub known_is : (s : List ℕ) (t : ℕ) (c : Change) → known s t c ≡ true → Known t c
unfolding known
known_is s t c e =
    let h₁ = and_split (leb c.before t && place_known s c) (leb (c.place + c.altered) c.before) e in
    let h₂ = and_split (leb c.before t) (place_known s c) h₁.0 in
    record { shorter = leb-true _ _ h₂.0; size = place_sized s c h₂.1; inside = leb-true _ _ h₁.1 }

-- ---- The old bytes put back

pub length_restored : (s : List ℕ) (t : ℕ) (c : Change) → Known t c → t ≤ length s → length (restored s c) ≡ c.before
unfolding restored
length_restored s t c k h = length_put (take c.before s) c.place (old_bytes c) ∙ length-take-le c.before s (omega (arith, k.shorter))

-- in a buffer they are the restored file laid over its front
pub put_restored : (l : List ℕ) (n t : ℕ) (c : Change) → n ≤ length l → t ≤ n → Known t c
    → put l c.place (old_bytes c) ≡ restored (take n l) c ++ drop c.before l
unfolding restored
put_restored l n t c fits low k =
    put_inside l c.before c.place (old_bytes c) (omega (arith, k.shorter)) (omega (arith, length_old c k.size, k.inside))
    ∙ ap (λ x. put x c.place (old_bytes c) ++ drop c.before l) (sym (take-take c.before n l (omega (arith, k.shorter))))

-- ---- For a desk

module _ (own desk place : ℕ) (file : List ℕ) where
  pub for_own : desk ≡ own → for_desk own desk place file ≡ granted file
  unfolding desk_fault
  for_own e = passing_goes (desk_fault own desk) place _ (must_holds _ 30 0 (eq-eqb own desk (sym e)))

  pub for_other : (desk ≡ own → ⊥) → for_desk own desk place file ≡ refused 30 place
  unfolding desk_fault
  for_other z =
      let n = must_fails _ 30 0 (ne_eqb own desk (λ e. z (sym e))) in
      passing_stops (desk_fault own desk) place _ (λ q. suc-ne-zero 29 (sym n ∙ q)) ∙ ap (λ k. refused k place) n

-- ---- A granted undo

-- the change that the trailer of t records
abbrev pub change_of : Form → List ℕ → Change
change_of form t = trailer_at form t (length t - form_size form)

-- undo of t for a desk is granted s
pub record Undone (t : List ℕ) (desk : ℕ) (s : List ℕ) : Type 0 where
  pub form : Form
  pub ending : carried_by t ≡ Some form
  pub known : Known (length t - form_size form) (change_of form t)
  pub is : restored t (change_of form t) ≡ s
  pub opens : (open_of s).number ≡ 0
  pub own : (change_of form t).desk ≡ desk

pub undone : (t : List ℕ) (desk : ℕ) (s : List ℕ) → undo_of t desk ≡ granted s → Undone t desk s
unfolding undo_of undo_by undo_to restored_fault sound desk_fault
undone t desk s e = go (carried_by t) refl (opened_granted t (undo_by t desk (carried_by t)) s e).1
  where
    go : (ending : Option Form) → carried_by t ≡ ending → undo_by t desk ending ≡ granted s → Undone t desk s
    go None h g = absurd (refused_granted _ _ s g)
    go (Some form) h g =
        let a = length t - form_size form in
        let c = change_of form t in
        let old = restored t c in
        let k = passing_granted (must (known t a c) BAD_TRAILER (restored_fault form c desk old)) a (granted old) s g in
        let k₁ = passed (known t a c) 20 (restored_fault form c desk old) k.0 in
        let k₂ = passed (sound form c.previous old) 20 (desk_fault c.desk desk) k₁.1 in
        let same = granted_same old s k.1 in
        record {
          form = form;
          ending = h;
          known = known_is t a c k₁.0;
          is = same;
          opens = (opens_true s).0 (rw same at (and_split (eqb c.previous (previous_of form old)) (opens old) k₂.0).1);
          own = eqb-true c.desk desk (passed (eqb c.desk desk) 29 0 k₂.1).0;
        }

pub undone_length : (t : List ℕ) (desk : ℕ) (s : List ℕ) (u : Undone t desk s) → length s + form_size u.form ≤ length t
undone_length t desk s u =
    let n = sym (ap length u.is) ∙ length_restored t _ (change_of u.form t) u.known (omega arith) in
    omega (arith, n, u.known.shorter, ending_least u.form t u.ending)
