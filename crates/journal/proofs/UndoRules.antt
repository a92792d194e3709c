-- Undo goes by its rules, for a trailer of either form: it is granted exactly if all of them hold, and refused exactly as the first broken one says.
-- Assumes nothing.
use Prim.Native.Nat.{ℕ, ◌+◌, ◌-◌, ◌≤◌}
use mathlib.Core.Path.{◌≡◌, refl, sym, ap, ◌∙◌}
use mathlib.Core.Logic.{◌↔◌, ◌⊎◌, inl, inr}
use mathlib.Core.List.{List}
use mathlib.Core.Bool.{Bool, true, false, ◌&&◌, ◌||◌}
use native.Mathlib.Nat.{suc-ne-zero}
use native.Mathlib.Omega.{arith}
use lib.ListN.{length, take}
use lib.Dec.{leb, eqb}
use borrow.Author.Tests.{leb-true, le-leb, eqb-true, eq-eqb, ne_eqb}
use Rattle.std.specs.Prelude.{Option, Some, None}
use Rattle.wire.specs.Numbers.{be, put, Bytes}
use Rattle.wire.specs.declared.ByteOrder.TheVariants.{BigEndian}
use Rattle.wire.proofs.Numbers.{bytes_of_number, bytes_take}
use Rattle.answer.specs.Search.{any, must}
use Rattle.answer.specs.Rules.{done, rule}
use Rattle.answer.proofs.Tests.{by_test, fails, same?, le?, and_split, and_both, or_split, or_either, not_both}
use Rattle.answer.proofs.Search.{must_and, must_holds, must_fails, any_some, any_in}
use Rattle.directory.specs.Blocks.{blocks_of}
use Rattle.directory.specs.Slots.{slots_of}
use Rattle.directory.specs.Opening.{open_of}
use Rattle.directory.specs.Rooms.{is_link}
use Rattle.journal.specs.Outcomes.{granted, refused, passing}
use Rattle.journal.specs.Buffers.{undo_in}
use Rattle.journal.specs.Trailers.{form_size, trailer_at, carries, carried_by, counts_form, previous_of, old_bytes}
use Rattle.journal.specs.Undos.{restored, place_known, known, opens, sound, desk_fault, restored_fault, undo_to, undo_by, undo_of}
use Rattle.journal.specs.Steps.Restores.{desk_at}
use Rattle.journal.specs.declared.change.Change.{Change}
use Rattle.journal.specs.declared.change.Form.{Form}
use Rattle.journal.specs.declared.change.Form.TheVariants.{Old, Long}
use Rattle.journal.specs.Rules.{CarriesOld, CarriesLong, ends_long, trailer_place, place_altered, bytes_altered, old_at, padding_at, length_before, previous_trailer, desk_named, image_before, AlteredKnown, PaddingZero, PreviousIs, undo_rules}
use Rattle.journal.proofs.Outcomes.{opens_true, passing_goes, passing_stops}
use Rattle.journal.proofs.Trailers.{trailer_fields, slot_old, carries_is, not_both_forms, ending_carries, ending_nothing, ending_least, previous_none, previous_there, previous_other}
use Rattle.journal.proofs.Undos.{change_of, undone}
use Rattle.journal.proofs.Buffers.{inside}
use Rattle.journal.proofs.Rules.{By, outcome_exactly, by_same, by_rule, by_done, by_image}

-- ---- The trailer that an image carries

-- which trailer an image carries, by its closing bytes
module _ (s : List ℕ) where
  old_is : (carries Old s ≡ true) ↔ CarriesOld s
  old_is = carries_is Old s

  pub long_is : (carries Long s ≡ true) ↔ CarriesLong s
  long_is = carries_is Long s

  bare : carried_by s ≡ None → (CarriesOld s → ⊥) × (CarriesLong s → ⊥)
  bare e = ((λ h. not_both (carries Old s) (ending_nothing s e Old) (old_is.1 h)), (λ h. not_both (carries Long s) (ending_nothing s e Long) (long_is.1 h)))

  there_is : (form : Form) → carried_by s ≡ Some form → CarriesOld s ⊎ CarriesLong s
  there_is Old e = inl (old_is.0 (ending_carries Old s e))
  there_is Long e = inr (long_is.0 (ending_carries Long s e))

  -- never both
  not_two : CarriesOld s → CarriesLong s → ⊥
  not_two a b = not_both_forms _ a.1 b.1

abbrev is_long : Form → Bool
is_long Old = false
is_long Long = true

ends_by : (form : Form) (s : List ℕ) → carried_by s ≡ Some form → ends_long s ≡ is_long form
unfolding ends_long
ends_by Old s e = ne_eqb (be 4 s (length s - 4)) 0x42414332 (not_both_forms _ ((carries_is Old s).0 (ending_carries Old s e)).1)
ends_by Long s e = eq-eqb (be 4 s (length s - 4)) 0x42414332 ((carries_is Long s).0 (ending_carries Long s e)).1

-- what goes by the closing bytes
by_ends : {A : Type 0} (form : Form) (s : List ℕ) → carried_by s ≡ Some form → (long old : A)
    → ◌≡◌ {A = A} (elim (ends_long s) [ true ↦ long | false ↦ old ]) (elim (is_long form) [ true ↦ long | false ↦ old ])
by_ends form s e long old = rw (ends_by form s e)

place_is : (form : Form) (s : List ℕ) → carried_by s ≡ Some form → length s - form_size form ≡ trailer_place s
place_is form s e = ap (λ k. length s - k) (go form ∙ sym (by_ends form s e 36 32))
  where
    go : (f : Form) → ◌≡◌ {A = ℕ} (form_size f) (elim (is_long f) [ true ↦ 36 | false ↦ 32 ])
    go Old = refl
    go Long = refl

-- the trailer's fields
abbrev fields : List ℕ → Change
fields s =
    record {
      place = place_altered s;
      altered = bytes_altered s;
      first = be 4 s (old_at s);
      second = be 4 s (padding_at s);
      third = be 4 s (padding_at s + 4);
      before = length_before s;
      previous = previous_trailer s;
      desk = desk_named s;
    }

desk_is : (form : Form) (s : List ℕ) → carried_by s ≡ Some form → desk_at form s (trailer_place s) ≡ desk_named s
unfolding desk_at
desk_is Old s e = sym (by_ends Old s e (be 4 s (trailer_place s + 28)) 0)
desk_is Long s e = sym (by_ends Long s e (be 4 s (trailer_place s + 28)) 0)

fields_are : (form : Form) (s : List ℕ) → carried_by s ≡ Some form → trailer_at form s (trailer_place s) ≡ fields s
fields_are form s e =
    let third : trailer_place s + 12 + 4 ≡ trailer_place s + 16 = omega arith in
    trailer_fields form s (trailer_place s) ∙ rw (desk_is form s e, third)

change_is : (form : Form) (s : List ℕ) → carried_by s ≡ Some form → change_of form s ≡ fields s
change_is form s e = rw (place_is form s e) (fields_are form s e)

pub desk_is_named : (form : Form) (s : List ℕ) → carried_by s ≡ Some form → (change_of form s).desk ≡ desk_named s
desk_is_named form s e = ap (λ (c : Change). c.desk) (change_is form s e)

-- the previous trailer by its count
module _ (form : Form) (s : List ℕ) (carrying : carried_by s ≡ Some form) (previous : ℕ) (old : List ℕ) where
  counts_old : (f : Form) → counts_form f Old ≡ true
  counts_old Old = refl
  counts_old Long = refl

  long_there : (f : Form) → carried_by s ≡ Some f → carried_by old ≡ Some Long
      → previous_of f old ≡ elim (ends_long s) [ true ↦ length old - 36 | false ↦ 0 ]
  long_there Old c e = previous_other Old old Long e refl ∙ sym (by_ends Old s c (length old - 36) 0)
  long_there Long c e = previous_there Long old Long e refl ∙ sym (by_ends Long s c (length old - 36) 0)

  previous_is : (eqb previous (previous_of form old) ≡ true) ↔ PreviousIs s previous old
  previous_is = go (carried_by old) refl
    where
      by : {P : Type 0} → (previous ≡ previous_of form old → P) → (P → previous ≡ previous_of form old) → (eqb previous (previous_of form old) ≡ true) ↔ P
      by to from = ((λ e. to (eqb-true previous (previous_of form old) e)), (λ h. eq-eqb previous (previous_of form old) (from h)))

      go : (ending : Option Form) → carried_by old ≡ ending → (eqb previous (previous_of form old) ≡ true) ↔ PreviousIs s previous old
      go None e =
          let none = bare old e in
          by (λ q. record { of_old = λ a. absurd (none.0 a); of_long = λ a. absurd (none.1 a); of_none = λ a b. q ∙ previous_none form old e })
          (λ h. h.of_none none.0 none.1 ∙ sym (previous_none form old e))
      go (Some Old) e =
          let there = (old_is old).0 (ending_carries Old old e) in
          let is = previous_there form old Old e (counts_old form) in
          by (λ q. record { of_old = λ a. q ∙ is; of_long = λ a. absurd (not_two old there a); of_none = λ a b. absurd (a there) })
          (λ h. h.of_old there ∙ sym is)
      go (Some Long) e =
          let there = (long_is old).0 (ending_carries Long old e) in
          let is = long_there form carrying e in
          by (λ q. record { of_old = λ a. absurd (not_two old a there); of_long = λ a. q ∙ is; of_none = λ a b. absurd (b there) })
          (λ h. h.of_long there ∙ sym is)

module _ (s : List ℕ) where
  abbrev slot_altered : Bool
  slot_altered = eqb (bytes_altered s) 12 && any (eqb (place_altered s)) (slots_of s)

  abbrev next_altered : Bool
  next_altered = eqb (bytes_altered s) 4 && any (is_link (place_altered s)) (blocks_of s)

  altered_known : (slot_altered || next_altered ≡ true) ↔ AlteredKnown s
  altered_known = (
    (λ e. elim (or_split slot_altered next_altered e) [
      | inl h ↦
          let k = and_split (eqb (bytes_altered s) 12) _ h in
          let x = any_some (eqb (place_altered s)) (slots_of s) k.1 in
          inl (eqb-true (bytes_altered s) 12 k.0, rw (eqb-true (place_altered s) x.0 x.2) x.1)
      | inr h ↦
          let k = and_split (eqb (bytes_altered s) 4) _ h in
          let x = any_some (is_link (place_altered s)) (blocks_of s) k.1 in
          inr (eqb-true (bytes_altered s) 4 k.0, (x.0, x.1, eqb-true (place_altered s) (x.0 + 2) x.2))
    ]),
    (λ h. or_either slot_altered next_altered (elim h [
      | inl k ↦ inl (and_both _ _ (eq-eqb (bytes_altered s) 12 k.0) (any_in (eqb (place_altered s)) (slots_of s) (place_altered s) k.1 (eq-eqb (place_altered s) _ refl)))
      | inr k ↦ inr (and_both _ _ (eq-eqb (bytes_altered s) 4 k.0) (any_in (is_link (place_altered s)) (blocks_of s) k.1.0 k.1.1 (eq-eqb (place_altered s) _ k.1.2)))
    ])),
  )

  abbrev low : Bool
  low = eqb (be 4 s (padding_at s)) 0

  abbrev high : Bool
  high = eqb (be 4 s (padding_at s + 4)) 0

  place_known_lem : (place_known s (fields s) ≡ true) ↔ (AlteredKnown s × PaddingZero s)
  unfolding place_known
  place_known_lem = (
    (λ e. elim (or_split slot_altered (next_altered && low && high) e) [
      | inl h ↦
          let k = altered_known.0 (or_either slot_altered next_altered (inl h)) in
          let twelve = eqb-true (bytes_altered s) 12 (and_split (eqb (bytes_altered s) 12) (any (eqb (place_altered s)) (slots_of s)) h).0 in
          (k, λ four. absurd (omega arith))
      | inr h ↦
          let k₁ = and_split (next_altered && low) high h in
          let k₂ = and_split next_altered low k₁.0 in (
            altered_known.0 (or_either slot_altered next_altered (inr k₂.0)),
            λ four. (eqb-true (be 4 s (padding_at s)) 0 k₂.1, eqb-true (be 4 s (padding_at s + 4)) 0 k₁.1),
          )
    ]),
    (λ h. or_either slot_altered (next_altered && low && high) (elim (or_split slot_altered next_altered (altered_known.1 h.0)) [
      | inl k ↦ inl k
      | inr k ↦
          let four = eqb-true (bytes_altered s) 4 (and_split (eqb (bytes_altered s) 4) (any (is_link (place_altered s)) (blocks_of s)) k).0 in
          let zeros = h.1 four in
          inr (and_both _ _ (and_both _ _ k (eq-eqb (be 4 s (padding_at s)) 0 zeros.0)) (eq-eqb (be 4 s (padding_at s + 4)) 0 zeros.1))
    ])),
  )

  padding_zero : PaddingZero s ⊎ (PaddingZero s → ⊥)
  padding_zero = elim (same? (bytes_altered s) 4) [
    | inr z ↦ inl (λ e. absurd (z e))
    | inl e ↦ elim (same? (be 4 s (padding_at s)) 0) [
      | inr z ↦ inr (λ h. z (h e).0)
      | inl a ↦ elim (same? (be 4 s (padding_at s + 4)) 0) [ inr z ↦ inr (λ h. z (h e).1) | inl b ↦ inl (λ x. (a, b)) ]
    ]
  ]

module _ (form : Form) (s : List ℕ) (all : Bytes s) (carrying : carried_by s ≡ Some form) where
  abbrev t : ℕ
  t = trailer_place s

  -- it has room for its fields
  fields_inside : t + 32 ≤ length s
  fields_inside = go form carrying
    where
      go : (f : Form) → carried_by s ≡ Some f → t + 32 ≤ length s
      go Old e = omega (arith, place_is Old s e, ending_least Old s e)
      go Long e = omega (arith, place_is Long s e, ending_least Long s e)

  -- the old bytes of a slot or a next field, put back
  before_is : AlteredKnown s → restored s (fields s) ≡ image_before s
  unfolding restored image_before old_bytes
  before_is (inl k) =
      let second : t + 8 + 4 ≡ t + 12 = omega arith in
      let third : t + 8 + 8 ≡ t + 12 + 4 = omega arith in
      ap (put (take (length_before s) s) (place_altered s)) (rw (old_bytes, k.0) (rw (second, third) at (slot_old s (t + 8) all (omega (arith, fields_inside)))))
  before_is (inr k) = ap (put (take (length_before s) s) (place_altered s)) (rw (old_bytes, k.0) (bytes_of_number BigEndian 4 s (t + 8) all (omega (arith, fields_inside))))

  -- the tests of a trailer, and what they say
  abbrev verdict : Bool
  verdict = known s t (fields s) && sound form (previous_trailer s) (restored s (fields s))

  abbrev Facts : Type 0
  Facts =
      (length_before s ≤ t) × AlteredKnown s × (place_altered s + bytes_altered s ≤ length_before s) × PaddingZero s
      × PreviousIs s (previous_trailer s) (image_before s) × ((open_of (image_before s)).number ≡ 0)

  verdict_facts : verdict ≡ true → Facts
  unfolding known sound
  verdict_facts e =
      let old = restored s (fields s) in
      let a = and_split (known s t (fields s)) (sound form (previous_trailer s) old) e in
      let b = and_split (leb (length_before s) t && place_known s (fields s)) (leb (place_altered s + bytes_altered s) (length_before s)) a.0 in
      let c = and_split (leb (length_before s) t) (place_known s (fields s)) b.0 in
      let d = (place_known_lem s).0 c.1 in
      let f = and_split (eqb (previous_trailer s) (previous_of form old)) (opens old) a.1 in
      let same = before_is d.0 in (
        leb-true (length_before s) t c.0,
        d.0,
        leb-true (place_altered s + bytes_altered s) (length_before s) b.1,
        d.1,
        rw same at ((previous_is form s carrying (previous_trailer s) old).0 f.0),
        rw same at ((opens_true old).0 f.1),
      )

  facts_verdict : Facts → verdict ≡ true
  unfolding known sound
  facts_verdict h =
      let old = restored s (fields s) in
      let same = before_is h.1 in
      and_both (known s t (fields s)) (sound form (previous_trailer s) old)
      (and_both _ _ (and_both _ _ (le-leb (length_before s) t h.0) ((place_known_lem s).1 (h.1, h.3))) (le-leb (place_altered s + bytes_altered s) (length_before s) h.2))
      (and_both _ _ ((previous_is form s carrying (previous_trailer s) old).1 (rw same h.4)) ((opens_true old).1 (rw same h.5)))

  module _ (desk : ℕ) where
    -- what the tests come to, then the desk
    abbrev judged : ℕ
    judged = must verdict 21 (desk_fault (desk_named s) desk)

    to_is : undo_to s desk form t (fields s) ≡ passing judged t (granted (restored s (fields s)))
    unfolding undo_to restored_fault
    to_is = ap (λ k. passing k t (granted (restored s (fields s)))) (sym (must_and (known s t (fields s)) _ 21 _))

    undo_to_by : By (rule 21 t (length_before s ≤ t) (rule 21 t (AlteredKnown s) (rule 21 t (place_altered s + bytes_altered s ≤ length_before s) (rule 21 t (PaddingZero s)
        (rule 21 t (PreviousIs s (previous_trailer s) (image_before s)) (rule 21 t ((open_of (image_before s)).number ≡ 0)
        (rule 30 t (desk_named s ≡ desk) done))))))) (undo_to s desk form t (fields s))
    unfolding desk_fault
    undo_to_by =
        by_rule _ 21 t _ _ (le? _ _) (λ z. bad (λ f. z f.0))
        (λ a. by_rule _ 21 t _ _ (by_test _ _ (altered_known s)) (λ z. bad (λ f. z f.1))
        (λ b. by_rule _ 21 t _ _ (le? _ _) (λ z. bad (λ f. z f.2))
        (λ c. by_rule _ 21 t _ _ (padding_zero s) (λ z. bad (λ f. z f.3))
        (λ d. by_rule _ 21 t _ _ (by_test _ _ (previous_is form s carrying (previous_trailer s) (image_before s))) (λ z. bad (λ f. z f.4))
        (λ e. by_rule _ 21 t _ _ (same? _ 0) (λ z. bad (λ f. z f.5))
        (λ g. let good = must_holds verdict 21 (desk_fault (desk_named s) desk) (facts_verdict (a, b, c, d, e, g)) in
        by_rule _ 30 t _ _ (same? _ desk)
        (λ z. stops 30 (good ∙ must_fails _ 30 0 (ne_eqb (desk_named s) desk z)) (suc-ne-zero 29))
        (λ own. by_done _ (restored s (fields s)) (to_is ∙ passing_goes judged t _ (good ∙ must_holds _ 30 0 (eq-eqb (desk_named s) desk own))))))))))
      where
        stops : (n : ℕ) → judged ≡ n → (n ≡ 0 → ⊥) → undo_to s desk form t (fields s) ≡ refused n t
        stops n e z = to_is ∙ ap (λ k. passing k t (granted (restored s (fields s)))) e ∙ passing_stops n t _ z

        bad : (Facts → ⊥) → undo_to s desk form t (fields s) ≡ refused 21 t
        bad z = stops 21 (must_fails verdict 21 _ (fails verdict (λ v. z (verdict_facts v)))) (suc-ne-zero 20)

module _ (buffer : List ℕ) (n desk : ℕ) (all : Bytes buffer) where
  pub undo_by_lem : By (undo_rules buffer n desk) (undo_in buffer n desk)
  unfolding undo_in undo_of undo_by
  undo_by_lem = by_image buffer n _ _ (λ fits opens. go (carried_by (take n buffer)) refl)
    where
      go : (ending : Option Form) → carried_by (take n buffer) ≡ ending
          → let s = take n buffer in let t = trailer_place s in
          By (rule 20 0 (CarriesOld s ⊎ CarriesLong s) (rule 21 t (length_before s ≤ t) (rule 21 t (AlteredKnown s)
          (rule 21 t (place_altered s + bytes_altered s ≤ length_before s) (rule 21 t (PaddingZero s) (rule 21 t (PreviousIs s (previous_trailer s) (image_before s))
          (rule 21 t ((open_of (image_before s)).number ≡ 0) (rule 30 t (desk_named s ≡ desk) done)))))))) (undo_by s desk ending)
      go None e =
          let none : CarriesOld (take n buffer) ⊎ CarriesLong (take n buffer) → ⊥ =
          λ h. elim h [ inl a ↦ (bare (take n buffer) e).0 a | inr b ↦ (bare (take n buffer) e).1 b ] in
          by_rule _ 20 0 _ _ (inr none) (λ z. refl) (λ h. absurd (none h))
      go (Some form) e =
          let s = take n buffer in
          let there = there_is s form e in
          by_rule _ 20 0 _ _ (inl there) (λ z. absurd (z there))
          (λ h. by_same _ _ _ (rw (place_is form s e) (ap (undo_to s desk form (trailer_place s)) (fields_are form s e))) (undo_to_by form s (bytes_take n buffer all) e desk))

  -- the file that it makes
  pub undo_is : (file : List ℕ) → undo_in buffer n desk ≡ granted file → file ≡ image_before (take n buffer)
  unfolding undo_in
  undo_is file e =
      let s = take n buffer in
      let h = (outcome_exactly _ _ undo_by_lem).0.0 (file, e) in
      let u = undone s desk file (sym (inside buffer n (undo_of s desk) h.0) ∙ e) in
      let c = change_is u.form s u.ending in
      sym u.is ∙ ap (restored s) c ∙ before_is u.form s (bytes_take n buffer all) u.ending h.1.1.1.1.0
