-- The laws of outcomes: a refusal or what the call goes on to, what it tells that a call was granted, and an edit's tag and room. Assumes nothing.
use Prim.Native.Nat.{ℕ, zero, suc, ◌<◌, ◌≤◌}
use mathlib.Core.Path.{◌≡◌, refl, sym, ap, ◌∙◌}
use mathlib.Core.Logic.{◌↔◌, ◌⊎◌, inl, inr}
use mathlib.Core.List.{List}
use mathlib.Core.Bool.{Bool, true, false, ◌&&◌, ◌||◌, and-false}
use native.Mathlib.Nat.{suc-ne-zero}
use native.Mathlib.Omega.{arith}
use lib.ListN.{length}
use lib.Dec.{leb, eqb}
use borrow.Author.Tests.{leb-true, leb-false, le-leb, lt-leb, eqb-true, eqb-false, eq-eqb, ne_eqb}
use Rattle.std.specs.Prelude.{Result, Ok, Err, is_ok}
use Rattle.answer.specs.Refusals.{TOO_LONG, BAD_TAG, NO_ROOM, number_of}
use Rattle.answer.specs.Search.{Hit, hit, miss}
use Rattle.answer.specs.Answer.{refuse}
use Rattle.answer.specs.declared.Refusal.{Refusal}
use Rattle.answer.specs.declared.refusals.Rule.{Rule}
use Rattle.answer.proofs.Answer.{number_positive, refusal_is}
use Rattle.answer.proofs.Tests.{test, or_clear, or_neither, and_fails, picks, zero?, same?}
use Rattle.answer.proofs.Search.{must_holds, must_fails, passed}
use Rattle.directory.specs.Limits.{most_bytes, free_tag, lone_tag, extended_free}
use Rattle.directory.specs.Slots.{base_tag}
use Rattle.directory.specs.Opening.{opened_numbers, open_of}
use Rattle.directory.specs.Lookup.{hit_found, find, find_in}
use Rattle.directory.specs.Steps.Opens.{Opens}
use Rattle.directory.specs.declared.Counts.{Counts}
use Rattle.directory.proofs.Claims.{base_tag_plain}
use Rattle.directory.proofs.Opens.{accepted_with, opened_find}
use Rattle.journal.specs.Outcomes.{Outcome, granted, refused, passing, opened_to}
use Rattle.journal.specs.Undos.{opens}
use Rattle.journal.specs.Rules.{EditTag}
use Rattle.journal.specs.Edits.{fit_fault, fitted, bad_tag, tagged}

pub refused_granted : (number place : ℕ) (t : List ℕ) → refused number place ≡ granted t → ⊥
refused_granted number place t e = let z : ◌≡◌ {A = ℕ} 0 1 = cc in omega arith

pub granted_same : (t u : List ℕ) → granted t ≡ granted u → t ≡ u
granted_same t u e = cc

-- what a search picks
pub hit_picks : (f : Hit) (a : ℕ → Outcome) (b o : Outcome) → ◌≡◌ {A = Outcome} (elim f [ hit p ↦ a p | miss ↦ b ]) o
    → ((p : ℕ) × (f ≡ hit p) × (a p ≡ o)) ⊎ ((f ≡ miss) × (b ≡ o))
hit_picks (hit p) a b o e = inl (p, refl, e)
hit_picks miss a b o e = inr (refl, e)

-- what a lookup in an image that opened found
module _ (s : List ℕ) (blocks tag ref : ℕ) (o : Opens s blocks) (f : Result ℕ Refusal) (is : f ≡ hit_found (find_in s blocks tag ref)) where
  pub found_hit : (p : ℕ) → f ≡ Ok p → find s tag ref ≡ hit p
  found_hit p e = sym (opened_find s blocks tag ref o) ∙ go (find_in s blocks tag ref) (sym is ∙ e)
    where
      go : (h : Hit) → hit_found h ≡ Ok p → h ≡ hit p
      go (hit q) e = cc
      go miss e = let z : ◌≡◌ {A = ℕ} 0 1 = cc in absurd (omega arith)

  pub found_miss : (r : Refusal) → f ≡ Err r → find s tag ref ≡ miss
  found_miss r e = sym (opened_find s blocks tag ref o) ∙ go (find_in s blocks tag ref) (sym is ∙ e)
    where
      go : (h : Hit) → hit_found h ≡ Err r → h ≡ miss
      go (hit q) e = let z : ◌≡◌ {A = ℕ} 0 1 = cc in absurd (omega arith)
      go miss e = refl

-- ---- Rules first

module _ (n place : ℕ) (o : Outcome) where
  pub passing_goes : n ≡ 0 → passing n place o ≡ o
  unfolding passing
  passing_goes e = ap (λ m. passing m place o) e

  pub passing_stops : (n ≡ 0 → ⊥) → passing n place o ≡ refused n place
  unfolding passing
  passing_stops h = elim (zero? n) [ inl z ↦ absurd (h z) | inr m ↦ rw m.1 ]

  pub passing_granted : (t : List ℕ) → passing n place o ≡ granted t → (n ≡ 0) × (o ≡ granted t)
  passing_granted t e =
      elim (same? n 0) [
        | inl z ↦ (z, sym (passing_goes z) ∙ e)
        | inr h ↦ absurd (refused_granted n place t (sym (passing_stops h) ∙ e))
      ]

-- ---- Refusals have numbers

pub record Positive (o : Outcome) : Type 0 where
  pub told : (number place : ℕ) → o ≡ refused number place → number ≡ 0 → ⊥

pub positive_granted : (t : List ℕ) → Positive (granted t)
positive_granted t = record { told = λ number place e. absurd (refused_granted number place t (sym e)) }

pub positive_refused : (number place : ℕ) → (number ≡ 0 → ⊥) → Positive (refused number place)
positive_refused number place z = record { told = λ n p e q. z (let same : number ≡ n = cc in same ∙ q) }

pub positive_passing : (n place : ℕ) (o : Outcome) → Positive o → Positive (passing n place o)
unfolding passing
positive_passing zero place o h = h
positive_passing (suc n) place o h = positive_refused (suc n) place (suc-ne-zero n)

pub positive_opened : (s : List ℕ) (o : Outcome) → Positive o → Positive (opened_to s o)
unfolding opened_to
positive_opened s o h = positive_passing _ _ o h

pub positive_tagged : (s : List ℕ) (tag : ℕ) (o : Outcome) → Positive o → Positive (tagged s tag o)
unfolding tagged
positive_tagged s tag o h = positive_opened s _ (go (bad_tag tag))
  where
    go : (b : Bool) → Positive (elim b [ true ↦ refused BAD_TAG 0 | false ↦ o ])
    go true = positive_refused BAD_TAG 0 (suc-ne-zero 6)
    go false = h

-- ---- Opening first

pub opened_to_goes : (s : List ℕ) (o : Outcome) → (open_of s).number ≡ 0 → opened_to s o ≡ o
unfolding opened_to
opened_to_goes s o h = passing_goes _ _ o h

pub opened_granted : (s : List ℕ) (o : Outcome) (t : List ℕ) → opened_to s o ≡ granted t → ((open_of s).number ≡ 0) × (o ≡ granted t)
unfolding opened_to
opened_granted s o t e = passing_granted _ _ o t e

pub opens_true : (s : List ℕ) → (opens s ≡ true) ↔ ((open_of s).number ≡ 0)
unfolding opens
opens_true s = (eqb-true (open_of s).number 0, eq-eqb (open_of s).number 0)

-- by opening's answer
module _ (s : List ℕ) (o : Result Counts Refusal) (answers : opened_numbers o ≡ open_of s) where
  pub opens_yes : (c : Counts) → o ≡ Ok c → opens s ≡ true
  opens_yes c e = (opens_true s).1 (accepted_with s o answers c e).sound

  module _ (r : Refusal) (e : o ≡ Err r) where
    refused_answer : open_of s ≡ refuse 3 (number_of r.rule) r.place
    refused_answer = sym answers ∙ ap opened_numbers e ∙ refusal_is 3 r

    closed : (open_of s).number ≡ 0 → ⊥
    closed z = number_positive r.rule (sym (ap (λ a. a.number) refused_answer) ∙ z)

    pub opens_no : opens s ≡ false
    unfolding opens
    opens_no = ne_eqb _ _ closed

    -- the refusal that a call passes on, whatever comes after
    pub opened_stops : (rest : Outcome) → opened_to s rest ≡ refused (number_of r.rule) r.place
    unfolding opened_to
    opened_stops rest = passing_stops _ _ rest closed ∙ ap (λ a. refused a.number a.place) refused_answer

pub opens_is : (s : List ℕ) (o : Result Counts Refusal) → opened_numbers o ≡ open_of s → is_ok o ≡ opens s
opens_is s (Ok c) e = sym (opens_yes s (Ok c) e c refl)
opens_is s (Err r) e = sym (opens_no s (Err r) e r refl)

-- ---- An edit's tag

-- the tags that edits take, by the test
pub tag_good : (tag : ℕ) → bad_tag tag ≡ false → EditTag tag
unfolding bad_tag
tag_good tag e =
    let extended = leb 16384 tag && leb tag 32767 in
    let h₁ = or_clear (eqb tag 0 || eqb tag 1 || eqb tag 107) extended e in
    let h₂ = or_clear (eqb tag 0 || eqb tag 1) (eqb tag 107) h₁.0 in
    let h₃ = or_clear (eqb tag 0) (eqb tag 1) h₂.0 in (
      eqb-false tag 0 h₃.0,
      eqb-false tag 1 h₃.1,
      eqb-false tag 107 h₂.1,
      elim (and_fails (leb 16384 tag) (leb tag 32767) h₁.1) [ inl f ↦ inl (leb-false 16384 tag f) | inr f ↦ inr (leb-false tag 32767 f) ],
    )

pub tag_bad : (tag : ℕ) → EditTag tag → bad_tag tag ≡ false
unfolding bad_tag
tag_bad tag g =
    or_neither _ _ (or_neither _ _ (or_neither _ _ (ne_eqb _ _ g.0) (ne_eqb _ _ g.1)) (ne_eqb _ _ g.2))
    (elim g.3 [ inl l ↦ rw (lt-leb _ _ l) | inr l ↦ rw (lt-leb _ _ l) (and-false (leb 16384 tag)) ])

pub tag_other : (tag : ℕ) → (EditTag tag → ⊥) → bad_tag tag ≡ true
tag_other tag z = elim (test (bad_tag tag)) [ inl e ↦ e | inr e ↦ absurd (z (tag_good tag e)) ]

-- what follows of such a tag
pub record Taken (tag : ℕ) : Type 0 where
  pub not_zero : tag ≡ 0 → ⊥
  pub not_free : tag ≡ free_tag → ⊥
  pub not_lone : tag ≡ lone_tag → ⊥
  pub not_extended_free : tag ≡ extended_free → ⊥
  pub base : base_tag tag ≡ tag

tag_taken : (tag : ℕ) → bad_tag tag ≡ false → Taken tag
tag_taken tag e =
    let g = tag_good tag e in
    record {
      not_zero = g.0;
      not_free = g.1;
      not_lone = g.2;
      not_extended_free = λ q. elim g.3 [ inl l ↦ omega arith | inr l ↦ omega arith ];
      base = base_tag_plain tag g.3;
    }

pub tagged_bad : (s : List ℕ) (tag : ℕ) → (open_of s).number ≡ 0 → bad_tag tag ≡ true → (rest : Outcome) → tagged s tag rest ≡ refused 7 0
unfolding tagged
tagged_bad s tag h b rest = opened_to_goes s _ h ∙ rw b

pub tagged_good : (s : List ℕ) (tag : ℕ) → (open_of s).number ≡ 0 → bad_tag tag ≡ false → (rest : Outcome) → tagged s tag rest ≡ rest
unfolding tagged
tagged_good s tag h b rest = opened_to_goes s _ h ∙ rw b

pub tagged_granted : (s : List ℕ) (tag : ℕ) (o : Outcome) (t : List ℕ) → tagged s tag o ≡ granted t
    → ((open_of s).number ≡ 0) × Taken tag × (o ≡ granted t)
unfolding tagged
tagged_granted s tag o t e =
    let h = opened_granted s (elim (bad_tag tag) [ true ↦ refused BAD_TAG 0 | false ↦ o ]) t e in
    elim (picks (bad_tag tag) (refused BAD_TAG 0) o (granted t) h.1) [
      | inl l ↦ absurd (refused_granted _ _ t l.1)
      | inr r ↦ (h.0, tag_taken tag r.0, r.1)
    ]

-- ---- An edit's room

module _ (capacity size : ℕ) where
  pub fault_long : most_bytes < size → fit_fault capacity size ≡ TOO_LONG
  unfolding fit_fault
  fault_long h = must_fails _ TOO_LONG _ (lt-leb _ _ h)

  module _ (short : size ≤ most_bytes) where
    pub fault_room : capacity < size → fit_fault capacity size ≡ NO_ROOM
    unfolding fit_fault
    fault_room h = must_holds _ TOO_LONG _ (le-leb _ _ short) ∙ must_fails _ NO_ROOM _ (lt-leb _ _ h)

    pub fault_none : size ≤ capacity → fit_fault capacity size ≡ 0
    unfolding fit_fault
    fault_none h = must_holds _ TOO_LONG _ (le-leb _ _ short) ∙ must_holds _ NO_ROOM _ (le-leb _ _ h)

  -- a file of so many bytes fits
  pub fits : fit_fault capacity size ≡ 0 → (size ≤ most_bytes) × (size ≤ capacity)
  unfolding fit_fault
  fits q =
      let a = passed (leb size most_bytes) 0 _ q in
      let b = passed (leb size capacity) 18 _ a.1 in
      (leb-true _ _ a.0, leb-true _ _ b.0)

module _ (capacity : ℕ) (file : List ℕ) (size : ℕ) (is : length file ≡ size) where
  pub fitted_there : fit_fault capacity size ≡ 0 → fitted capacity file ≡ granted file
  unfolding fitted
  fitted_there e = passing_goes _ 0 _ (rw is e)

  pub fitted_fault : (r : Rule) → number_of r ≡ fit_fault capacity size → fitted capacity file ≡ refused (number_of r) 0
  unfolding fitted
  fitted_fault r q =
      let e : fit_fault capacity (length file) ≡ number_of r = ap (fit_fault capacity) is ∙ sym q in
      passing_stops _ 0 _ (λ h. number_positive r (sym e ∙ h)) ∙ ap (λ m. refused m 0) e

pub fitted_granted : (capacity : ℕ) (u t : List ℕ) → fitted capacity u ≡ granted t → (length u ≤ most_bytes) × (length u ≤ capacity) × (u ≡ t)
unfolding fitted
fitted_granted capacity u t e =
    let g = passing_granted (fit_fault capacity (length u)) 0 (granted u) t e in
    let f = fits capacity (length u) g.0 in
    (f.0, f.1, granted_same u t g.1)
