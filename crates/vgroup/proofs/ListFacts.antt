-- What is listed of members, and the listing where all groups below them are sound. Assumes nothing.
use Prim.Native.Nat.{ℕ, zero, suc, ◌+◌, ◌*◌, ◌-◌, ◌/◌, ◌≤◌}
use native.Mathlib.Omega.{arith}
use mathlib.Core.Path.{◌≡◌, refl, sym, ap, ◌∙◌}
use mathlib.Core.Logic.{inl, inr}
use mathlib.Core.List.{List, [], ◌∷◌, ◌++◌, append_assoc, append-nil}
use lib.ListN.{length, length-append}
use borrow.Author.Tests.{eq-eqb, ne_eqb}
use Rattle.answer.proofs.Tests.{same?}
use Rattle.wire.specs.Numbers.{part}
use Rattle.directory.specs.Lookup.{find}
use Rattle.records.specs.Readings.{record_bytes}
use Rattle.vgroup.specs.Groups.{group_members}
use Rattle.vgroup.specs.Listings.{Listing, stopped, pair, followed_by, members_from, nested_from}
use Rattle.records.specs.RecordRules.{slot_in}
use Rattle.vgroup.specs.ListRules.{members_of, followed, nested_in, flat, SoundGroup, Member, AllSound}
use Rattle.vgroup.proofs.Groups.{length_members}
use Rattle.vgroup.proofs.GroupFacts.{stands_bytes, group_goes}
use Rattle.vgroup.proofs.Listings.{joined, regroup, goes_on}
use Rattle.vgroup.proofs.ListingsFound.{nested_enters}

-- ---- What is listed

module _ (under : ℕ → List ℕ) (tag ref : ℕ) (rest : List ℕ) where
  pub followed_other : (tag ≡ 1965 → ⊥) → followed under (tag ∷ ref ∷ rest) ≡ tag ∷ ref ∷ followed under rest
  unfolding followed
  followed_other h = rw (ne_eqb _ _ h)

  pub followed_group : tag ≡ 1965 → followed under (tag ∷ ref ∷ rest) ≡ tag ∷ ref ∷ (under ref ++ followed under rest)
  unfolding followed
  followed_group h = rw (eq-eqb _ _ h)

pub followed_none : (under : ℕ → List ℕ) → followed under [] ≡ []
unfolding followed
followed_none under = refl

pub followed_odd : (under : ℕ → List ℕ) (x : ℕ) → followed under (x ∷ []) ≡ []
unfolding followed
followed_odd under x = refl

pub followed_append : (under : ℕ → List ℕ) (n : ℕ) (ms ns : List ℕ) → length ms ≡ 2 * n → followed under (ms ++ ns) ≡ followed under ms ++ followed under ns
followed_append under zero [] ns l = rw followed_none
followed_append under zero (x ∷ ms) ns l = absurd (omega arith)
followed_append under (suc n) [] ns l = absurd (omega arith)
followed_append under (suc n) (x ∷ []) ns l = absurd (omega arith)
followed_append under (suc n) (x ∷ y ∷ ms) ns l =
    let later = followed_append under n ms ns (omega arith) in
    elim (same? x 1965) [
      | inl e ↦ followed_group under x y (ms ++ ns) e ∙ rw (followed_group under x y ms e, later, append_assoc)
      | inr e ↦ followed_other under x y (ms ++ ns) e ∙ rw (followed_other under x y ms e, later)
    ]

-- whole pairs are listed
abbrev pub Even : List ℕ → Type 0
Even xs = (n : ℕ) × (length xs ≡ 2 * n)

even_followed : (under : ℕ → List ℕ) → ((ref : ℕ) → Even (under ref)) → (ms : List ℕ) → Even (followed under ms)
even_followed under h [] = (0, rw followed_none)
even_followed under h (x ∷ []) = (0, rw followed_odd)
even_followed under h (x ∷ y ∷ ms) =
    let m = even_followed under h ms in
    elim (same? x 1965) [
      | inl e ↦ rw (followed_group under x y ms e) (suc ((h y).0 + m.0), omega (arith, length-append (under y) (followed under ms), (h y).1, m.1))
      | inr e ↦ rw (followed_other under x y ms e) (suc m.0, omega (arith, m.1))
    ]

pub even_below : (more : ℕ) (s : List ℕ) (ref : ℕ) → Even (nested_in more s ref)
unfolding nested_in
even_below zero s ref = (0, refl)
even_below (suc more) s ref = even_followed (nested_in more s) (even_below more s) (members_of s ref)

pub even_flat : (more : ℕ) (s ms : List ℕ) → Even (flat more s ms)
even_flat more s ms = even_followed (nested_in more s) (even_below more s) ms

-- ---- The groups below a member

-- a member that is a group may be followed by its members, and all below it is sound
pub record Enters (more : ℕ) (s : List ℕ) (ref : ℕ) : Type 0 where
  pub fewer : ℕ
  pub is : more ≡ suc fewer
  pub sound : SoundGroup s ref
  pub under : AllSound fewer s (members_of s ref)

module _ (more : ℕ) (s : List ℕ) where
  pub all_none : (xs : List ℕ) → ((ref : ℕ) → Member 1965 ref xs → ⊥) → AllSound more s xs
  all_none xs z [] d = (omega arith, λ ref i. absurd i)
  all_none xs z (r ∷ refs) d = absurd (z r d.0)

  module _ (tag ref : ℕ) (rest : List ℕ) where
    all_rest : AllSound more s (tag ∷ ref ∷ rest) → AllSound more s rest
    all_rest a [] d = (omega arith, λ ref i. absurd i)
    all_rest a (r ∷ refs) d = a (r ∷ refs) (inr d.0, d.1)

    all_group : AllSound more s (tag ∷ ref ∷ rest) → tag ≡ 1965 → Enters more s ref
    all_group a e =
        let one = a (ref ∷ []) (inl (sym e, refl), tt) in
        record {
          fewer = more - 1;
          is = omega (arith, one.0);
          sound = one.1 ref (inl refl);
          under = λ refs d. let all = a (ref ∷ refs) (inl (sym e, refl), d) in (omega (arith, all.0), λ r i. all.1 r (inr i));
        }

    pub all_more : (tag ≡ 1965 → Enters more s ref) → AllSound more s rest → AllSound more s (tag ∷ ref ∷ rest)
    all_more g a [] d = (omega arith, λ ref i. absurd i)
    all_more g a (r ∷ refs) (inr m, d) = a (r ∷ refs) (m, d)
    all_more g a (r ∷ refs) (inl m, d) =
        let x = g (sym m.0) in
        let all = x.under refs (rw (← m.1) d) in (
          omega (arith, x.is, all.0),
          λ q i. elim i [ inl e ↦ rw (e, m.1) x.sound | inr j ↦ all.1 q j ],
        )

-- ---- The walk, pair by pair

module _ (nest : ℕ → ℕ → Listing) where
  pub members_none : (room : ℕ) → members_from nest [] room ≡ stopped 0 0
  unfolding members_from
  members_none room = refl

  module _ (tag ref : ℕ) (rest : List ℕ) where
    pub members_full : (room : ℕ) → room ≡ 0 → members_from nest (tag ∷ ref ∷ rest) room ≡ stopped 14 0
    unfolding members_from
    members_full room z = rw z

    pub members_other : (room : ℕ) → (tag ≡ 1965 → ⊥) → members_from nest (tag ∷ ref ∷ rest) (suc room) ≡ pair tag ref (members_from nest rest room)
    unfolding members_from
    members_other room h = rw (ne_eqb _ _ h)

    pub members_group : (room : ℕ) → tag ≡ 1965
        → members_from nest (tag ∷ ref ∷ rest) (suc room)
        ≡ pair tag ref (followed_by (nest ref room) (members_from nest rest (room - length (nest ref room).pairs / 2)))
    unfolding members_from
    members_group room h = rw (eq-eqb _ _ h)

-- a listing that lists all of it
abbrev pub complete : List ℕ → Listing
complete xs = record { pairs = xs; number = 0; place = 0 }

-- ---- Where all is sound

-- a sound group among the members is listed whole
abbrev Passes : ℕ → List ℕ → ℕ → Type 0
Passes more s holder = (ref left : ℕ) → Enters more s ref → length (nested_in more s ref) ≤ 2 * left → nested_from more s holder ref left ≡ complete (nested_in more s ref)

-- members that are sound are listed before those after them
module _ (more : ℕ) (s : List ℕ) (holder : ℕ) (passes : Passes more s holder) (after : List ℕ) where
  abbrev walk : List ℕ → ℕ → Listing
  walk ms left = members_from (nested_from more s holder) ms left

  pub lists_on : (n : ℕ) (ms : List ℕ) → length ms ≡ 2 * n → AllSound more s ms → (left : ℕ) → length (flat more s ms) ≤ 2 * left
      → walk (ms ++ after) left ≡ joined (flat more s ms) (walk after (left - length (flat more s ms) / 2))
  lists_on zero [] l a left fits =
      let same : left - 0 / 2 ≡ left = omega arith in
      rw (followed_none, same)
  lists_on zero (x ∷ ms) l a left fits = absurd (omega arith)
  lists_on (suc n) [] l a left fits = absurd (omega arith)
  lists_on (suc n) (x ∷ []) l a left fits = absurd (omega arith)
  lists_on (suc n) (x ∷ y ∷ ms) l a left fits =
      let F = flat more s ms in
      let later = lists_on n ms (omega arith) (all_rest more s x y ms a) in
      elim (same? x 1965) [
        | inr e ↦
            let is : flat more s (x ∷ y ∷ ms) ≡ x ∷ y ∷ F = followed_other (nested_in more s) x y ms e in
            let room : length (x ∷ y ∷ F) ≤ 2 * left = rw is at fits in
            let one : left ≡ suc (left - 1) = omega arith in
            let same : left - 1 - length F / 2 ≡ left - length (x ∷ y ∷ F) / 2 = omega arith in
            rw is
            (ap (walk (x ∷ y ∷ (ms ++ after))) one
            ∙ members_other (nested_from more s holder) x y (ms ++ after) (left - 1) e
            ∙ ap (pair x y) (later (left - 1) (omega arith))
            ∙ ap (λ k. joined (x ∷ y ∷ F) (walk after k)) same)
        | inl e ↦
            let B = nested_in more s y in
            let is : flat more s (x ∷ y ∷ ms) ≡ x ∷ y ∷ (B ++ F) = followed_group (nested_in more s) x y ms e in
            let long : length (B ++ F) ≡ length B + length F = length-append B F in
            let room : length (x ∷ y ∷ (B ++ F)) ≤ 2 * left = rw is at fits in
            let one : left ≡ suc (left - 1) = omega arith in
            let whole = even_below more s y in
            let same : left - 1 - length B / 2 - length F / 2 ≡ left - length (x ∷ y ∷ (B ++ F)) / 2 = omega (arith, whole.1) in
            let nest = passes y (left - 1) (all_group more s x y ms a e) (omega arith) in
            rw is
            (ap (walk (x ∷ y ∷ (ms ++ after))) one
            ∙ members_group (nested_from more s holder) x y (ms ++ after) (left - 1) e
            ∙ ap (pair x y)
            (ap (λ i. followed_by i (walk (ms ++ after) (left - 1 - length i.pairs / 2))) nest
            ∙ goes_on (complete B) (walk (ms ++ after) (left - 1 - length B / 2)) refl
            ∙ ap (joined B) (later (left - 1 - length B / 2) (omega (arith, whole.1)))
            ∙ regroup B F (walk after (left - 1 - length B / 2 - length F / 2)))
            ∙ ap (λ k. joined (x ∷ y ∷ (B ++ F)) (walk after k)) same)
      ]

pub even_members : (s : List ℕ) (ref : ℕ) → Even (members_of s ref)
even_members s ref = (_, length_members (record_bytes s (find s 1965 ref)))

-- the members of a group that is sound with all below it
pub lists_all : (more : ℕ) (s : List ℕ) (holder : ℕ) → Passes more s holder → (ms : List ℕ) → Even ms → AllSound more s ms
    → (left : ℕ) → length (flat more s ms) ≤ 2 * left
    → members_from (nested_from more s holder) ms left ≡ complete (flat more s ms)
lists_all more s holder passes ms even a left fits =
    ap (λ xs. members_from (nested_from more s holder) xs left) (sym (append-nil ms))
    ∙ lists_on more s holder passes [] even.0 ms even.1 a left fits
    ∙ ap (joined (flat more s ms)) (members_none (nested_from more s holder) _)
    ∙ ap complete (append-nil (flat more s ms))

-- what is found of a sound group, entered
pub enters_sound : (more fewer : ℕ) (s : List ℕ) (holder ref left : ℕ) → more ≡ suc fewer → SoundGroup s ref
    → nested_from more s holder ref left ≡ members_from (nested_from fewer s (slot_in (find s 1965 ref))) (members_of s ref) left
enters_sound more fewer s holder ref left deep sound =
    let x = (group_goes s (find s 1965 ref)).grants sound in
    let one : more - 1 ≡ fewer = omega arith in
    nested_enters s holder ref left more (λ z. omega arith) _ x.2
    ∙ ap (λ k. members_from (nested_from k s (slot_in (find s 1965 ref))) (group_members (part s x.0 x.1)) left) one
    ∙ ap (λ b. members_from (nested_from fewer s (slot_in (find s 1965 ref))) (group_members b) left) (sym (stands_bytes s (find s 1965 ref) _ x.2))

pub passes_all : (more : ℕ) (s : List ℕ) (holder : ℕ) → Passes more s holder
unfolding nested_in
passes_all zero s holder ref left x fits = absurd (omega (arith, x.is))
passes_all (suc more) s holder ref left x fits =
    let same : x.fewer ≡ more = omega (arith, x.is) in
    let q = slot_in (find s 1965 ref) in
    enters_sound (suc more) more s holder ref left refl x.sound
    ∙ lists_all more s q (passes_all more s q) (members_of s ref) (even_members s ref) (rw same at x.under) left fits
