-- What a listing answers and leaves in the lent table, by the walk that judges and the walk that writes. Assumes nothing.
use Prim.Native.Nat.{ℕ, ◌*◌, ◌/◌, ◌≤◌}
use native.Mathlib.Omega.{arith}
use mathlib.Core.Path.{◌≡◌, refl, sym, ap, ◌∙◌}
use mathlib.Core.List.{List, [], ◌∷◌, ◌++◌}
use lib.ListN.{length, drop}
use Rattle.answer.specs.Search.{Hit}
use Rattle.answer.specs.Answer.{Answer, grant, refusal, unless}
use Rattle.answer.specs.Lent.{Does}
use Rattle.answer.specs.declared.Refusal.{Refusal}
use Rattle.answer.proofs.Answer.{number_positive, unless_passes, unless_stops}
use Rattle.answer.proofs.Lent.{refuses, grants}
use Rattle.wire.specs.Numbers.{put, part}
use Rattle.wire.proofs.Numbers.{put_front, put_nowhere}
use Rattle.std.specs.Prelude.{Result, Ok, Err}
use Rattle.answer.specs.Refusals.{number_of}
use Rattle.storage.specs.declared.element.Part.{Part}
use Rattle.records.specs.Readings.{sound, refused}
use Rattle.vgroup.specs.Limits.{most_groups}
use Rattle.vgroup.specs.Groups.{sound_group}
use Rattle.vgroup.specs.Listings.{Listing, entered, list_from, places_in, listing_in, listing_at, pairs_at, pairs_numbers}
use Rattle.vgroup.specs.Steps.{Tells, Walks}
use Rattle.vgroup.proofs.Listings.{listed_few}

module _ (s : List ℕ) (found : Hit) (table : List ℕ) where
  abbrev Lists : List ℕ → Answer → Type 0
  Lists after numbers = Does (listing_at s found (length table)) (pairs_at s found (length table)) table after numbers

  -- the listing is refused
  refused_by : (l : Listing) → listing_in s found (length table) ≡ l → (r : Refusal) → Tells l (Err r) → Lists table (refusal 1 r)
  unfolding listing_at
  refused_by l e r told =
      refuses _ _ table 1 r
      (ap (λ m. unless 1 m.number m.place (grant (length m.pairs / 2 ∷ []))) e
      ∙ unless_stops 1 l.number l.place _ (λ q. number_positive r.rule (sym told.0 ∙ q)) ∙ rw (told.0, told.1))

  -- the named group is absent, extended or broken
  pub unnamed : (r : Refusal) → sound_group s found ≡ refused (number_of r.rule) r.place → Lists table (refusal 1 r)
  unnamed r e = refused_by _ (ap (λ y. entered s (list_from most_groups s) y (places_in (length table))) e) r (refl, refl)

  module _ (x : Part) (g : sound_group s found ≡ sound x) (room : ℕ) (room_is : room ≡ places_in (length table)) where
    abbrev l : Listing
    l = list_from most_groups s x.slot (part s x.offset x.length) room

    named : listing_in s found (length table) ≡ l
    named =
        ap (λ y. entered s (list_from most_groups s) y (places_in (length table))) g
        ∙ ap (list_from most_groups s x.slot (part s x.offset x.length)) (sym room_is)

    -- the walk that judges, over no table
    module _ (r : Result ℕ Refusal) (after : List ℕ) (walks : Walks l 0 [] after r) where
      pub judged_refused : (y : Refusal) → r ≡ Err y → Lists (after ++ table) (refusal 1 y)
      judged_refused y e = rw (put_nowhere table l.pairs after walks.leaves) (refused_by l named y (rw e at walks.tells))

      -- and the walk that writes
      pub listed : (m : ℕ) → r ≡ Ok m → (w : Result ℕ Refusal) (filled : List ℕ) → Walks l 0 (after ++ table) filled w → Lists filled (pairs_numbers w)
      unfolding listing_at
      listed m e (Err y) filled wrote =
          let told : Tells l (Ok m) = rw e at walks.tells in absurd (number_positive y.rule (sym wrote.tells.0 ∙ told.0))
      listed m e (Ok n) filled wrote =
          let half : length l.pairs / 2 ≡ n = omega (arith, wrote.tells.1) in
          let few : length l.pairs ≤ 2 * room = listed_few most_groups s x.slot (part s x.offset x.length) room in
          let fits : length l.pairs ≤ length table = omega (arith, few, room_is) in
          let is : listing_at s found (length table) ≡ grant (n ∷ []) =
          ap (λ m. unless 1 m.number m.place (grant (length m.pairs / 2 ∷ []))) named
          ∙ unless_passes 1 l.number l.place _ wrote.tells.0 ∙ ap (λ k. grant (k ∷ [])) half in
          let given : pairs_at s found (length table) ≡ l.pairs = ap (λ m. m.pairs) named in
          let leaves : filled ≡ put table 0 l.pairs = rw (put_nowhere table l.pairs after walks.leaves) at wrote.leaves in
          grants _ _ table (n ∷ []) is filled (leaves ∙ put_front table l.pairs fits ∙ ap (λ ps. ps ++ drop (length ps) table) (sym given))
