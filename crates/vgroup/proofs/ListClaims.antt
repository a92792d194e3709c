-- What a reader wants to know of a listing: what is listed and in which order, when a group is sound, when a listing is granted and else how
-- it is refused, that it is no longer than its table, and that members none of which is a group are listed as they stand. Assumes nothing.
use Prim.Native.Nat.{ℕ, zero, suc, ◌*◌, ◌/◌, ◌<◌, ◌≤◌}
use native.Mathlib.Nat.{suc-ne-zero}
use native.Mathlib.Omega.{arith}
use mathlib.Core.Path.{◌≡◌, refl, sym, ap, ◌∙◌}
use mathlib.Core.Logic.{◌↔◌, ◌⊎◌, inl, inr}
use mathlib.Core.List.{List, [], ◌∷◌, ◌++◌}
use lib.ListN.{length, get_or}
use Rattle.answer.specs.Rules.{done, FirstBroken}
use Rattle.answer.specs.Answer.{grant, refuse, unless}
use Rattle.answer.proofs.Answer.{unless_passes, unless_stops}
use Rattle.wire.specs.Numbers.{part}
use Rattle.directory.specs.Opening.{open_of}
use Rattle.directory.specs.Lookup.{find}
use Rattle.directory.specs.Rules.{Unstored}
use Rattle.directory.specs.Named.{Named}
use Rattle.directory.proofs.Opens.{opened_goes, opened_stops, opened_passed}
use Rattle.storage.specs.Elements.{part_at}
use Rattle.records.specs.Readings.{Sound, sound, refused}
use Rattle.vgroup.specs.Limits.{group_tag, most_groups}
use Rattle.vgroup.specs.Groups.{group_members, sound_group}
use Rattle.vgroup.specs.Listings.{Listing, pair, members_from, entered, list_from, places_in, listing_in, listing_at, listing_of, pairs_of}
use Rattle.answer.proofs.Tests.{same?}
use Rattle.records.specs.RecordRules.{slot_in}
use Rattle.records.proofs.RecordRules.{first_unstored}
use Rattle.vgroup.specs.GroupRules.{whole_rules, group_rules}
use Rattle.vgroup.specs.ListRules.{members_of, nested_in, flat, listed_of, SoundGroup, Listable, nested_rules, AtPair, AtUnstored, ListFault}
use Rattle.vgroup.proofs.Groups.{group_in, length_members}
use Rattle.vgroup.proofs.Listings.{listed_few}
use Rattle.vgroup.proofs.GroupFacts.{stands_exactly}
use Rattle.vgroup.proofs.ListFacts.{followed_other, followed_group, followed_append, members_none, members_other}
use Rattle.vgroup.proofs.ListFaults.{when_broken, when_first, listing_whole, listing_stops, listing_judged}

-- ---- What is listed, and in which order

module _ (s : List ℕ) where
  -- what is listed of members and of others after them, one after the other
  pub flat_append : (more n : ℕ) (ms ns : List ℕ) → length ms ≡ 2 * n → flat more s (ms ++ ns) ≡ flat more s ms ++ flat more s ns
  flat_append more n ms ns l = followed_append (nested_in more s) n ms ns l

  -- a pair that is not of a group is listed as it stands
  pub flat_other : (more tag ref : ℕ) (rest : List ℕ) → (tag ≡ 1965 → ⊥) → flat more s (tag ∷ ref ∷ rest) ≡ tag ∷ ref ∷ flat more s rest
  flat_other more tag ref rest h = followed_other (nested_in more s) tag ref rest h

  -- that of a group is followed by what is listed of its own members
  pub flat_group : (more ref : ℕ) (rest : List ℕ)
      → flat (suc more) s (1965 ∷ ref ∷ rest) ≡ 1965 ∷ ref ∷ (flat more s (members_of s ref) ++ flat (suc more) s rest)
  unfolding nested_in
  flat_group more ref rest = followed_group (nested_in (suc more) s) 1965 ref rest refl

  -- and at the last depth by nothing
  pub flat_deepest : (ref : ℕ) (rest : List ℕ) → flat 0 s (1965 ∷ ref ∷ rest) ≡ 1965 ∷ ref ∷ flat 0 s rest
  unfolding nested_in
  flat_deepest ref rest = followed_group (nested_in 0 s) 1965 ref rest refl

-- ---- Groups

module _ (s : List ℕ) (ref : ℕ) where
  -- the element of a group is found, from its slot on, exactly if the group is sound
  pub group_found : ((o : ℕ) × (n : ℕ) × (sound_group s (find s 1965 ref) ≡ sound (part_at (slot_in (find s 1965 ref)) o n))) ↔ SoundGroup s ref
  group_found = (stands_exactly s (find s 1965 ref)).0

  -- and refused exactly by the first of its rules that is broken
  pub group_refused : (n p : ℕ)
      → (sound_group s (find s 1965 ref) ≡ refused n p) ↔ FirstBroken (group_rules s (find s 1965 ref)) n p
  group_refused = (stands_exactly s (find s 1965 ref)).1

-- ---- When it is granted, and what it gives

module _ (s : List ℕ) (ref room : ℕ) where
  -- what a listing answers, on an image that opens
  answered : (l : Listing) → (open_of s).number ≡ 0 → listing_in s (find s 1965 ref) room ≡ l
      → listing_of s ref room ≡ unless 1 l.number l.place (grant (length l.pairs / 2 ∷ []))
  unfolding listing_of listing_at
  answered l opens e = opened_goes 1 s _ opens ∙ ap (λ m. unless 1 m.number m.place (grant (length m.pairs / 2 ∷ []))) e

  grants : (open_of s).number ≡ 0 → Listable s ref room → listing_of s ref room ≡ grant (length (listed_of s ref) / 2 ∷ [])
  grants opens h = answered _ opens (listing_whole s ref room h) ∙ unless_passes 1 0 0 _ refl

  refuses : (n p : ℕ) → (open_of s).number ≡ 0 → ListFault s ref room n p → (listing_of s ref room ≡ refuse 1 n p) × (n ≡ 0 → ⊥)
  refuses n p opens f =
      let r = listing_stops s ref room n p f in
      let l = listing_in s (find s 1965 ref) room in (
        answered l opens refl ∙ unless_stops 1 l.number l.place _ (λ z. r.0 (sym r.1.0 ∙ z)) ∙ rw (r.1.0, r.1.1),
        r.0,
      )

  -- a listing is granted exactly if the image opens, the named group and the groups below it are sound and no more than 16 deep with it, and
  -- the pairs have place in the table and are at most 4,096
  pub list_granted : ((listing_of s ref room).number ≡ 0) ↔ (((open_of s).number ≡ 0) × Listable s ref room)
  unfolding listing_of
  list_granted = (
    (λ e.
        let opens = opened_passed 1 s _ e in
        elim (listing_judged s ref room) [
          | inl h ↦ (opens, h)
          | inr f ↦ let r = refuses f.0 f.1 opens f.2 in absurd (r.1 (ap (λ a. a.number) (sym r.0) ∙ e))
        ]),
    (λ h. ap (λ a. a.number) (grants h.0 h.1)),
  )

  -- a granted listing gives the members of the named group in order, each group followed by its own, and answers how many pairs they are
  pub list_is : (listing_of s ref room).number ≡ 0
      → (pairs_of s ref room ≡ listed_of s ref) × (listing_of s ref room ≡ grant (length (listed_of s ref) / 2 ∷ []))
  list_is e = let h = list_granted.0 e in (ap (λ l. l.pairs) (listing_whole s ref room h.1), grants h.0 h.1)

  -- ---- How it is refused

  -- on an image that does not open, as opening is
  pub list_unopened : ((open_of s).number ≡ 0 → ⊥) → listing_of s ref room ≡ refuse 1 (open_of s).number (open_of s).place
  unfolding listing_of
  list_unopened z = opened_stops 1 s _ z

  -- on one that opens, exactly by the first rule that is broken in the order of the listing
  pub list_refused : (open_of s).number ≡ 0 → (n p : ℕ) → ((listing_of s ref room ≡ refuse 1 n p) × (n ≡ 0 → ⊥)) ↔ ListFault s ref room n p
  list_refused opens n p = (
    (λ r. elim (listing_judged s ref room) [
      | inl h ↦ absurd (r.1 (ap (λ a. a.number) (sym r.0 ∙ grants opens h)))
      | inr f ↦ let e = sym r.0 ∙ (refuses f.0 f.1 opens f.2).0 in rw (ap (λ a. a.number) e, ap (λ a. a.place) e) f.2
    ]),
    refuses n p opens,
  )

  -- 29 exactly if the named group is named and not stored yet, or the listing comes to such a group
  pub list_unstored : (open_of s).number ≡ 0 → (p : ℕ)
      → (listing_of s ref room ≡ refuse 1 29 p) ↔ ((Named s 1965 ref p × Unstored s p) ⊎ (SoundGroup s ref × AtUnstored s ref room p))
  list_unstored opens p =
      let group = group_unstored opens p in (
        (λ e. elim ((list_refused opens 29 p).0 (e, suc-ne-zero 28)) [
          | inl b ↦ inl ((group ref).0 b)
          | inr (named, a) ↦ inr (named, at_unstored opens p a)
        ]),
        (λ h. ((list_refused opens 29 p).1 (elim h [
          | inl u ↦ inl ((group ref).1 u)
          | inr (named, a) ↦ inr (
            named,
            record {
              pair = a.pair;
              pairs = a.pairs;
              comes = a.comes;
              placed = (omega (arith, a.placed.0), omega (arith, a.placed.1));
              broken = inr (a.placed, when_first (a.pair.tag ≡ 1965) a.group (nested_rules s a.pair) 29 p (inr (a.shallow, (group a.pair.ref).1 (a.named, a.unstored))));
            },
          )
        ])).0),
      )
    where
      group_unstored : (open_of s).number ≡ 0 → (p r : ℕ) → FirstBroken (group_rules s (find s 1965 r)) 29 p ↔ (Named s 1965 r p × Unstored s p)
      group_unstored opens p r = first_unstored s 1965 r p opens (whole_rules s (find s 1965 r) done) (omega arith, tt)

      at_unstored : (open_of s).number ≡ 0 → (p : ℕ) → AtPair s ref room 29 p → AtUnstored s ref room p
      at_unstored opens p a =
          elim a.broken [
            | inl x ↦ absurd (omega (arith, x.0))
            | inr (placed, b) ↦
                let g = when_broken (a.pair.tag ≡ 1965) (same? a.pair.tag 1965) (nested_rules s a.pair) 29 p b in
                elim g.1 [
                  | inl x ↦ absurd (omega (arith, x.0))
                  | inr (shallow, c) ↦
                      let u = (group_unstored opens p a.pair.ref).0 c in
                      record {
                        pair = a.pair;
                        pairs = a.pairs;
                        comes = a.comes;
                        placed = placed;
                        group = g.0;
                        shallow = shallow;
                        named = u.0;
                        unstored = u.1;
                      }
                ]
          ]

-- ---- How long it is, and members that are no groups

-- no more pairs are listed than the lent table has places for
pub pairs_few : (s : List ℕ) (ref room : ℕ) → length (pairs_of s ref room) ≤ 2 * places_in room
pairs_few s ref room = go (sound_group s (find s group_tag ref))
  where
    go : (l : Sound) → length (entered s (list_from most_groups s) l (places_in room)).pairs ≤ 2 * places_in room
    go (refused n p) = omega arith
    go (sound x) = listed_few most_groups s x.slot (part s x.offset x.length) (places_in room)

-- members none of which is a group are listed as they stand
members_plain : (nest : ℕ → ℕ → Listing) (n : ℕ) (xs : List ℕ) → length xs ≡ 2 * n → ((i : ℕ) → i < n → get_or xs (2 * i) 0 ≡ group_tag → ⊥)
    → (room : ℕ) → n ≤ room → members_from nest xs room ≡ record { pairs = xs; number = 0; place = 0 }
members_plain nest zero [] l h room r = members_none nest room
members_plain nest zero (x ∷ xs) l h room r = absurd (omega arith)
members_plain nest (suc n) [] l h room r = absurd (omega arith)
members_plain nest (suc n) (x ∷ []) l h room r = absurd (omega arith)
members_plain nest (suc n) (x ∷ y ∷ xs) l h zero r = absurd (omega arith)
members_plain nest (suc n) (x ∷ y ∷ xs) l h (suc room) r =
    let later : (i : ℕ) → i < n → get_or xs (2 * i) 0 ≡ group_tag → ⊥ =
    λ i m q. h (suc i) (omega arith) (let a : 2 * suc i ≡ suc (suc (2 * i)) = omega arith in rw a q) in
    members_other nest x y xs room (h 0 (omega arith)) ∙ ap (pair x y) (members_plain nest n xs (omega arith) later room (omega arith))

pub list_plain : (groups : ℕ) (s : List ℕ) (p : ℕ) (b : List ℕ) (room : ℕ) → let ms = group_members b in
    ((i : ℕ) → i < (group_in b).members → get_or ms (2 * i) 0 ≡ group_tag → ⊥) → (group_in b).members ≤ room
    → list_from groups s p b room ≡ record { pairs = ms; number = 0; place = 0 }
list_plain groups s p b room h r = members_plain _ _ _ (length_members b) h room r
