-- The listing of a group by its rules: the first that is broken gives the refusal, and where none is all is listed. Assumes nothing.
use Prim.Native.Nat.{ℕ, zero, suc, ◌+◌, ◌*◌, ◌-◌, ◌/◌, ◌<◌, ◌≤◌}
use native.Mathlib.Nat.{suc-ne-zero}
use native.Mathlib.Omega.{arith}
use mathlib.Core.Path.{◌≡◌, refl, sym, ap, ◌∙◌}
use mathlib.Core.Logic.{◌↔◌, ◌⊎◌, inl, inr}
use mathlib.Core.List.{List, [], ◌∷◌, ◌++◌}
use lib.ListN.{length, length-append}
use Rattle.answer.specs.Rules.{Rules, done, rule, FirstBroken}
use Rattle.answer.proofs.Rules.{judged}
use Rattle.answer.proofs.Tests.{same?, zero?}
use Rattle.directory.specs.Lookup.{find}
use Rattle.storage.specs.Elements.{located_at}
use Rattle.records.proofs.Readings.{sound_positive}
use Rattle.vgroup.specs.Groups.{group_fault, group_members}
use Rattle.vgroup.specs.Listings.{Listing, pair, members_from, entered, nested_from, list_from, places_in, listing_in}
use Rattle.records.specs.RecordRules.{slot_in}
use Rattle.vgroup.specs.GroupRules.{group_rules}
use Rattle.vgroup.specs.ListRules.{members_of, nested_in, flat, listed_of, SoundGroup, AllSound, HasPlace, Listable}
use Rattle.vgroup.specs.ListRules.{when, Pair, nested_rules, pair_rules, Next, Comes, member, inside, ListFault}
use Rattle.vgroup.proofs.GroupFacts.{stands_bytes, group_goes}
use Rattle.vgroup.proofs.Listings.{joined, stays}
use Rattle.vgroup.proofs.ListingsFound.{nested_deep, nested_enters}
use Rattle.vgroup.proofs.ListFacts.{followed_none, followed_odd, followed_other, followed_group, Even, even_below, even_flat, even_members}
use Rattle.vgroup.proofs.ListFacts.{Enters, all_none, all_more, members_full, members_group, complete, lists_on, lists_all, enters_sound, passes_all}

-- ---- Where a rule is broken

module _ (Applies : Type 0) where
  pub when_broken : Applies ⊎ (Applies → ⊥) → (R : Rules) (n p : ℕ) → FirstBroken (when Applies R) n p → Applies × FirstBroken R n p
  when_broken decided done n p b = absurd b
  when_broken decided (rule number place Holds rest) n p (inl b) =
      elim decided [ inl a ↦ (a, inl (b.0, b.1, λ h. b.2 (λ k. h))) | inr z ↦ absurd (b.2 (λ a. absurd (z a))) ]
  when_broken decided (rule number place Holds rest) n p (inr b) = let r = when_broken decided rest n p b.1 in (r.0, inr (b.0 r.0, r.1))

  pub when_first : Applies → (R : Rules) (n p : ℕ) → FirstBroken R n p → FirstBroken (when Applies R) n p
  when_first a done n p b = absurd b
  when_first a (rule number place Holds rest) n p (inl b) = inl (b.0, b.1, λ h. b.2 (h a))
  when_first a (rule number place Holds rest) n p (inr b) = inr ((λ k. b.0), when_first a rest n p b.1)

abbrev Stops : Listing → ℕ → ℕ → Type 0
Stops l n p = (l.number ≡ n) × (l.place ≡ p)

-- a group among the members that is refused stops them
nested_stops : (nest : ℕ → ℕ → Listing) (tag ref : ℕ) (rest : List ℕ) (left n p : ℕ) → 0 < left → tag ≡ 1965 → (n ≡ 0 → ⊥)
    → Stops (nest ref (left - 1)) n p
    → Stops (members_from nest (tag ∷ ref ∷ rest) left) n p
nested_stops nest tag ref rest left n p l e z h =
    let one : left ≡ suc (left - 1) = omega arith in
    let is : members_from nest (tag ∷ ref ∷ rest) left ≡ pair tag ref (nest ref (left - 1)) =
    ap (members_from nest (tag ∷ ref ∷ rest)) one ∙ members_group nest tag ref rest (left - 1) e
    ∙ ap (pair tag ref) (stays (nest ref (left - 1)) _ (λ q. z (sym h.0 ∙ q))) in
    rw is h

group_broken : (s : List ℕ) (x : Pair) (left n p : ℕ) → FirstBroken (nested_rules s x) n p
    → (n ≡ 0 → ⊥) × Stops (nested_from x.more s x.holder x.ref left) n p
group_broken s x left n p (inl (e, f, z)) =
    rw (e, f) (suc-ne-zero 21, rw (nested_deep s x.holder x.ref left x.more (omega arith)) (refl, refl))
group_broken s x left n p (inr (l, b)) =
    let r = (group_goes s (find s 1965 x.ref)).refuses n p b in
    (sound_positive group_fault s (located_at s (find s 1965 x.ref)) _ _ r, rw (nested_enters s x.holder x.ref left x.more (λ z. omega arith) _ r) (refl, refl))

-- the first rule that is broken at a pair is the refusal
pair_stops : (s : List ℕ) (Place : Type 0) (x : Pair) (left : ℕ) → Place ↔ (0 < left) → (n p : ℕ) → FirstBroken (pair_rules s Place x) n p
    → (n ≡ 0 → ⊥) × ((rest : List ℕ) → Stops (members_from (nested_from x.more s x.holder) (x.tag ∷ x.ref ∷ rest) left) n p)
pair_stops s Place x left place n p (inl (e, f, z)) =
    let none : left ≡ 0 = elim (same? left 0) [ inl q ↦ q | inr q ↦ absurd (z (place.1 (omega arith))) ] in
    rw (e, f) (suc-ne-zero 13, λ rest. rw (members_full (nested_from x.more s x.holder) x.tag x.ref rest left none) (refl, refl))
pair_stops s Place x left place n p (inr (h, b)) =
    let g = when_broken (x.tag ≡ 1965) (same? x.tag 1965) (nested_rules s x) n p b in
    let r = group_broken s x (left - 1) n p g.1 in
    (r.0, λ rest. nested_stops (nested_from x.more s x.holder) x.tag x.ref rest left n p (place.0 h) g.0 r.0 r.1)

-- the members before it are listed
next_walks : (more : ℕ) (s : List ℕ) (holder : ℕ) (ms before : List ℕ) (tag ref : ℕ) (next : Next more s ms before tag ref)
    → (left : ℕ) → length (flat more s before) / 2 ≤ left
    → members_from (nested_from more s holder) ms left
    ≡ joined (flat more s before) (members_from (nested_from more s holder) (tag ∷ ref ∷ next.after) (left - length (flat more s before) / 2))
next_walks more s holder ms before tag ref next left fits =
    ap (λ xs. members_from (nested_from more s holder) xs left) next.parted
    ∙ lists_on more s holder (passes_all more s holder) (tag ∷ ref ∷ next.after) next.count before next.whole next.sound left
    (omega (arith, (even_flat more s before).1))

-- and it is that of the whole listing
comes_stops : (s : List ℕ) (x : Pair) (n p : ℕ) → (n ≡ 0 → ⊥) → (more holder : ℕ) (ms : List ℕ) (pairs : ℕ) → Comes s x more holder ms pairs
    → (left : ℕ) → pairs ≤ left
    → ((rest : List ℕ) → Stops (members_from (nested_from x.more s x.holder) (x.tag ∷ x.ref ∷ rest) (left - pairs)) n p)
    → Stops (members_from (nested_from more s holder) ms left) n p
comes_stops s x n p z more holder ms pairs (member before next deep slot many) left fits stops =
    rw (next_walks more s holder ms before x.tag x.ref next left (omega arith)) (rw (deep, slot, many) at (stops next.after))
comes_stops s x n p z more holder ms pairs (inside before ref fewer inner next deep sound comes many) left fits stops =
    let F = flat more s before in
    let room = left - length F / 2 in
    let same : left - pairs ≡ room - 1 - inner = omega arith in
    let deeper = comes_stops s x n p z fewer (slot_in (find s 1965 ref)) (members_of s ref) inner comes (room - 1) (omega arith) (λ rest. rw same at (stops rest)) in
    let nest : Stops (nested_from more s holder ref (room - 1)) n p = rw (enters_sound more fewer s holder ref (room - 1) deep sound) deeper in
    rw (next_walks more s holder ms before 1965 ref next left (omega arith))
    (nested_stops (nested_from more s holder) 1965 ref next.after room n p (omega arith) refl z nest)

-- ---- All is sound, or there is a first fault

-- a rule is broken at a pair, where so many places are left
record Breaks (more : ℕ) (s : List ℕ) (holder : ℕ) (ms : List ℕ) (left n p : ℕ) : Type 0 where
  pair_of : Pair
  pairs : ℕ
  comes : Comes s pair_of more holder ms pairs
  placed : pairs ≤ left
  first : FirstBroken (pair_rules s (suc pairs ≤ left) pair_of) n p

abbrev Judged : ℕ → List ℕ → ℕ → List ℕ → ℕ → Type 0
Judged more s holder ms left =
    (AllSound more s ms × (length (flat more s ms) ≤ 2 * left)) ⊎ ((n : ℕ) × (p : ℕ) × Breaks more s holder ms left n p)

-- a place for the pair, said in another way
same_place : (s : List ℕ) (x : Pair) (Place Says : Type 0) (n p : ℕ) → Place ↔ Says → FirstBroken (pair_rules s Place x) n p
    → FirstBroken (pair_rules s Says x) n p
same_place s x Place Says n p t (inl b) = inl (b.0, b.1, λ h. b.2 (t.1 h))
same_place s x Place Says n p t (inr b) = inr (t.0 b.0, b.1)

-- the first member
first_next : (more : ℕ) (s : List ℕ) (tag ref : ℕ) (rest : List ℕ) → Next more s (tag ∷ ref ∷ rest) [] tag ref
first_next more s tag ref rest = record { after = rest; parted = refl; count = 0; whole = refl; sound = all_none more s [] (λ r m. m) }

-- at the first member
module _ (more : ℕ) (s : List ℕ) (holder tag ref : ℕ) (rest : List ℕ) (left : ℕ) where
  abbrev first_pair : Pair
  first_pair = record { tag = tag; ref = ref; holder = holder; more = more }

  breaks_here : (n p : ℕ) → FirstBroken (pair_rules s (1 ≤ left) first_pair) n p → Judged more s holder (tag ∷ ref ∷ rest) left
  breaks_here n p b =
      inr (
        n,
        p,
        record {
          pair_of = first_pair;
          pairs = 0;
          comes = member {pairs = 0} [] (first_next more s tag ref rest) refl refl (rw followed_none);
          placed = omega arith;
          first = b;
        },
      )

  -- which is a group
  breaks_group : (n p : ℕ) → 0 < left → tag ≡ 1965 → FirstBroken (nested_rules s first_pair) n p → Judged more s holder (tag ∷ ref ∷ rest) left
  breaks_group n p some e b = breaks_here n p (inr (some, when_first (tag ≡ 1965) e (nested_rules s first_pair) n p b))

-- inside the first member, a sound group
breaks_inside : (more fewer : ℕ) (s : List ℕ) (holder tag ref : ℕ) (rest : List ℕ) (left n p : ℕ)
    → more ≡ suc fewer → 0 < left → tag ≡ 1965 → SoundGroup s ref
    → Breaks fewer s (slot_in (find s 1965 ref)) (members_of s ref) (left - 1) n p → Breaks more s holder (tag ∷ ref ∷ rest) left n p
breaks_inside more fewer s holder tag ref rest left n p deep some e sound b =
    rw e (record {
      pair_of = b.pair_of;
      pairs = suc b.pairs;
      comes = inside {pairs = suc b.pairs} [] ref fewer b.pairs (first_next more s 1965 ref rest) deep sound b.comes (rw followed_none (omega arith));
      placed = omega (arith, b.placed);
      first = same_place s b.pair_of _ _ n p ((λ h. omega arith), (λ h. omega arith)) b.first;
    })

-- after the first member and what is below it
module _ (more : ℕ) (s : List ℕ) (tag ref : ℕ) (mid : List ℕ)
    (is : (xs : List ℕ) → flat more s (tag ∷ ref ∷ xs) ≡ tag ∷ ref ∷ (mid ++ flat more s xs)) (even : Even mid)
    (enters : tag ≡ 1965 → Enters more s ref) where
  next_later : (ms before : List ℕ) (a b : ℕ) → Next more s ms before a b → Next more s (tag ∷ ref ∷ ms) (tag ∷ ref ∷ before) a b
  next_later ms before a b next =
      record {
        after = next.after;
        parted = ap (λ xs. tag ∷ ref ∷ xs) next.parted;
        count = suc next.count;
        whole = omega (arith, next.whole);
        sound = all_more more s tag ref before enters next.sound;
      }

  half : (xs : List ℕ) → length (flat more s (tag ∷ ref ∷ xs)) / 2 ≡ 1 + length mid / 2 + length (flat more s xs) / 2
  half xs = rw (is xs) (omega (arith, length-append mid (flat more s xs), even.1))

  comes_later : (x : Pair) (holder : ℕ) (ms : List ℕ) (pairs : ℕ) → Comes s x more holder ms pairs
      → Comes s x more holder (tag ∷ ref ∷ ms) (1 + length mid / 2 + pairs)
  comes_later x holder ms pairs (member before next deep slot many) =
      member {pairs = 1 + length mid / 2 + pairs} (tag ∷ ref ∷ before) (next_later ms before _ _ next) deep slot (omega (arith, half before))
  comes_later x holder ms pairs (inside before r fewer inner next deep sound comes many) =
      inside {pairs = 1 + length mid / 2 + pairs} (tag ∷ ref ∷ before) r fewer inner (next_later ms before _ _ next) deep sound comes (omega (arith, half before))

  later_judged : (holder : ℕ) (ms : List ℕ) (left : ℕ) → 0 < left → length mid ≤ 2 * (left - 1) → Judged more s holder ms (left - 1 - length mid / 2)
      → Judged more s holder (tag ∷ ref ∷ ms) left
  later_judged holder ms left some fits (inl ok) =
      inl (all_more more s tag ref ms enters ok.0, omega (arith, half ms, even.1, (even_flat more s ms).1, (even_flat more s (tag ∷ ref ∷ ms)).1, ok.1))
  later_judged holder ms left some fits (inr (n, p, b)) =
      inr (
        n,
        p,
        record {
          pair_of = b.pair_of;
          pairs = 1 + length mid / 2 + b.pairs;
          comes = comes_later b.pair_of holder ms b.pairs b.comes;
          placed = omega (arith, b.placed, even.1);
          first =
              same_place s b.pair_of _ _ n p
              ((λ h. omega (arith, even.1)), (λ h. omega (arith, even.1))) b.first;
        },
      )

below_is : (more fewer : ℕ) (s : List ℕ) (ref : ℕ) → more ≡ suc fewer → nested_in more s ref ≡ flat fewer s (members_of s ref)
unfolding nested_in
below_is more fewer s ref e = rw e

judge_members : (more : ℕ) (s : List ℕ) (holder : ℕ)
    → ((fewer ref left : ℕ) → more ≡ suc fewer → Judged fewer s (slot_in (find s 1965 ref)) (members_of s ref) left)
    → (ms : List ℕ) (left : ℕ) → Judged more s holder ms left
judge_members more s holder deeper [] left = inl (all_none more s [] (λ r m. m), rw followed_none (omega arith))
judge_members more s holder deeper (x ∷ []) left = inl (all_none more s (x ∷ []) (λ r m. m), rw followed_odd (omega arith))
judge_members more s holder deeper (tag ∷ ref ∷ rest) left =
    elim (zero? left) [
      | inl z ↦ breaks_here more s holder tag ref rest left 14 0 (inl (refl, refl, λ h. omega arith))
      | inr z ↦
          let some : 0 < left = omega (arith, z.1) in
          elim (same? tag 1965) [
            | inr e ↦
                let same : left - 1 ≡ left - 1 - 0 / 2 = omega arith in
                later_judged more s tag ref [] (λ xs. followed_other (nested_in more s) tag ref xs e) (0, refl) (λ q. absurd (e q)) holder rest left some (omega arith)
                (rw same at (judge_members more s holder deeper rest (left - 1)))
            | inl e ↦ elim (zero? more) [
              | inl d ↦ breaks_group more s holder tag ref rest left 22 holder some e (inl (refl, refl, λ h. omega arith))
              | inr d ↦ elim (judged (group_rules s (find s 1965 ref)) (group_goes s (find s 1965 ref)).decided) [
                | inr b ↦ breaks_group more s holder tag ref rest left b.0 b.1 some e (inr (omega (arith, d.1), b.2))
                | inl sound ↦ elim (deeper d.0 ref (left - 1) d.1) [
                  | inr b ↦ inr (b.0, b.1, breaks_inside more d.0 s holder tag ref rest left b.0 b.1 d.1 some e sound b.2)
                  | inl ok ↦
                      let fits : length (nested_in more s ref) ≤ 2 * (left - 1) = rw (below_is more d.0 s ref d.1) ok.1 in
                      later_judged more s tag ref (nested_in more s ref) (λ xs. followed_group (nested_in more s) tag ref xs e) (even_below more s ref)
                      (λ q. record { fewer = d.0; is = d.1; sound = sound; under = ok.0 }) holder rest left some fits
                      (judge_members more s holder deeper rest (left - 1 - length (nested_in more s ref) / 2))
                ]
              ]
            ]
          ]
    ]

judge : (more : ℕ) (s : List ℕ) (holder : ℕ) (ms : List ℕ) (left : ℕ) → Judged more s holder ms left
judge zero s holder = judge_members zero s holder (λ fewer ref left d. absurd (omega arith))
judge (suc more) s holder =
    judge_members (suc more) s holder (λ fewer ref left d.
    let same : more ≡ fewer = omega arith in rw same at (judge more s (slot_in (find s 1965 ref)) (members_of s ref) left))

-- ---- The whole listing

module _ (s : List ℕ) (ref room : ℕ) where
  abbrev slot : ℕ
  slot = slot_in (find s 1965 ref)

  -- that of a sound group
  named_walks : SoundGroup s ref → listing_in s (find s 1965 ref) room ≡ members_from (nested_from (16 - 1) s slot) (members_of s ref) (places_in room)
  named_walks sound =
      let x = (group_goes s (find s 1965 ref)).grants sound in
      ap (λ l. entered s (list_from 16 s) l (places_in room)) x.2
      ∙ ap (λ b. members_from (nested_from (16 - 1) s slot) (group_members b) (places_in room)) (sym (stands_bytes s (find s 1965 ref) _ x.2))

  pub listing_whole : Listable s ref room → listing_in s (find s 1965 ref) room ≡ complete (listed_of s ref)
  listing_whole h =
      named_walks h.named
      ∙ lists_all (16 - 1) s slot (passes_all (16 - 1) s slot) (members_of s ref) (even_members s ref) h.nested (places_in room)
      (omega (arith, h.placed, (even_flat (16 - 1) s (members_of s ref)).1))

  pub listing_stops : (n p : ℕ) → ListFault s ref room n p → (n ≡ 0 → ⊥) × Stops (listing_in s (find s 1965 ref) room) n p
  listing_stops n p (inl b) =
      let r = (group_goes s (find s 1965 ref)).refuses n p b in
      (sound_positive group_fault s (located_at s (find s 1965 ref)) _ _ r, rw (ap (λ l. entered s (list_from 16 s) l (places_in room)) r) (refl, refl))
  listing_stops n p (inr (sound, f)) =
      let left = places_in room - f.pairs in
      let same : HasPlace room (suc f.pairs) ↔ (0 < left) = ((λ h. omega arith), (λ h. (omega arith, omega arith))) in
      let r = pair_stops s (HasPlace room (suc f.pairs)) f.pair left same n p f.broken in
      let stops = comes_stops s f.pair n p r.0 (16 - 1) slot (members_of s ref) f.pairs f.comes (places_in room) (omega (arith, f.placed)) r.1 in
      (r.0, rw (named_walks sound) stops)

  pub listing_judged : Listable s ref room ⊎ ((n : ℕ) × (p : ℕ) × ListFault s ref room n p)
  listing_judged =
      elim (judged (group_rules s (find s 1965 ref)) (group_goes s (find s 1965 ref)).decided) [
        | inr b ↦ inr (b.0, b.1, inl b.2)
        | inl sound ↦ elim (judge (16 - 1) s slot (members_of s ref) (places_in room)) [
          | inl ok ↦ inl (record { named = sound; nested = ok.0; placed = (omega (arith, ok.1), omega (arith, ok.1)) })
          | inr (n, p, b) ↦ inr (
            n,
            p,
            inr (
              sound,
              record {
                pair = b.pair_of;
                pairs = b.pairs;
                comes = b.comes;
                placed = (omega (arith, b.placed), omega (arith, b.placed));
                broken = same_place s b.pair_of _ _ n p ((λ h. (omega arith, omega arith)), (λ h. omega arith)) b.first;
              },
            ),
          )
        ]
      ]
