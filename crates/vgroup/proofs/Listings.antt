-- Laws of listings: no more pairs than there is place for, and the walk over a group's members, step by step. Assumes nothing.
use Prim.Native.Nat.{ℕ, zero, suc, ◌+◌, ◌*◌, ◌-◌, ◌/◌, ◌<◌, ◌≤◌}
use native.Mathlib.Omega.{arith}
use mathlib.Core.Path.{◌≡◌, refl, sym, ap, ◌∙◌}
use mathlib.Core.Logic.{inl, inr}
use mathlib.Core.List.{List, [], ◌∷◌, ◌++◌, append_assoc, append-nil}
use mathlib.Core.Bool.{Bool, true, false}
use lib.ListN.{length, length-append}
use lib.Dec.{eqb}
use borrow.Author.Tests.{eq-eqb, ne_eqb}
use Rattle.wire.specs.Numbers.{be, put, part}
use Rattle.wire.proofs.Numbers.{put_put, length_put}
use Rattle.answer.specs.Refusals.{SMALL, DEEP}
use Rattle.directory.specs.Lookup.{find}
use Rattle.answer.proofs.Tests.{zero?, test}
use Rattle.std.specs.Prelude.{Result, Ok, Err}
use Rattle.answer.specs.declared.Refusal.{Refusal}
use Rattle.answer.specs.declared.refusals.Rule.TheVariants as rule
use Rattle.answer.proofs.Answer.{number_positive}
use Rattle.records.specs.Readings.{Sound, sound, refused}
use Rattle.wire.specs.Layouts.{read}
use Rattle.vgroup.specs.Limits.{group_tag}
use Rattle.vgroup.specs.Groups.{group_members, sound_group}
use Rattle.vgroup.specs.Listings.{Listing, stopped, pair, followed_by, members_from, entered, nested_from, list_from}
use Rattle.vgroup.specs.Steps.{Tells, Walks}
use Rattle.vgroup.proofs.Groups.{members_after, members_next, members_none, members_all}

-- ---- Listings are whole pairs, no more than there is place for

abbrev Fair : ℕ → Listing → Type 0
Fair room l = (m : ℕ) × (length l.pairs ≡ 2 * m) × (m ≤ room)

fair_stopped : (room number place : ℕ) → Fair room (stopped number place)
fair_stopped room number place = (0, refl, omega arith)

fair_pair : (room tag ref : ℕ) (l : Listing) → Fair room l → Fair (suc room) (pair tag ref l)
fair_pair room tag ref l f = (suc f.0, omega (arith, f.1), omega (arith, f.2))

fair_then : (room : ℕ) (l : Listing) → Fair room l → (rest : ℕ → Listing) → ((left : ℕ) → Fair left (rest left))
    → Fair room (followed_by l (rest (room - length l.pairs / 2)))
unfolding followed_by
fair_then room l f rest fair =
    elim (zero? l.number) [
      | inl z ↦
          let r = fair (room - length l.pairs / 2) in
          let long = length-append l.pairs (rest (room - length l.pairs / 2)).pairs in
          rw (followed_by, z) (f.0 + r.0, omega (arith, long, f.1, r.1), omega (arith, f.1, f.2, r.2))
      | inr m ↦ rw (followed_by, m.1) f
    ]

fair_members : (nested : ℕ → ℕ → Listing) → ((ref left : ℕ) → Fair left (nested ref left)) → (ms : List ℕ) (room : ℕ) → Fair room (members_from nested ms room)
unfolding members_from
fair_members nested fair [] room = fair_stopped room 0 0
fair_members nested fair (tag ∷ []) room = fair_stopped room 0 0
fair_members nested fair (tag ∷ ref ∷ rest) zero = fair_stopped 0 SMALL 0
fair_members nested fair (tag ∷ ref ∷ rest) (suc room) =
    elim (test (eqb tag group_tag)) [
      | inr e ↦ rw (members_from, e) (fair_pair room tag ref (members_from nested rest room) (fair_members nested fair rest room))
      | inl e ↦ rw (members_from, e)
          (fair_pair room tag ref (followed_by (nested ref room) (members_from nested rest (room - length (nested ref room).pairs / 2)))
          (fair_then room (nested ref room) (fair ref room) (members_from nested rest) (fair_members nested fair rest)))
    ]

fair_entered : (s : List ℕ) (inside : ℕ → List ℕ → ℕ → Listing) → ((q : ℕ) (b : List ℕ) (room : ℕ) → Fair room (inside q b room)) → (l : Sound) (room : ℕ) → Fair room (entered s inside l room)
fair_entered s inside fair (refused n p) room = fair_stopped room n p
fair_entered s inside fair (sound x) room = fair x.slot (part s x.offset x.length) room

fair_nested : (more : ℕ) (s : List ℕ) (p ref room : ℕ) → Fair room (nested_from more s p ref room)
unfolding nested_from
fair_nested zero s p ref room = fair_stopped room DEEP p
fair_nested (suc more) s p ref room =
    fair_entered s (λ q b left. members_from (nested_from more s q) (group_members b) left) (λ q b left. fair_members (nested_from more s q) (fair_nested more s q) (group_members b) left) (sound_group s (find s group_tag ref)) room

-- a listing has no more pairs than there is place for
pub listed_few : (groups : ℕ) (s : List ℕ) (p : ℕ) (b : List ℕ) (room : ℕ) → length (list_from groups s p b room).pairs ≤ 2 * room
listed_few groups s p b room =
    let f = fair_members (nested_from (groups - 1) s p) (fair_nested (groups - 1) s p) (group_members b) room in omega (arith, f.1, f.2)

-- ---- The invariant

-- a listing after what was listed before it
abbrev pub joined : List ℕ → Listing → Listing
joined done l = record { pairs = done ++ l.pairs; number = l.number; place = l.place }

pub regroup : (xs ys : List ℕ) (l : Listing) → joined xs (joined ys l) ≡ joined (xs ++ ys) l
regroup xs ys l = ap (λ ps. record { pairs = ps; number = l.number; place = l.place }) (sym (append_assoc xs ys l.pairs))

-- two listings of which the first was refused, or not
pub stays : (l more : Listing) → (l.number ≡ 0 → ⊥) → followed_by l more ≡ l
unfolding followed_by
stays l more z = elim (zero? l.number) [ inl q ↦ absurd (z q) | inr m ↦ rw (followed_by, m.1) (rw (← m.1)) ]

pub goes_on : (l more : Listing) → l.number ≡ 0 → followed_by l more ≡ joined l.pairs more
unfolding followed_by
goes_on l more z = rw z

-- what was listed, followed by what the members after it still list, is the whole
pub record Walking (s b : List ℕ) (slot groups room at : ℕ) (table₀ : List ℕ) (n : ℕ) (table : List ℕ) (pairs i : ℕ) : Type 0 where
  pub upto : i ≤ n
  pub few : pairs ≤ room
  pub done : List ℕ
  pub many : length done ≡ 2 * pairs
  pub leaves : table ≡ put table₀ at done
  pub whole : list_from groups s slot b room ≡ joined done (members_from (nested_from (groups - 1) s slot) (members_after b n i) (room - pairs))

pub walk_start : (s b : List ℕ) (slot groups room at : ℕ) (table₀ : List ℕ) (n : ℕ) → n ≡ be 2 b 0 → Walking s b slot groups room at table₀ n table₀ 0 0
unfolding put read
walk_start s b slot groups room at table₀ n is =
    record {
      upto = omega arith;
      few = omega arith;
      done = [];
      many = refl;
      leaves = refl;
      whole =
          let k : room ≡ room - 0 = omega arith in
          ap (members_from (nested_from (groups - 1) s slot) (group_members b)) k
          ∙ ap (λ ms. members_from (nested_from (groups - 1) s slot) ms (room - 0)) (sym (members_all b) ∙ ap (λ k. members_after b k 0) (sym is));
    }

module _ {s b : List ℕ} {slot groups room at : ℕ} {table₀ : List ℕ} {n : ℕ} {table : List ℕ} {pairs i : ℕ} (w : Walking s b slot groups room at table₀ n table pairs i) where
  pub walk_long : length table ≡ length table₀
  walk_long = ap length w.leaves ∙ length_put table₀ at w.done

  -- all members are past
  pub walk_ends : n ≤ i → Walks (list_from groups s slot b room) at table₀ table (Ok pairs)
  unfolding members_from
  walk_ends h =
      let is : list_from groups s slot b room ≡ joined w.done (stopped 0 0) = w.whole ∙ rw (members_none b n i h) in
      rw is (record { tells = (refl, rw append-nil (sym w.many)); leaves = rw append-nil w.leaves })

  -- no place is left
  pub walk_full : i < n → pairs ≡ room → Walks (list_from groups s slot b room) at table₀ table (Err (record { rule = rule.Small; place = 0 }))
  unfolding members_from
  walk_full h q =
      let z : room - pairs ≡ 0 = omega arith in
      let is : list_from groups s slot b room ≡ joined w.done (stopped SMALL 0) = w.whole ∙ rw (members_next b n i h, z) in
      rw is (record { tells = (refl, refl); leaves = rw append-nil w.leaves })

-- ---- A member

-- it was read, and put into the table
pub record Stepped (s b : List ℕ) (slot groups room at : ℕ) (table₀ : List ℕ) (n : ℕ) (table : List ℕ) (pairs i tag ref : ℕ) (after : List ℕ) : Type 0 where
  pub walk : Walking s b slot groups room at table₀ n table pairs i
  pub more : i < n
  pub room_left : pairs < room
  pub tag_is : tag ≡ be 2 b (2 + 2 * i)
  pub ref_is : ref ≡ be 2 b (2 + 2 * n + 2 * i)
  pub puts : after ≡ put table (at + 2 * pairs) (tag ∷ ref ∷ [])

pub stepped : {s b : List ℕ} {slot groups room at : ℕ} {table₀ : List ℕ} {n : ℕ} {table : List ℕ} {pairs i tag ref : ℕ} {after : List ℕ}
    → Walking s b slot groups room at table₀ n table pairs i → i < n → (pairs ≡ room → ⊥)
    → tag ≡ be 2 b (2 + 2 * i) → ref ≡ be 2 b (2 + 2 * n + 2 * i) → after ≡ put table (at + 2 * pairs) (tag ∷ ref ∷ [])
    → Stepped s b slot groups room at table₀ n table pairs i tag ref after
stepped w more some tag_is ref_is puts =
    record { walk = w; more = more; room_left = omega (arith, w.few, some); tag_is = tag_is; ref_is = ref_is; puts = puts }

module _ {s b : List ℕ} {slot groups room at : ℕ} {table₀ : List ℕ} {n : ℕ} {table : List ℕ} {pairs i tag ref : ℕ} {after : List ℕ}
    (w : Stepped s b slot groups room at table₀ n table pairs i tag ref after) where
  abbrev left : ℕ
  left = room - (pairs + 1)

  abbrev nest : ℕ → ℕ → Listing
  nest = nested_from (groups - 1) s slot

  abbrev rest : ℕ → Listing
  rest = members_from nest (members_after b n (i + 1))

  abbrev inner : Listing
  inner = nest ref left

  abbrev done : List ℕ
  done = w.walk.done ++ (tag ∷ ref ∷ [])

  one_more : length done ≡ 2 * (pairs + 1)
  one_more = length-append w.walk.done (tag ∷ ref ∷ []) ∙ omega (arith, w.walk.many)

  laid : after ≡ put table₀ at done
  laid =
      w.puts ∙ ap (λ t. put t (at + 2 * pairs) (tag ∷ ref ∷ [])) w.walk.leaves
      ∙ ap (λ k. put (put table₀ at w.walk.done) (at + k) (tag ∷ ref ∷ [])) (sym w.walk.many)
      ∙ put_put table₀ at w.walk.done (tag ∷ ref ∷ [])

  -- what follows the member
  next : (g : Bool) → eqb tag group_tag ≡ g → list_from groups s slot b room ≡ joined done (elim g [ false ↦ rest left | true ↦ followed_by inner (rest (left - length inner.pairs / 2)) ])
  unfolding members_from
  next false q =
      let k : room - pairs ≡ suc left = omega (arith, w.room_left) in
      let one : members_from nest (members_after b n i) (room - pairs) ≡ pair tag ref (rest left) =
      rw (members_next b n i w.more, k, ← w.tag_is, q, ← w.ref_is) refl in
      w.walk.whole ∙ ap (joined w.walk.done) one ∙ regroup w.walk.done (tag ∷ ref ∷ []) _
  next true q =
      let k : room - pairs ≡ suc left = omega (arith, w.room_left) in
      let one : members_from nest (members_after b n i) (room - pairs) ≡ pair tag ref (followed_by inner (rest (left - length inner.pairs / 2))) =
      rw (members_next b n i w.more, k, ← w.tag_is, q, ← w.ref_is) refl in
      w.walk.whole ∙ ap (joined w.walk.done) one ∙ regroup w.walk.done (tag ∷ ref ∷ []) _

  -- a member that is no group
  pub walk_other : (tag ≡ group_tag → ⊥) → Walking s b slot groups room at table₀ n after (pairs + 1) (i + 1)
  walk_other o =
      record {
        upto = omega (arith, w.more);
        few = omega (arith, w.room_left);
        done = done;
        many = one_more;
        leaves = laid;
        whole = next false (ne_eqb _ _ o);
      }

  -- a group whose members were walked
  module _ (g : tag ≡ group_tag) {later : List ℕ} {r : Result ℕ Refusal} (walks : Walks inner (at + 2 * (pairs + 1)) after later r) where
    laid_inner : later ≡ put table₀ at (done ++ inner.pairs)
    laid_inner =
        walks.leaves ∙ ap (λ t. put t (at + 2 * (pairs + 1)) inner.pairs) laid
        ∙ ap (λ m. put (put table₀ at done) (at + m) inner.pairs) (sym one_more)
        ∙ put_put table₀ at done inner.pairs

    pub inner_long : length later ≡ length table₀
    inner_long = ap length laid_inner ∙ length_put table₀ at (done ++ inner.pairs)

    -- and refused
    pub walk_broken : (x : Refusal) → r ≡ Err x → Walks (list_from groups s slot b room) at table₀ later (Err x)
    walk_broken x e =
        let told : Tells inner (Err x) = rw e at walks.tells in
        let is : list_from groups s slot b room ≡ joined done inner =
        next true (eq-eqb _ _ g) ∙ ap (joined done) (stays inner (rest (left - length inner.pairs / 2)) (λ z. number_positive x.rule (sym told.0 ∙ z))) in
        rw is (record { tells = told; leaves = laid_inner })

    -- or listed
    module _ (m : ℕ) (e : r ≡ Ok m) where
      told : Tells inner (Ok m)
      told = rw e at walks.tells

      pub inner_few : m ≤ left
      inner_few = let f = fair_nested (groups - 1) s slot ref left in omega (arith, f.1, f.2, told.1)

      pub walk_nested : Walking s b slot groups room at table₀ n later (pairs + 1 + m) (i + 1)
      walk_nested =
          let half : left - length inner.pairs / 2 ≡ room - (pairs + 1 + m) = omega (arith, told.1) in
          record {
            upto = omega (arith, w.more);
            few = omega (arith, inner_few, w.room_left);
            done = done ++ inner.pairs;
            many = length-append done inner.pairs ∙ omega (arith, one_more, told.1);
            leaves = laid_inner;
            whole =
                next true (eq-eqb _ _ g)
                ∙ ap (λ k. joined done (followed_by inner (rest k))) half
                ∙ ap (joined done) (goes_on inner (rest (room - (pairs + 1 + m))) told.0)
                ∙ regroup done inner.pairs (rest (room - (pairs + 1 + m)));
          }
