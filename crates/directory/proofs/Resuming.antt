-- A lookup that starts at a cursor and goes round: what it comes to, and that in an image that opened it finds what a lookup from the first slot
-- on finds. Assumes nothing.
use Prim.Native.Nat.{ℕ, ◌+◌, ◌*◌, ◌<◌, ◌≤◌}
use native.Mathlib.Omega.{arith}
use mathlib.Core.Path.{◌≡◌, refl, sym, ap, ◌∙◌}
use mathlib.Core.Logic.{◌⊎◌, inl, inr}
use mathlib.Core.List.{List, [], ◌∷◌}
use mathlib.Core.Bool.{Bool, true, false, not, ◌&&◌}
use lib.Dec.{leb, ltb, eqb}
use borrow.Author.Tests.{eqb-false, eq-eqb, ne_eqb, leb-true, lt-leb, le-leb, ltb-true, not-true}
use Rattle.answer.specs.Search.{hit, miss, first, In}
use Rattle.answer.proofs.Tests.{on_true, on_false, and_split, test}
use Rattle.answer.proofs.Search.{first_here, first_later, first_nil, first_hit}
use Rattle.directory.specs.Links.{slots_after}
use Rattle.directory.specs.Lookup.{has, find_in}
use Rattle.directory.specs.Steps.Cursors.{ahead, most_place, Stands, stepped}
use Rattle.directory.specs.Steps.Opens.{Opens}
use Rattle.directory.specs.Steps.Resuming.{since, or_else, head_of, at_slot, slots_hence, resumed, OnChain}
use Rattle.directory.specs.declared.cursor.Cursor.{Cursor}
use Rattle.directory.proofs.Cursors.{cursor, ahead_here, ahead_end}
use Rattle.directory.proofs.Opens.{opened_find}
use Rattle.directory.proofs.Named.{has_named, named_found}

-- ---- A list from the first one on of which a test holds

pub since_here : (f : ℕ → Bool) (x : ℕ) (xs : List ℕ) → f x ≡ true → since f (x ∷ xs) ≡ x ∷ xs
unfolding since
since_here f x xs e = rw (since, e)

pub since_later : (f : ℕ → Bool) (x : ℕ) (xs : List ℕ) → f x ≡ false → since f (x ∷ xs) ≡ since f xs
unfolding since
since_later f x xs e = rw (since, e)

pub since_nil : (f : ℕ → Bool) → since f [] ≡ []
unfolding since
since_nil f = refl

pub since_first : (f : ℕ → Bool) (l : List ℕ) → head_of (since f l) ≡ first f l
since_first f [] = ap head_of (since_nil f) ∙ sym (first_nil f)
since_first f (x ∷ xs) =
    elim (test (f x)) [
      | inl e ↦ ap head_of (since_here f x xs e) ∙ sym (first_here f x xs e)
      | inr e ↦ ap head_of (since_later f x xs e) ∙ since_first f xs ∙ sym (first_later f x xs e)
    ]

since_in : (f : ℕ → Bool) (l : List ℕ) (p : ℕ) → In p (since f l) → In p l
since_in f [] p i = rw (since_nil f) at i
since_in f (x ∷ xs) p i =
    elim (test (f x)) [
      | inl e ↦ rw (since_here f x xs e) at i
      | inr e ↦ inr (since_in f xs p (rw (since_later f x xs e) at i))
    ]

or_first : (l other : List ℕ) (x : ℕ) (xs : List ℕ) → l ≡ x ∷ xs → or_else l other ≡ l
or_first l other x xs e = rw e refl

or_in : (l other : List ℕ) (p : ℕ) → In p (or_else l other) → In p l ⊎ In p other
or_in [] other p i = inr i
or_in (x ∷ xs) other p i = inl i

-- ---- The slots that it starts with

module _ (c : Cursor) where
  pub no_slot : c.left ≡ 0 → at_slot c ≡ false
  unfolding at_slot
  no_slot e = rw (eq-eqb c.left 0 e)

  module _ (some : c.left ≡ 0 → ⊥) where
    pub slot_far : most_place < c.place + 12 * c.left → at_slot c ≡ false
    unfolding at_slot
    slot_far h = rw (ne_eqb c.left 0 some, lt-leb (c.place + 12 * c.left) most_place h)

    pub slot_near : c.place + 12 * c.left ≤ most_place → at_slot c ≡ ltb c.next 4294967296
    unfolding at_slot
    slot_near h = rw (ne_eqb c.left 0 some, le-leb (c.place + 12 * c.left) most_place h)

-- at a slot, they are those ahead of it
module _ (s : List ℕ) (c : Cursor) (at : at_slot c ≡ true) where
  hence_here : slots_hence s c ≡ ahead s c
  unfolding slots_hence
  hence_here = on_true (at_slot c) _ _ at

  pub stands_here : Stands s c (slots_hence s c)
  unfolding at_slot
  stands_here =
      let a = and_split (not (eqb c.left 0)) (leb (c.place + 12 * c.left) most_place && ltb c.next 4294967296) at in
      let b = and_split (leb (c.place + 12 * c.left) most_place) (ltb c.next 4294967296) a.1 in
      record {
        is = sym hence_here;
        settled = λ z. absurd (eqb-false c.left 0 (not-true _ a.0) z);
        bounded = record { low = leb-true _ _ b.0; next = ltb-true _ _ b.1 };
      }

-- at none, there are none
module _ (s : List ℕ) (c : Cursor) (off : at_slot c ≡ false) where
  hence_none : slots_hence s c ≡ []
  unfolding slots_hence
  hence_none = on_false (at_slot c) _ _ off

  pub stands_past : Stands s (cursor 0 0 0 0) (slots_hence s c)
  stands_past =
      record {
        is = ahead_end s 0 0 ∙ sym hence_none;
        settled = λ z. hence_none;
        bounded = record { low = omega arith; next = omega arith };
      }

-- ---- What it comes to

-- the slot that a cursor stands at is the first of those ahead
module _ (s : List ℕ) (c : Cursor) (l : List ℕ) (w : Stands s c l) where
  pub stands_hit : 0 < c.left → head_of l ≡ hit c.place
  stands_hit h = ap head_of (sym w.is ∙ ahead_here s c h)

  pub stands_miss : c.left ≡ 0 → head_of l ≡ miss
  stands_miss z = ap head_of (w.settled z)

-- a search of the slots ahead
module _ (s : List ℕ) (f : ℕ → Bool) (at : Cursor) where
  pub ahead_found : 0 < at.left → f at.place ≡ true → since f (ahead s at) ≡ ahead s at
  ahead_found some e = let h = ahead_here s at some in ap (since f) h ∙ since_here f _ _ e ∙ sym h

  pub ahead_passed : 0 < at.left → (next : Cursor) → Stands s next (ahead s (stepped at)) → f at.place ≡ false → since f (ahead s at) ≡ since f (ahead s next)
  ahead_passed some next w e = ap (since f) (ahead_here s at some) ∙ since_later f _ _ e ∙ ap (since f) (sym w.is)

  pub ahead_none : Stands s at (ahead s at) → at.left ≡ 0 → since f (ahead s at) ≡ ahead s at
  ahead_none w none = ap (since f) (w.settled none) ∙ since_nil f ∙ sym (w.settled none)

-- what it comes to from a cursor on, and where that is nothing, from the first slot on
module _ (s : List ℕ) (blocks : ℕ) (from : Cursor) (tag ref : ℕ) (at : Cursor) (w : Stands s at (since (has s tag ref) (slots_hence s from))) where
  pub resumed_here : 0 < at.left → Stands s at (resumed s blocks from tag ref)
  unfolding resumed
  resumed_here some = let l : since (has s tag ref) (slots_hence s from) ≡ at.place ∷ ahead s (stepped at) = sym w.is ∙ ahead_here s at some in
      rw (or_first (since (has s tag ref) (slots_hence s from)) (since (has s tag ref) (slots_after s blocks 4)) _ _ l) w

  pub resumed_round : at.left ≡ 0 → (r : Cursor) → Stands s r (since (has s tag ref) (slots_after s blocks 4)) → Stands s r (resumed s blocks from tag ref)
  unfolding resumed
  resumed_round none r v = rw (w.settled none) v

-- ---- In a chain

module _ (s : List ℕ) (blocks : ℕ) (from : Cursor) (tag ref : ℕ) (on : OnChain s blocks from) where
  hence_on : (p : ℕ) → In p (slots_hence s from) → In p (slots_after s blocks 4)
  hence_on p i =
      elim (test (at_slot from)) [
        | inl e ↦ on p (rw (hence_here s from e) at i)
        | inr e ↦ absurd (rw (hence_none s from e) at i)
      ]

  -- the cursor is one of the chain again
  pub resumed_on : (r : Cursor) → Stands s r (resumed s blocks from tag ref) → OnChain s blocks r
  unfolding resumed
  resumed_on r w p i =
      elim (or_in (since (has s tag ref) (slots_hence s from)) (since (has s tag ref) (slots_after s blocks 4)) p (rw w.is at i)) [
        | inl j ↦ hence_on p (since_in (has s tag ref) (slots_hence s from) p j)
        | inr j ↦ since_in (has s tag ref) (slots_after s blocks 4) p j
      ]

  module _ (o : Opens s blocks) where
    ahead_finds : (x : ℕ) → head_of (since (has s tag ref) (slots_hence s from)) ≡ hit x → hit x ≡ find_in s blocks tag ref
    ahead_finds x e =
        let f = first_hit (has s tag ref) (slots_hence s from) x (sym (since_first (has s tag ref) (slots_hence s from)) ∙ e) in
        let n = has_named s tag ref x (rw o.slots at (hence_on x f.0)) f.1 in
        sym (opened_find s blocks tag ref o ∙ named_found s tag ref x o.sound n)

    either_finds : (l : List ℕ) → since (has s tag ref) (slots_hence s from) ≡ l
        → head_of (or_else l (since (has s tag ref) (slots_after s blocks 4))) ≡ find_in s blocks tag ref
    either_finds [] e = since_first (has s tag ref) (slots_after s blocks 4)
    either_finds (x ∷ xs) e = ahead_finds x (ap head_of e)

    -- in an image that opened it finds the same slot as a lookup from the first one on
    pub resumed_finds : head_of (resumed s blocks from tag ref) ≡ find_in s blocks tag ref
    unfolding resumed
    resumed_finds = either_finds (since (has s tag ref) (slots_hence s from)) refl

-- no slot is ahead of a cursor that has none left and no block after
pub past_on : (s : List ℕ) (blocks place next : ℕ) → OnChain s blocks (cursor place 0 next 0)
past_on s blocks place next p i = absurd (rw (ahead_end s place next) at i)
