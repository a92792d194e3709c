-- The table or block with a reference, and the rules of each from the tests of the code. Assumes nothing.
use Prim.Native.Nat.{ℕ, ◌+◌, ◌*◌, ◌<◌, ◌≤◌}
use native.Mathlib.Omega.{arith}
use mathlib.Core.Path.{◌≡◌, refl, sym, ap, ◌∙◌}
use mathlib.Core.Logic.{inl, inr}
use mathlib.Core.List.{List, []}
use mathlib.Core.Bool.{Bool, true, false, not, false≢true}
use lib.Dec.{eqb}
use lib.ListN.{length, take, replicate}
use borrow.Author.Tests.{le-leb, lt-leb, eqb-true, eq-eqb, ne_eqb}
use Rattle.answer.specs.Search.{any, hit}
use Rattle.answer.proofs.Tests.{on_true, on_false, and_split, fails, same?}
use Rattle.answer.proofs.Search.{must_holds, must_fails, pass}
use Rattle.wire.specs.Numbers.{part, put}
use Rattle.directory.specs.Opening.{open_of}
use Rattle.directory.specs.Slots.{size_at, content_at}
use Rattle.directory.specs.Lookup.{find}
use Rattle.directory.specs.Rules.{IsStored}
use Rattle.directory.specs.Steps.Cursors.{Stands}
use Rattle.directory.specs.Steps.Opens.{Opens}
use Rattle.directory.specs.Steps.Resuming.{head_of, resumed, OnChain}
use Rattle.directory.specs.declared.cursor.Cursor.{Cursor}
use Rattle.directory.proofs.Opens.{opened_find}
use Rattle.directory.proofs.Resuming.{stands_hit, stands_miss, resumed_finds}
use Rattle.storage.specs.Limits.{linked_tag}
use Rattle.storage.specs.Elements.{Located, part_at, start_at, element_at, plain_only, located_at, bytes_at}
use Rattle.storage.specs.Tables.{tables_after, linked_at, is_there, linked_bytes, link_fault, table_fault, never_written, linked_block_fault, block_bytes}
use Rattle.storage.specs.Steps.{found_at, Sought, LookedUp, next_fault, Gave}
use Rattle.storage.specs.declared.element.Element.TheVariants.{Absent}
use Rattle.std.specs.Prelude.{Option, Some, None, Result, Ok, Err}
use Rattle.std.specs.Borrow.{Bor}
use Rattle.std.specs.Result.{MatchResult}
use Rattle.storage.specs.declared.description.Description.{Description}
use Rattle.answer.specs.Refusals.{number_of}
use Rattle.answer.specs.declared.refusals.Rule.{Rule}
use Rattle.answer.proofs.Answer.{number_positive}
use Rattle.storage.proofs.Elements.{content_part, found_plain, located_element, unstored, plain, extended, kind_at}

-- ---- The table or block with a reference

pub linked_zero : (s : List ℕ) (ref : ℕ) → ref ≡ 0 → linked_at s ref ≡ plain_only Absent
unfolding linked_at
linked_zero s ref e = simp (linked_at, eq-eqb _ _ e)

pub linked_find : (s : List ℕ) (ref : ℕ) → (ref ≡ 0 → ⊥) → linked_at s ref ≡ located_at s (find s linked_tag ref)
unfolding linked_at
linked_find s ref z = simp (linked_at, ne_eqb _ _ z)

-- by the cursor where its lookup ended, which started at one of the chain
module _ (s : List ℕ) (blocks ref : ℕ) (at : Cursor) (o : Opens s blocks) (on : OnChain s blocks at) (c : Cursor) (found : Stands s c (resumed s blocks at linked_tag ref)) where
  finds : head_of (resumed s blocks at linked_tag ref) ≡ find s linked_tag ref
  finds = resumed_finds s blocks at linked_tag ref on o ∙ opened_find s blocks linked_tag ref o

  pub sought_none : c.left ≡ 0 → Sought s ref None
  sought_none e = record { finds = sym (stands_miss s c _ found e) ∙ finds; low = tt }

  pub sought_some : (c.left ≡ 0 → ⊥) → Sought s ref (Some c.place)
  sought_some h = record { finds = sym (stands_hit s c _ found (omega (arith, h))) ∙ finds; low = omega (arith, found.bounded.low) }

-- by the slot that was found
module _ (s : List ℕ) (ref : ℕ) (z : ref ≡ 0 → ⊥) where
  pub sought_gone : (r : Option ℕ) → Sought s ref r → r ≡ None → is_there (linked_at s ref) ≡ false
  unfolding element_at
  sought_gone r w e = ap is_there (linked_find s ref z ∙ ap (located_at s) (sym w.finds ∙ ap found_at e))

  pub sought_slot : (p : ℕ) (r : Option ℕ) → Sought s ref r → r ≡ Some p → linked_at s ref ≡ located_at s (hit p)
  sought_slot p r w e = linked_find s ref z ∙ ap (located_at s) (sym w.finds ∙ ap found_at e)

-- one that is there is stored, and where its bytes stand
module _ (s : List ℕ) (p : ℕ) (there : is_there (located_at s (hit p)) ≡ true) where
  pub plain_at : IsStored s p × (located_at s (hit p) ≡ Ok (part_at p (start_at s p) (size_at s p)))
  plain_at = elim (kind_at s p) [
    | unstored u e ↦ absurd (false≢true (sym (ap (λ x. is_there (plain_only x)) e) ∙ there))
    | extended h x e ↦ absurd (false≢true (sym (ap (λ x. is_there (plain_only x)) e) ∙ there))
    | plain h x e ↦ (h, ap plain_only e)
  ]

-- the bytes of one at a slot are the slot's
pub slot_bytes : (s : List ℕ) (ref p : ℕ) → linked_at s ref ≡ located_at s (hit p) → is_there (located_at s (hit p)) ≡ true → content_at s p ≡ linked_bytes s ref
unfolding linked_bytes
slot_bytes s ref p e there = content_part s p ∙ sym (ap (bytes_at s) (e ∙ (plain_at s p there).1))

-- a table or block that is there, and where its bytes stand
pub record There (s : List ℕ) (ref offset size : ℕ) : Type 0 where
  pub there : is_there (linked_at s ref) ≡ true
  pub inside : offset + size ≤ length s
  pub bytes : linked_bytes s ref ≡ part s offset size
  pub holds : length (linked_bytes s ref) ≡ size

-- what is known of one that is there
pub linked_there : (s : List ℕ) (ref p offset size : ℕ) → (open_of s).number ≡ 0 → (r : Located) → r ≡ linked_at s ref → r ≡ Ok (part_at p offset size) → There s ref offset size
unfolding linked_bytes
linked_there s ref p offset size sound r is e = go (sym is ∙ e)
  where
    go : linked_at s ref ≡ Ok (part_at p offset size) → There s ref offset size
    go q =
        elim (same? ref 0) [
          | inl z ↦ let a : plain_only Absent ≡ Ok (part_at p offset size) = sym (linked_zero s ref z) ∙ q in let z : ◌≡◌ {A = ℕ} 0 1 = cc in absurd (omega arith)
          | inr z ↦
              let f = found_plain s linked_tag ref p offset size sound (located_element _ _ _ _ (sym (linked_find s ref z) ∙ q)) in
              let b : linked_bytes s ref ≡ part s offset size = ap (bytes_at s) q in
              record { there = ap is_there q; inside = f.inside; bytes = b; holds = ap length b ∙ f.long }
        ]

-- ---- The rules of a table or a block

module _ (s : List ℕ) (ref count absent short : ℕ) where
  pub link_absent : is_there (linked_at s ref) ≡ false → link_fault s ref count absent short ≡ absent
  unfolding link_fault
  link_absent h = must_fails _ _ _ h

  module _ (there : is_there (linked_at s ref) ≡ true) where
    pub link_short : length (linked_bytes s ref) < count → link_fault s ref count absent short ≡ short
    unfolding link_fault
    link_short h = must_holds _ _ _ there ∙ must_fails _ _ _ (lt-leb count (length (linked_bytes s ref)) h)

    pub link_none : count ≤ length (linked_bytes s ref) → link_fault s ref count absent short ≡ 0
    unfolding link_fault
    link_none h = must_holds _ _ _ there ∙ must_holds _ _ _ (le-leb count (length (linked_bytes s ref)) h)

-- a block that was never written, and any other
module _ (s : List ℕ) (sparse : Bool) (ref count : ℕ) where
  module _ (unwritten : never_written sparse ref ≡ true) where
    pub unwritten_sound : linked_block_fault s sparse ref count ≡ 0
    unfolding linked_block_fault
    unwritten_sound = on_true (never_written sparse ref) _ _ unwritten

    pub unwritten_gives : block_bytes s sparse ref count ≡ replicate count 0
    unfolding block_bytes
    unwritten_gives = on_true (never_written sparse ref) _ _ unwritten

  module _ (written : never_written sparse ref ≡ false) where
    pub written_fault : linked_block_fault s sparse ref count ≡ link_fault s ref count 25 26
    unfolding linked_block_fault
    written_fault = on_false (never_written sparse ref) _ _ written

    pub written_gives : block_bytes s sparse ref count ≡ take count (linked_bytes s ref)
    unfolding block_bytes
    written_gives = on_false (never_written sparse ref) _ _ written

-- only a reference of 0 is never written, where the record is sparse
pub no_reference : (sparse : Bool) (ref : ℕ) → ref ≡ 0 → never_written sparse ref ≡ sparse
no_reference true ref e = eq-eqb ref 0 e
no_reference false ref e = refl

pub has_reference : (sparse : Bool) (ref : ℕ) → (ref ≡ 0 → ⊥) → never_written sparse ref ≡ false
has_reference sparse ref z = fails (never_written sparse ref) (λ e. z (eqb-true ref 0 (and_split sparse (eqb ref 0) e).1))

module _ (s : List ℕ) (d : Description) (before : List ℕ) (ref : ℕ) where
  pub table_twice : any (eqb ref) before ≡ true → table_fault s d before ref ≡ 27
  unfolding table_fault
  table_twice h = must_fails _ _ _ (ap not h)

  pub table_fresh : any (eqb ref) before ≡ false → table_fault s d before ref ≡ link_fault s ref (2 + 2 * d.entries) 23 24
  unfolding table_fault
  table_fresh h = must_holds _ _ _ (ap not h)

-- one that is not there has no bytes, and is the only one of which none are needed that breaks a rule
gone_bytes : (s : List ℕ) (ref absent short : ℕ) → (link_fault s ref 0 absent short ≡ 0 → ⊥) → linked_bytes s ref ≡ []
unfolding linked_bytes link_fault
gone_bytes s ref absent short z = go (linked_at s ref) refl
  where
    go : (x : Located) → linked_at s ref ≡ x → bytes_at s (linked_at s ref) ≡ []
    go (Err r) e = ap (bytes_at s) e
    go (Ok x) e = absurd (z (pass _ _ _ (ap is_there e) (pass _ _ _ (le-leb 0 (length (linked_bytes s ref)) (omega arith)) refl)))

-- where none were needed, one that breaks a rule is not there
pub broken_bytes : (s : List ℕ) (ref absent short : ℕ) (r : Rule) → link_fault s ref 0 absent short ≡ number_of r → linked_bytes s ref ≡ []
broken_bytes s ref absent short r e = gone_bytes s ref absent short (λ z. number_positive r (sym e ∙ z))

-- what is read of its bytes, or of none where it is not there
pub read_bytes : (s : List ℕ) (ref absent short : ℕ) (r : Result (Bor (List ℕ)) Rule) → LookedUp s ref (link_fault s ref 0 absent short) 0 r
    → (P : Bor (List ℕ) → Type 0) (n : ℕ) → MatchResult r P (λ e. n ≡ 0)
    → (f : List ℕ → ℕ) → ((x : Bor (List ℕ)) → P x → n ≡ f x.now) → f [] ≡ 0 → n ≡ f (linked_bytes s ref)
read_bytes s ref absent short (Ok x) w P n h f reads none = reads x h ∙ ap f w.1
read_bytes s ref absent short (Err r) w P n h f reads none = h ∙ sym none ∙ ap f (sym (broken_bytes s ref absent short r w))

-- a table after so many others: one too many, one of those, or a new one
module _ (s : List ℕ) (d : Description) (count ref : ℕ) where
  pub next_many : count ≡ 256 → next_fault s d count ref ≡ 27
  next_many e = must_fails _ _ _ (ap not (eq-eqb _ _ e))

  module _ (few : count ≡ 256 → ⊥) where
    pub next_few : next_fault s d count ref ≡ table_fault s d (tables_after s count d.table) ref
    next_few = must_holds _ _ _ (ap not (ne_eqb _ _ few))

    pub next_twice : any (eqb ref) (tables_after s count d.table) ≡ true → next_fault s d count ref ≡ 27
    next_twice h = next_few ∙ table_twice s d _ ref h

    pub next_fresh : any (eqb ref) (tables_after s count d.table) ≡ false → next_fault s d count ref ≡ link_fault s ref (2 + 2 * d.entries) 23 24
    next_fresh h = next_few ∙ table_fresh s d _ ref h

-- ---- A block that is taken

module _ (s : List ℕ) (sparse : Bool) (ref count at : ℕ) (out : List ℕ) where
  pub gave_zeros : never_written sparse ref ≡ true → (after : List ℕ) → after ≡ put out at (replicate count 0) → Gave s sparse ref count at out after (Ok tt)
  gave_zeros u after e = (unwritten_sound s sparse ref count u, e ∙ ap (put out at) (sym (unwritten_gives s sparse ref count u)))

  module _ (written : never_written sparse ref ≡ false) where
    pub gave_none : (r : Rule) → link_fault s ref count 25 26 ≡ number_of r → Gave s sparse ref count at out out (Err r)
    gave_none r e = (written_fault s sparse ref count written ∙ e, refl)

    pub gave_bytes : (bytes : List ℕ) → link_fault s ref count 25 26 ≡ 0 → bytes ≡ linked_bytes s ref → (after : List ℕ) → after ≡ put out at (take count bytes)
        → Gave s sparse ref count at out after (Ok tt)
    gave_bytes bytes sound is after e =
        (written_fault s sparse ref count written ∙ sound, e ∙ ap (λ l. put out at (take count l)) is ∙ ap (put out at) (sym (written_gives s sparse ref count written)))
