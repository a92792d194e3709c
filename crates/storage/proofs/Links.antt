-- Tables and blocks as facts about the slots of an image that opens: what each number of a fault tells, and which facts give it. Assumes nothing.
use Prim.Native.Nat.{ℕ, ◌+◌, ◌*◌, ◌-◌, ◌<◌, ◌≤◌}
use native.Mathlib.Nat.{suc-ne-zero}
use native.Mathlib.Omega.{arith}
use mathlib.Core.Path.{◌≡◌, refl, sym, ap, ◌∙◌}
use mathlib.Core.Logic.{◌↔◌, ◌⊎◌, inl, inr}
use mathlib.Core.List.{List}
use mathlib.Core.Bool.{true, false, false≢true}
use lib.Dec.{eqb}
use borrow.Author.Tests.{eqb-true, eq-eqb, ne_eqb}
use Rattle.answer.specs.Search.{any}
use Rattle.answer.proofs.Tests.{and_split, and_both, not_both, test, same?, le?}
use Rattle.answer.proofs.Search.{any_some, any_in}
use Rattle.answer.proofs.Links.{link_in, in_links, along_none}
use Rattle.directory.specs.Slots.{size_at}
use Rattle.directory.specs.Opening.{open_of}
use Rattle.directory.proofs.Named.{found_named}
use Rattle.storage.specs.Limits.{linked_tag}
use Rattle.storage.specs.Elements.{Located, start_at, plain_only}
use Rattle.storage.specs.Tables.{linked_at, is_there, next_of, tables_after, link_fault, never_written}
use Rattle.storage.specs.Walks.{chain_of}
use Rattle.storage.specs.Links.{table_at, block_at, taken, LinkSlot, New, SoundTable, Unwritten, SoundBlock, Unbroken, ReachesTable, ReachesBlock, TableLoop, Broken, no_table, short_table, no_block, short_block, table_loop}
use Rattle.std.specs.Prelude.{Ok, Err}
use Rattle.storage.specs.declared.description.Description.{Description}
use Rattle.storage.proofs.Elements.{found_plain, located_element}
use Rattle.storage.proofs.Named.{named_plain}
use Rattle.storage.proofs.Tables.{There, linked_zero, linked_find, linked_there, link_absent, link_short, link_none, unwritten_sound, written_fault, table_twice, table_fresh}
use Rattle.storage.proofs.Indices

module _ (s : List ℕ) (opens : (open_of s).number ≡ 0) where
  -- ---- A table or block with a reference

  pub slot_there : (ref p : ℕ) → LinkSlot s ref p → There s ref (start_at s p) (size_at s p)
  slot_there ref p l =
      let found = named_plain s linked_tag ref p opens l.named l.stored l.plain in
      linked_there s ref p (start_at s p) (size_at s p) opens (linked_at s ref) refl (linked_find s ref l.not_zero ∙ ap plain_only found)

  -- one that is there, by its slot, or none
  data Lookup (ref : ℕ) : Type 0 where
    at : (p : ℕ) → LinkSlot s ref p → Lookup ref
    none : ((p : ℕ) → LinkSlot s ref p → ⊥) → is_there (linked_at s ref) ≡ false → Lookup ref

  look : (ref : ℕ) → Lookup ref
  look ref = go (linked_at s ref) refl
    where
      none_there : is_there (linked_at s ref) ≡ false → (p : ℕ) → LinkSlot s ref p → ⊥
      none_there e p l = false≢true (sym e ∙ (slot_there ref p l).there)

      go : (x : Located) → linked_at s ref ≡ x → Lookup ref
      go (Err r) e = none (none_there (ap is_there e)) (ap is_there e)
      go (Ok x) e =
          elim (same? ref 0) [
            | inl z ↦ let gone = ap is_there (linked_zero s ref z) in none (none_there gone) gone
            | inr z ↦
                let f = found_plain s linked_tag ref x.slot x.offset x.length opens (located_element _ _ _ _ (sym (linked_find s ref z) ∙ e)) in
                at x.slot (record { named = found_named s linked_tag ref x.slot f.found; stored = f.stored; plain = f.plain; not_zero = z })
          ]

  -- what its fault is, of which so many bytes are needed
  data Found (ref count absent short : ℕ) : Type 0 where
    sound : (p : ℕ) → LinkSlot s ref p → count ≤ size_at s p → link_fault s ref count absent short ≡ 0 → Found ref count absent short
    missing : ((p : ℕ) → LinkSlot s ref p → ⊥) → link_fault s ref count absent short ≡ absent → Found ref count absent short
    cut : (p : ℕ) → LinkSlot s ref p → size_at s p < count → link_fault s ref count absent short ≡ short → Found ref count absent short

  module _ (ref count absent short : ℕ) where
    sound_number : (p : ℕ) → LinkSlot s ref p → count ≤ size_at s p → link_fault s ref count absent short ≡ 0
    sound_number p l h = let w = slot_there ref p l in link_none s ref count absent short w.there (omega (arith, w.holds))

    cut_number : (p : ℕ) → LinkSlot s ref p → size_at s p < count → link_fault s ref count absent short ≡ short
    cut_number p l h = let w = slot_there ref p l in link_short s ref count absent short w.there (omega (arith, w.holds))

    missing_number : ((p : ℕ) → LinkSlot s ref p → ⊥) → link_fault s ref count absent short ≡ absent
    missing_number h = elim (look ref) [ at p l ↦ absurd (h p l) | none n e ↦ link_absent s ref count absent short e ]

    find : Found ref count absent short
    find = elim (look ref) [
      | none n e ↦ missing n (link_absent s ref count absent short e)
      | at p l ↦ elim (le? count (size_at s p)) [ inl h ↦ sound p l h (sound_number p l h) | inr h ↦ cut p l (omega arith) (cut_number p l (omega arith)) ]
    ]

  module _ (d : Description) where
    -- ---- Table i

    abbrev Before : ℕ → List ℕ
    Before i = tables_after s i d.table

    once_fresh : (i : ℕ) → ((k : ℕ) → k < i → table_at s d k ≡ table_at s d i → ⊥) → any (eqb (table_at s d i)) (Before i) ≡ false
    once_fresh i h = along_none (next_of s) (eqb (table_at s d i)) i d.table (λ k l. ne_eqb (table_at s d i) (table_at s d k) (λ e. h k l (sym e)))

    again_before : (i k : ℕ) → k < i → table_at s d k ≡ table_at s d i → any (eqb (table_at s d i)) (Before i) ≡ true
    again_before i k l e = any_in (eqb (table_at s d i)) (Before i) (table_at s d k) (link_in (next_of s) i k d.table l) (eq-eqb (table_at s d i) (table_at s d k) (sym e))

    fresh_once : (i : ℕ) → any (eqb (table_at s d i)) (Before i) ≡ false → (k : ℕ) → k < i → table_at s d k ≡ table_at s d i → ⊥
    fresh_once i e k l q = false≢true (sym e ∙ again_before i k l q)

    -- it is one of those before it, or its fault is that of the table with its reference
    data Turn (i : ℕ) : Type 0 where
      again : (k : ℕ) → k < i → table_at s d k ≡ table_at s d i → Indices.table_number s d i ≡ 27 → Turn i
      new : ((k : ℕ) → k < i → table_at s d k ≡ table_at s d i → ⊥) → Indices.table_number s d i ≡ link_fault s (table_at s d i) (2 + 2 * d.entries) 23 24 → Turn i

    turn : (i : ℕ) → Turn i
    turn i =
        let ref = table_at s d i in
        elim (test (any (eqb ref) (Before i))) [
          | inl e ↦
              let f = any_some (eqb ref) (Before i) e in
              let l = in_links (next_of s) i d.table f.0 f.1 in
              again l.0 l.1 (l.2 ∙ sym (eqb-true ref f.0 f.2)) (table_twice s d (Before i) ref e)
          | inr e ↦ new (fresh_once i e) (table_fresh s d (Before i) ref e)
        ]

    new_number : (i : ℕ) → New s d i → Indices.table_number s d i ≡ link_fault s (table_at s d i) (2 + 2 * d.entries) 23 24
    new_number i h = table_fresh s d (Before i) (table_at s d i) (once_fresh i h.once)

    -- what its number tells
    module _ (i : ℕ) where
      table_sound : i < 256 → Indices.table_number s d i ≡ 0 → SoundTable s d i
      table_sound few e = elim (turn i) [
        | again k l q f ↦ absurd (suc-ne-zero 26 (sym f ∙ e))
        | new once f ↦ elim (find (table_at s d i) (2 + 2 * d.entries) 23 24) [
          | sound p l h g ↦ record { new = record { few = few; once = once }; slot = p; linked = l; whole = h }
          | missing n g ↦ absurd (suc-ne-zero 22 (sym (f ∙ g) ∙ e))
          | cut p l h g ↦ absurd (suc-ne-zero 23 (sym (f ∙ g) ∙ e))
        ]
      ]

      sound_table : SoundTable s d i → (i < 256) × (Indices.table_number s d i ≡ 0)
      sound_table t = (t.new.few, new_number i t.new ∙ sound_number (table_at s d i) (2 + 2 * d.entries) 23 24 t.slot t.linked t.whole)

    -- ---- Block j

    -- it was never written, or its fault is that of the block with its reference
    data Block (j : ℕ) : Type 0 where
      unwritten : Unwritten s d j → Indices.block_number s d j ≡ 0 → Block j
      written : (Unwritten s d j → ⊥) → Indices.block_number s d j ≡ link_fault s (block_at s d j) (taken d j) 25 26 → Block j

    block : (j : ℕ) → Block j
    block j =
        let ref = block_at s d j in
        elim (test (never_written d.sparse ref)) [
          | inl u ↦
              let both = and_split d.sparse (eqb ref 0) u in
              unwritten (record { allowed = both.0; none = eqb-true ref 0 both.1 }) (unwritten_sound s d.sparse ref (taken d j) u)
          | inr w ↦
              written (λ u. not_both (never_written d.sparse ref) w (and_both d.sparse (eqb ref 0) u.allowed (eq-eqb ref 0 u.none)))
              (written_fault s d.sparse ref (taken d j) w)
        ]

    module _ (j : ℕ) where
      written_number : (Unwritten s d j → ⊥) → Indices.block_number s d j ≡ link_fault s (block_at s d j) (taken d j) 25 26
      written_number z = elim (block j) [ unwritten u e ↦ absurd (z u) | written w e ↦ e ]

      -- a block that is there was written
      slot_number : (p : ℕ) → LinkSlot s (block_at s d j) p → Indices.block_number s d j ≡ link_fault s (block_at s d j) (taken d j) 25 26
      slot_number p l = written_number (λ u. l.not_zero u.none)

      block_sound : Indices.block_number s d j ≡ 0 → SoundBlock s d j
      block_sound e = elim (block j) [
        | unwritten u f ↦ inr u
        | written w f ↦ elim (find (block_at s d j) (taken d j) 25 26) [
          | sound p l h g ↦ inl (record { slot = p; linked = l; long = h })
          | missing n g ↦ absurd (suc-ne-zero 24 (sym (f ∙ g) ∙ e))
          | cut p l h g ↦ absurd (suc-ne-zero 25 (sym (f ∙ g) ∙ e))
        ]
      ]

      sound_block : SoundBlock s d j → Indices.block_number s d j ≡ 0
      sound_block (inl b) = slot_number b.slot b.linked ∙ sound_number (block_at s d j) (taken d j) 25 26 b.slot b.linked b.long
      sound_block (inr u) = elim (block j) [ unwritten v e ↦ e | written w e ↦ absurd (w u) ]

    -- ---- All of them

    all_unbroken : Indices.AllPass s d ↔ Unbroken s d
    all_unbroken = (
      (λ a. record { tables = λ i n. let t = a.tables i n in table_sound i t.0 t.1; blocks = λ j n. block_sound j (a.blocks j n) }),
      (λ u. record { tables = λ i n. sound_table i (u.tables i n); blocks = λ j n. sound_block j (u.blocks j n) }),
    )

    -- ---- The first that is broken

    module _ (n i : ℕ) where
      reached_table : Indices.AtTable s d n i → ReachesTable s d i
      reached_table t =
          record {
            needed = t.needed;
            tables = λ k l. table_sound k (omega (arith, Indices.table_few s d n i t)) (t.tables k l);
            blocks = λ k l. block_sound k (t.blocks k l);
          }

      at_table : (n ≡ 0 → ⊥) → ReachesTable s d i → ((i < 256) × (Indices.table_number s d i ≡ n)) ⊎ ((i ≡ 256) × (n ≡ 27)) → Indices.First s d n i
      at_table z r e =
          inl (record {
            fault = z;
            needed = r.needed;
            tables = λ k l. (sound_table k (r.tables k l)).1;
            blocks = λ k l. sound_block k (r.blocks k l);
            number = e;
          })

    module _ (n j : ℕ) where
      reached_block : Indices.AtBlock s d n j → ReachesBlock s d j
      reached_block t =
          record {
            needed = t.needed;
            tables = λ k l. let h = t.tables k l in table_sound k h.0 h.1;
            blocks = λ k l. block_sound k (t.blocks k l);
          }

      at_block : (n ≡ 0 → ⊥) → ReachesBlock s d j → Indices.block_number s d j ≡ n → Indices.First s d n j
      at_block z r e =
          inr (record {
            fault = z;
            needed = r.needed;
            tables = λ k l. sound_table k (r.tables k l);
            blocks = λ k l. sound_block k (r.blocks k l);
            number = e;
          })

    table_first : (n i : ℕ) → Indices.AtTable s d n i → Broken s d n i
    table_first n i t =
        elim t.number [
          | inr e ↦ table_loop e.1 (record { reached = reached_table n i t; again = inl e.0 })
          | inl e ↦ elim (turn i) [
            | again k l q f ↦ table_loop (sym e.1 ∙ f) (record { reached = reached_table n i t; again = inr (k, l, q) })
            | new once f ↦ elim (find (table_at s d i) (2 + 2 * d.entries) 23 24) [
              | sound p l h g ↦ absurd (t.fault (sym e.1 ∙ f ∙ g))
              | missing h g ↦ no_table (sym e.1 ∙ f ∙ g) (record { reached = reached_table n i t; new = record { few = e.0; once = once }; missing = h })
              | cut p l h g ↦
                  short_table (sym e.1 ∙ f ∙ g)
                  (record { reached = reached_table n i t; new = record { few = e.0; once = once }; slot = p; linked = l; short = h })
            ]
          ]
        ]

    block_first : (n j : ℕ) → Indices.AtBlock s d n j → Broken s d n j
    block_first n j t =
        elim (block j) [
          | unwritten u e ↦ absurd (t.fault (sym t.number ∙ e))
          | written w e ↦ elim (find (block_at s d j) (taken d j) 25 26) [
            | sound p l h g ↦ absurd (t.fault (sym t.number ∙ e ∙ g))
            | missing h g ↦ no_block (sym t.number ∙ e ∙ g) (record { reached = reached_block n j t; meant = w; missing = h })
            | cut p l h g ↦ short_block (sym t.number ∙ e ∙ g) (record { reached = reached_block n j t; slot = p; linked = l; short = h })
          ]
        ]

    loop_first : (i : ℕ) → TableLoop s d i → Indices.First s d 27 i
    loop_first i h =
        elim (same? i 256) [
          | inl e ↦ at_table 27 i (suc-ne-zero 26) h.reached (inr (e, refl))
          | inr z ↦ elim h.again [
            | inl e ↦ absurd (z e)
            | inr q ↦
                let last = (h.reached.tables (i - 1) (omega (arith, q.1))).new.few in
                at_table 27 i (suc-ne-zero 26) h.reached
                (inl (omega (arith, z, last), table_twice s d (Before i) (table_at s d i) (again_before i q.0 q.1 q.2)))
          ]
        ]

    broken_first : (n x : ℕ) → Broken s d n x → Indices.First s d n x
    broken_first n x (no_table e h) =
        rw e (at_table 23 x (suc-ne-zero 22) h.reached
        (inl (h.new.few, new_number x h.new ∙ missing_number (table_at s d x) (2 + 2 * d.entries) 23 24 h.missing)))
    broken_first n x (short_table e h) =
        rw e (at_table 24 x (suc-ne-zero 23) h.reached
        (inl (h.new.few, new_number x h.new ∙ cut_number (table_at s d x) (2 + 2 * d.entries) 23 24 h.slot h.linked h.short)))
    broken_first n x (no_block e h) = rw e (at_block 25 x (suc-ne-zero 24) h.reached (written_number x h.meant ∙ missing_number (block_at s d x) (taken d x) 25 26 h.missing))
    broken_first n x (short_block e h) =
        rw e (at_block 26 x (suc-ne-zero 25) h.reached (slot_number x h.slot h.linked ∙ cut_number (block_at s d x) (taken d x) 25 26 h.slot h.linked h.short))
    broken_first n x (table_loop e h) = rw e (loop_first x h)

    -- ---- The chain

    pub chain_unbroken : ((chain_of s d).fault ≡ 0) ↔ Unbroken s d
    chain_unbroken =
        let w = Indices.walked_sound s d in ((λ e. all_unbroken.0 (w.0 e)), (λ u. w.1 (all_unbroken.1 u)))

    pub chain_broken : (n x : ℕ) → (((chain_of s d).fault ≡ n) × ((chain_of s d).index ≡ x) × (n ≡ 0 → ⊥)) ↔ Broken s d n x
    chain_broken n x =
        let w = Indices.walked_first s d n x in (
          (λ h. elim (w.0 h) [ inl t ↦ table_first n x t | inr t ↦ block_first n x t ]),
          (λ b. w.1 (broken_first n x b)),
        )

-- no other numbers come of a chain
pub broken_numbers : (s : List ℕ) (d : Description) (n x : ℕ) → Broken s d n x → (23 ≤ n) × (n ≤ 27)
broken_numbers s d n x (no_table e h) = omega arith
broken_numbers s d n x (short_table e h) = omega arith
broken_numbers s d n x (no_block e h) = omega arith
broken_numbers s d n x (short_block e h) = omega arith
broken_numbers s d n x (table_loop e h) = omega arith
