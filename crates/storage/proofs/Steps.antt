-- What the loops over the blocks of a table and over the tables keep: what is left of the walk is what the walk comes to. Assumes nothing.
use Prim.Native.Nat.{ℕ, suc, ◌+◌, ◌*◌, ◌%◌, ◌-◌, ◌<◌, ◌≤◌}
use native.Mathlib.Nat.{suc-ne-zero, not-suc-le-zero}
use native.Mathlib.Omega.{arith}
use mathlib.Core.Path.{◌≡◌, refl, sym, ap, ◌∙◌}
use mathlib.Core.List.{List, [], ◌∷◌, ◌++◌}
use mathlib.Core.Bool.{true, false, false≢true}
use mathlib.Core.Logic.{inl, inr}
use lib.Dec.{eqb}
use lib.ListN.{length}
use borrow.Author.Count.{below_more}
use borrow.Author.Tests.{ne_eqb}
use Rattle.answer.specs.Search.{any}
use Rattle.answer.specs.Links.{link_after, links_after}
use Rattle.answer.proofs.Tests.{same?}
use Rattle.answer.proofs.Links.{link_next, links_snoc, length_links, along_none}
use Rattle.wire.specs.Numbers.{put}
use Rattle.wire.proofs.Numbers.{put_put, length_put}
use Rattle.marks.specs.Marks.{marked, with_mark}
use Rattle.marks.proofs.Marks.{mark_length, own_mark, mark_kept}
use Rattle.storage.specs.Tables.{next_of, table_after, tables_after, linked_bytes, next_table, block_ref, table_fault, linked_block_fault, block_bytes}
use Rattle.storage.specs.Walks.{share, Walk, breaks, joined, and_then, blocks_from, tables_from, chain_of}
use Rattle.std.specs.Prelude.{Ok, Err}
use Rattle.answer.specs.Refusals.{number_of}
use Rattle.answer.specs.declared.refusals.Rule.{Rule}
use Rattle.answer.proofs.Answer.{number_positive}
use Rattle.storage.specs.Steps.{next_fault, Marked, Took, Followed}
use Rattle.storage.specs.declared.description.Description.{Description}
use Rattle.storage.specs.declared.linked.Broken.{Broken}
use Rattle.storage.proofs.Tables.{next_many, next_few}
use Rattle.storage.proofs.Walks.{share_less, blocks_none, blocks_full, blocks_fault, blocks_next, block_passed, blocks_total, then_stops, then_goes, tables_full, tables_many, tables_fault, tables_next}

put_none : (s : List ℕ) (at : ℕ) → put s at [] ≡ s
unfolding put
put_none s at = refl

-- ---- The blocks of one table

-- after some entries: what is left of the walk over the table is what the walk comes to
pub record Taking (s : List ℕ) (d : Description) (t : List ℕ) (first missing : ℕ) (out₀ : List ℕ) (entry left : ℕ) (out : List ℕ) : Type 0 where
  pub upto : entry ≤ d.entries
  pub less : left ≤ d.length
  pub long : length out ≡ length out₀
  pub fault : (blocks_from s d t (d.entries - entry) entry (first + entry) left).fault ≡ (blocks_from s d t d.entries 0 first missing).fault
  pub index : (blocks_from s d t (d.entries - entry) entry (first + entry) left).index ≡ (blocks_from s d t d.entries 0 first missing).index
  pub rest : (blocks_from s d t (d.entries - entry) entry (first + entry) left).left ≡ (blocks_from s d t d.entries 0 first missing).left
  pub bytes : put out (d.length - left) (blocks_from s d t (d.entries - entry) entry (first + entry) left).bytes
      ≡ put out₀ (d.length - missing) (blocks_from s d t d.entries 0 first missing).bytes

module _ (s : List ℕ) (d : Description) (t : List ℕ) (first missing : ℕ) (out₀ : List ℕ) (entry left : ℕ) (out : List ℕ) (w : Taking s d t first missing out₀ entry left out) where
  -- where the walk stops
  kept_blocks : (f i : ℕ) → blocks_from s d t (d.entries - entry) entry (first + entry) left ≡ breaks f i left → out ≡ put out₀ (d.length - missing) (blocks_from s d t d.entries 0 first missing).bytes
  kept_blocks f i e = sym (put_none out (d.length - left)) ∙ ap (λ v. put out (d.length - left) v.bytes) (sym e) ∙ w.bytes

  stopped : blocks_from s d t (d.entries - entry) entry (first + entry) left ≡ breaks 0 0 left
      → Took (blocks_from s d t d.entries 0 first missing) (d.length - missing) out₀ out (Ok left)
  stopped e = (sym w.fault ∙ ap (λ v. v.fault) e, sym w.rest ∙ ap (λ v. v.left) e, kept_blocks 0 0 e)

  pub taken_all : d.entries ≤ entry → Took (blocks_from s d t d.entries 0 first missing) (d.length - missing) out₀ out (Ok left)
  taken_all h =
      let z : d.entries - entry ≡ 0 = omega arith in
      stopped (ap (λ k. blocks_from s d t k entry (first + entry) left) z ∙ blocks_none s d t entry (first + entry) left)

  pub taken_enough : left ≡ 0 → Took (blocks_from s d t d.entries 0 first missing) (d.length - missing) out₀ out (Ok left)
  taken_enough z = stopped (blocks_full s d t entry (first + entry) left (d.entries - entry) z)

  module _ (more : entry < d.entries) (missed : left ≡ 0 → ⊥) where
    fuel : d.entries - entry ≡ suc (d.entries - (entry + 1))
    fuel = omega arith

    pub taken_fault : (r : Rule) → linked_block_fault s d.sparse (block_ref t entry) (share d (first + entry) left) ≡ number_of r
        → Took (blocks_from s d t d.entries 0 first missing) (d.length - missing) out₀ out (Err (record { rule = r; index = first + entry }))
    taken_fault r e =
        let stops : blocks_from s d t (d.entries - entry) entry (first + entry) left ≡ breaks (number_of r) (first + entry) left =
        ap (λ k. blocks_from s d t k entry (first + entry) left) fuel
        ∙ blocks_fault s d t entry (first + entry) left (d.entries - (entry + 1)) missed (λ q. number_positive r (sym e ∙ q))
        ∙ ap (λ m. breaks m (first + entry) left) e in
        ((sym w.fault ∙ ap (λ v. v.fault) stops, sym w.index ∙ ap (λ v. v.index) stops), kept_blocks _ _ stops)

    module _ (good : linked_block_fault s d.sparse (block_ref t entry) (share d (first + entry) left) ≡ 0) where
      gives : List ℕ
      gives = block_bytes s d.sparse (block_ref t entry) (share d (first + entry) left)

      step : blocks_from s d t (d.entries - entry) entry (first + entry) left
          ≡ joined gives (blocks_from s d t (d.entries - (entry + 1)) (entry + 1) (first + (entry + 1)) (left - share d (first + entry) left))
      unfolding gives
      step =
          let n = share d (first + entry) left in
          let i : first + entry + 1 ≡ first + (entry + 1) = omega arith in
          ap (λ k. blocks_from s d t k entry (first + entry) left) fuel
          ∙ blocks_next s d t entry (first + entry) left (d.entries - (entry + 1)) missed good
          ∙ ap (λ i. joined gives (blocks_from s d t (d.entries - (entry + 1)) (entry + 1) i (left - n))) i

      pub taking_next : Taking s d t first missing out₀ (entry + 1) (left - share d (first + entry) left)
          (put out (d.length - left) (block_bytes s d.sparse (block_ref t entry) (share d (first + entry) left)))
      unfolding gives
      taking_next =
          let n = share d (first + entry) left in
          let rest = blocks_from s d t (d.entries - (entry + 1)) (entry + 1) (first + (entry + 1)) (left - n) in
          let l : length gives ≡ n = block_passed s d.sparse (block_ref t entry) n good in
          let at : d.length - (left - n) ≡ d.length - left + length gives = omega (arith, share_less d (first + entry) left, w.less) in
          record {
            upto = omega arith;
            less = omega (arith, w.less);
            long = length_put out (d.length - left) gives ∙ w.long;
            fault = ap (λ v. v.fault) (sym step) ∙ w.fault;
            index = ap (λ v. v.index) (sym step) ∙ w.index;
            rest = ap (λ v. v.left) (sym step) ∙ w.rest;
            bytes =
                ap (λ a. put (put out (d.length - left) gives) a rest.bytes) at
                ∙ put_put out (d.length - left) gives rest.bytes
                ∙ ap (λ v. put out (d.length - left) v.bytes) (sym step)
                ∙ w.bytes;
          }

-- ---- The tables of a chain

-- one table more has set its mark
marked_more : (s : List ℕ) (first count : ℕ) (marks : List ℕ) → Marked s first count marks → (ref : ℕ) → table_after s count first ≡ ref
    → Marked s first (count + 1) (with_mark marks (ref % 251))
marked_more s first count marks w ref e =
    record {
      long = mark_length marks (ref % 251) ∙ w.long;
      set = below_more (λ i. marked (with_mark marks (ref % 251)) (table_after s i first % 251) ≡ true) count
          (λ i k. mark_kept marks (ref % 251) _ (w.set i k))
          (rw e (own_mark marks (ref % 251) (omega (arith, w.long))));
    }

-- a table whose mark is not set is none of those walked
pub unmarked : (s : List ℕ) (first count : ℕ) (marks : List ℕ) → Marked s first count marks → (ref : ℕ) → marked marks (ref % 251) ≡ false
    → any (eqb ref) (tables_after s count first) ≡ false
unmarked s first count marks w ref e =
    along_none (next_of s) (eqb ref) count first (λ i k. ne_eqb ref (table_after s i first) (λ q. false≢true (sym e ∙ rw q (w.set i k))))

-- after some tables: what is left of the walk is what the walk comes to
pub record Following (s : List ℕ) (d : Description) (out₀ : List ℕ) (marks : List ℕ) (count ref index left : ℕ) (out : List ℕ) : Type 0 where
  pub few : count ≤ 256
  pub marked : Marked s d.table count marks
  pub here : table_after s count d.table ≡ ref
  pub low : index ≤ count * 4294967296
  pub less : left ≤ d.length
  pub long : length out ≡ length out₀
  pub fault : (tables_from s d (256 - count) (tables_after s count d.table) ref index left).fault ≡ (chain_of s d).fault
  pub spot : (tables_from s d (256 - count) (tables_after s count d.table) ref index left).index ≡ (chain_of s d).index
  pub rest : (tables_from s d (256 - count) (tables_after s count d.table) ref index left).left ≡ (chain_of s d).left
  pub bytes : put out (d.length - left) (tables_from s d (256 - count) (tables_after s count d.table) ref index left).bytes ≡ put out₀ 0 (chain_of s d).bytes

pub following_start : (s : List ℕ) (d : Description) (marks : List ℕ) (out : List ℕ) → length marks ≡ 4 → Following s d out marks 0 d.table 0 d.length out
unfolding chain_of link_after links_after
following_start s d marks out h =
    let z : d.length - d.length ≡ 0 = omega arith in
    record {
      few = omega arith;
      marked = record { long = h; set = λ i k. absurd (not-suc-le-zero k) };
      here = refl;
      low = omega arith;
      less = omega arith;
      long = refl;
      fault = refl;
      spot = refl;
      rest = refl;
      bytes = ap (λ a. put out a (chain_of s d).bytes) z;
    }

module _ (s : List ℕ) (d : Description) (out₀ : List ℕ) (marks : List ℕ) (count ref index left : ℕ) (out : List ℕ) (w : Following s d out₀ marks count ref index left out) where
  -- where the walk stops
  kept_tables : (f i : ℕ) → tables_from s d (256 - count) (tables_after s count d.table) ref index left ≡ breaks f i left → out ≡ put out₀ 0 (chain_of s d).bytes
  kept_tables f i e = sym (put_none out (d.length - left)) ∙ ap (λ v. put out (d.length - left) v.bytes) (sym e) ∙ w.bytes

  pub followed_all : left ≡ 0 → Followed (chain_of s d) out₀ out (Ok tt)
  followed_all z =
      let e = tables_full s d (tables_after s count d.table) ref index left (256 - count) z in
      (sym w.fault ∙ ap (λ v. v.fault) e, kept_tables 0 0 e)

  module _ (missed : left ≡ 0 → ⊥) where
    -- the index of a table is the number of those before it
    fault_ends : (r : Rule) → tables_from s d (256 - count) (tables_after s count d.table) ref index left ≡ breaks (number_of r) (length (tables_after s count d.table)) left
        → Followed (chain_of s d) out₀ out (Err (record { rule = r; index = count }))
    fault_ends r e =
        ((sym w.fault ∙ ap (λ v. v.fault) e, sym w.spot ∙ ap (λ v. v.index) e ∙ length_links (next_of s) count d.table), kept_tables _ _ e)

    -- the table breaks a rule
    pub followed_fault : (r : Rule) → next_fault s d count ref ≡ number_of r → Followed (chain_of s d) out₀ out (Err (record { rule = r; index = count }))
    followed_fault r e =
        elim (same? count 256) [
          | inl m ↦
              let none : 256 - count ≡ 0 = omega arith in
              fault_ends r (ap (λ k. tables_from s d k (tables_after s count d.table) ref index left) none
              ∙ tables_many s d (tables_after s count d.table) ref index left missed
              ∙ ap (λ f. breaks f (length (tables_after s count d.table)) left) (sym (next_many s d count ref m) ∙ e))
          | inr m ↦
              let f : table_fault s d (tables_after s count d.table) ref ≡ number_of r = sym (next_few s d count ref m) ∙ e in
              let some : 256 - count ≡ suc (256 - (count + 1)) = omega (arith, w.few) in
              fault_ends r (ap (λ k. tables_from s d k (tables_after s count d.table) ref index left) some
              ∙ tables_fault s d (tables_after s count d.table) ref index left missed (256 - (count + 1)) (λ q. number_positive r (sym f ∙ q))
              ∙ ap (λ g. breaks g (length (tables_after s count d.table)) left) f)
        ]

    -- it breaks none
    module _ (sound : next_fault s d count ref ≡ 0) where
      pub fewer : count < 256
      fewer = elim (same? count 256) [ inl m ↦ absurd (suc-ne-zero 26 (sym (next_many s d count ref m) ∙ sound)) | inr m ↦ omega (arith, w.few) ]

      good : table_fault s d (tables_after s count d.table) ref ≡ 0
      good = sym (next_few s d count ref (λ m. omega (arith, fewer))) ∙ sound

      fuel_left : 256 - count ≡ suc (256 - (count + 1))
      fuel_left = omega (arith, fewer)

      -- a table without fault: what its blocks come to, and what is left of the walk after it
      module _ (after : List ℕ) where
        onward : Walk
        onward = tables_from s d (256 - (count + 1)) (tables_after s count d.table ++ (ref ∷ [])) (next_table (linked_bytes s ref)) (index + d.entries) (blocks_from s d (linked_bytes s ref) d.entries 0 index left).left

        here : tables_from s d (256 - count) (tables_after s count d.table) ref index left ≡ and_then (blocks_from s d (linked_bytes s ref) d.entries 0 index left) onward
        unfolding onward
        here =
            ap (λ k. tables_from s d k (tables_after s count d.table) ref index left) fuel_left
            ∙ tables_next s d (tables_after s count d.table) ref index left missed (256 - (count + 1)) good

        pub followed_broken : (b : Broken) → Took (blocks_from s d (linked_bytes s ref) d.entries 0 index left) (d.length - left) out after (Err b)
            → Followed (chain_of s d) out₀ after (Err b)
        followed_broken b took =
            let v = blocks_from s d (linked_bytes s ref) d.entries 0 index left in
            let e = here ∙ then_stops v onward (λ q. number_positive b.rule (sym took.0.0 ∙ q)) in (
              (sym w.fault ∙ ap (λ x. x.fault) e ∙ took.0.0, sym w.spot ∙ ap (λ x. x.index) e ∙ took.0.1),
              took.1 ∙ ap (λ x. put out (d.length - left) x.bytes) (sym e) ∙ w.bytes,
            )

        pub following_next : (rest : ℕ) → Took (blocks_from s d (linked_bytes s ref) d.entries 0 index left) (d.length - left) out after (Ok rest) → d.entries < 4294967296
            → Following s d out₀ (with_mark marks (ref % 251)) (count + 1) (next_table (linked_bytes s ref)) (index + d.entries) rest after
        unfolding onward
        following_next rest took small =
            let v = blocks_from s d (linked_bytes s ref) d.entries 0 index left in
            let e = here ∙ then_goes v onward took.0 in
            let more : tables_after s (count + 1) d.table ≡ tables_after s count d.table ++ (ref ∷ []) = links_snoc (next_of s) count d.table ∙ ap (λ r. tables_after s count d.table ++ (r ∷ [])) w.here in
            let q : tables_from s d (256 - (count + 1)) (tables_after s (count + 1) d.table) (next_table (linked_bytes s ref)) (index + d.entries) rest ≡ onward = rw (more, ← took.1) in
            let total = blocks_total s d (linked_bytes s ref) d.entries 0 index left in
            let at : d.length - rest ≡ d.length - left + length v.bytes = omega (arith, w.less, took.1) in
            record {
              few = omega (arith, fewer);
              marked = marked_more s d.table count marks w.marked ref w.here;
              here = link_next (next_of s) count d.table ∙ ap (next_of s) w.here;
              low = omega (arith, w.low);
              less = omega (arith, w.less, took.1);
              long = ap length took.2 ∙ length_put out (d.length - left) v.bytes ∙ w.long;
              fault = ap (λ x. x.fault) q ∙ ap (λ x. x.fault) (sym e) ∙ w.fault;
              spot = ap (λ x. x.index) q ∙ ap (λ x. x.index) (sym e) ∙ w.spot;
              rest = ap (λ x. x.left) q ∙ ap (λ x. x.left) (sym e) ∙ w.rest;
              bytes =
                  ap (λ x. put after (d.length - rest) x.bytes) q
                  ∙ ap (λ o. put o (d.length - rest) onward.bytes) took.2
                  ∙ ap (λ a. put (put out (d.length - left) v.bytes) a onward.bytes) at
                  ∙ put_put out (d.length - left) v.bytes onward.bytes
                  ∙ ap (λ x. put out (d.length - left) x.bytes) (sym e)
                  ∙ w.bytes;
            }
