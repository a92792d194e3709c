-- A chain without fault: the tables that its record leads to, and that its bytes are what their blocks give, one after the other.
-- Assumes nothing.
use Prim.Native.Nat.{ℕ, zero, suc, ◌+◌, ◌*◌, ◌-◌, ◌≤◌}
use native.Mathlib.Nat.{suc-ne-zero, add-zero}
use native.Mathlib.Omega.{arith}
use mathlib.Core.Path.{◌≡◌, refl, sym, ap, ◌∙◌}
use mathlib.Core.Logic.{◌↔◌, inl, inr}
use mathlib.Core.List.{List, [], ◌∷◌, ◌++◌, append_assoc}
use mathlib.Core.Bool.{Bool, true, not}
use lib.Dec.{eqb}
use lib.ListN.{length}
use borrow.Author.Tests.{leb-true, eqb-false, le-leb, ne_eqb, not-true}
use Rattle.answer.specs.Search.{In, Pairwise}
use Rattle.answer.proofs.Tests.{test, not_both, same?, in_left, in_right, in_snoc}
use Rattle.answer.proofs.Search.{passed, pass, any_none}
use Rattle.storage.specs.Tables.{linked_at, is_there, linked_bytes, next_table, block_ref, link_fault, table_fault, never_written, linked_block_fault, block_bytes}
use Rattle.storage.specs.Elements.{Located, bytes_at}
use Rattle.storage.specs.Walks.{share, blocks_from, tables_from, chain_of}
use Rattle.storage.specs.Given.{entries_of, block_refs, given, left_after, Holds, Sound, Chained, Complete}
use Rattle.std.specs.Prelude.{Ok, Err}
use Rattle.storage.specs.declared.description.Description.{Description}
use Rattle.storage.proofs.Tables.{unwritten_sound, unwritten_gives, written_fault, written_gives}
use Rattle.storage.proofs.Walks.{share_less, blocks_none, blocks_full, blocks_fault, blocks_next, then_stops, then_goes, tables_full, tables_many, tables_fault, tables_next, tables_finish}

-- ---- What blocks give

-- once no bytes are left a block gives none
none_of : (s : List ℕ) (sparse : Bool) (b : ℕ) → block_bytes s sparse b 0 ≡ []
none_of s sparse b = elim (test (never_written sparse b)) [ inl u ↦ unwritten_gives s sparse b 0 u | inr w ↦ written_gives s sparse b 0 w ]

given_none : (s : List ℕ) (d : Description) (index : ℕ) (bs : List ℕ) → given s d index 0 bs ≡ []
unfolding given
given_none s d index [] = refl
given_none s d index (b ∷ bs) =
    let z : share d index 0 ≡ 0 = omega (arith, share_less d index 0) in
    rw (z, none_of s d.sparse b) (given_none s d (index + 1) bs)

left_none : (d : Description) (index : ℕ) (bs : List ℕ) → left_after d index 0 bs ≡ 0
unfolding left_after
left_none d index [] = refl
left_none d index (b ∷ bs) =
    let z : 0 - share d index 0 ≡ 0 = omega arith in
    rw z (left_none d (index + 1) bs)

sound_none : (s : List ℕ) (d : Description) (index left : ℕ) (bs : List ℕ) → left ≡ 0 → Sound s d index left bs
sound_none s d index left [] z = tt
sound_none s d index left (b ∷ bs) z = ((λ l. absurd (omega arith)), sound_none s d (index + 1) (left - share d index left) bs (omega arith))

-- some blocks, then others
given_append : (s : List ℕ) (d : Description) (index left : ℕ) (xs ys : List ℕ)
    → given s d index left (xs ++ ys) ≡ given s d index left xs ++ given s d (index + length xs) (left_after d index left xs) ys
unfolding given left_after
given_append s d index left [] ys = ap (λ i. given s d i left ys) (sym (add-zero index))
given_append s d index left (x ∷ xs) ys =
    let n = share d index left in
    let i : index + 1 + length xs ≡ index + suc (length xs) = omega arith in
    ap (λ l. block_bytes s d.sparse x n ++ l) (given_append s d (index + 1) (left - n) xs ys)
    ∙ sym (append_assoc (block_bytes s d.sparse x n) (given s d (index + 1) (left - n) xs) (given s d (index + 1 + length xs) (left_after d (index + 1) (left - n) xs) ys))
    ∙ ap (λ j. block_bytes s d.sparse x n ++ given s d (index + 1) (left - n) xs ++ given s d j (left_after d (index + 1) (left - n) xs) ys) i

left_append : (d : Description) (index left : ℕ) (xs ys : List ℕ) → left_after d index left (xs ++ ys) ≡ left_after d (index + length xs) (left_after d index left xs) ys
unfolding left_after
left_append d index left [] ys = ap (λ i. left_after d i left ys) (sym (add-zero index))
left_append d index left (x ∷ xs) ys =
    let n = share d index left in
    let i : index + 1 + length xs ≡ index + suc (length xs) = omega arith in
    left_append d (index + 1) (left - n) xs ys ∙ ap (λ j. left_after d j (left_after d (index + 1) (left - n) xs) ys) i

sound_append : (s : List ℕ) (d : Description) (index left : ℕ) (xs ys : List ℕ)
    → Sound s d index left (xs ++ ys) ↔ (Sound s d index left xs × Sound s d (index + length xs) (left_after d index left xs) ys)
unfolding left_after
sound_append s d index left [] ys = ((λ h. (tt, rw add-zero h)), (λ h. rw add-zero at h.1))
sound_append s d index left (x ∷ xs) ys =
    let n = share d index left in
    let i : index + 1 + length xs ≡ index + suc (length xs) = omega arith in
    let r = sound_append s d (index + 1) (left - n) xs ys in (
      (λ h. let q = r.0 h.1 in ((h.0, q.0), rw (← i) q.1)),
      (λ h. (h.0.0, r.1 (h.0.1, rw (← i) at h.1))),
    )

-- ---- The blocks of a table

-- what a block without fault keeps
block_kept : (s : List ℕ) (sparse : Bool) (b count : ℕ) → linked_block_fault s sparse b count ≡ 0 → Holds s sparse b count
unfolding link_fault
block_kept s sparse b count e =
    elim (test (never_written sparse b)) [
      | inl u ↦ inl u
      | inr w ↦ let h = passed _ _ _ (sym (written_fault s sparse b count w) ∙ e) in inr (h.0, leb-true _ _ (passed _ _ _ h.1).0)
    ]

kept_block : (s : List ℕ) (sparse : Bool) (b count : ℕ) → Holds s sparse b count → linked_block_fault s sparse b count ≡ 0
unfolding link_fault
kept_block s sparse b count h =
    elim (test (never_written sparse b)) [
      | inl u ↦ unwritten_sound s sparse b count u
      | inr w ↦ elim h [
        | inl u ↦ absurd (not_both (never_written sparse b) w u)
        | inr k ↦ written_fault s sparse b count w ∙ pass _ _ _ k.0 (pass _ _ _ (le-leb count (length (linked_bytes s b)) k.1) refl)
      ]
    ]

length_entries : (t : List ℕ) (k entry : ℕ) → length (entries_of t k entry) ≡ k
unfolding entries_of
length_entries t zero entry = refl
length_entries t (suc k) entry = ap suc (length_entries t k (entry + 1))

blocks_given : (s : List ℕ) (d : Description) (t : List ℕ) (k entry index left : ℕ) → (blocks_from s d t k entry index left).fault ≡ 0
    → ((blocks_from s d t k entry index left).bytes ≡ given s d index left (entries_of t k entry))
    × ((blocks_from s d t k entry index left).left ≡ left_after d index left (entries_of t k entry))
    × Sound s d index left (entries_of t k entry)
unfolding given left_after entries_of
blocks_given s d t zero entry index left e = let w = blocks_none s d t entry index left in (ap (λ x. x.bytes) w, ap (λ x. x.left) w, tt)
blocks_given s d t (suc k) entry index left e =
    elim (same? left 0) [
      | inl z ↦
          let w = blocks_full s d t entry index left (suc k) z in
          let bs = entries_of t (suc k) entry in (
            ap (λ x. x.bytes) w ∙ sym (ap (λ n. given s d index n bs) z ∙ given_none s d index bs),
            ap (λ x. x.left) w ∙ z ∙ sym (ap (λ n. left_after d index n bs) z ∙ left_none d index bs),
            sound_none s d index left bs z,
          )
      | inr z ↦ elim (same? (linked_block_fault s d.sparse (block_ref t entry) (share d index left)) 0) [
        | inr f ↦ absurd (f (ap (λ x. x.fault) (sym (blocks_fault s d t entry index left k z f)) ∙ e))
        | inl q ↦
            let n = share d index left in
            let w = blocks_next s d t entry index left k z q in
            let h = blocks_given s d t k (entry + 1) (index + 1) (left - n) (ap (λ x. x.fault) (sym w) ∙ e) in
            (ap (λ x. x.bytes) w ∙ ap (λ l. block_bytes s d.sparse (block_ref t entry) n ++ l) h.0, ap (λ x. x.left) w ∙ h.1, ((λ l. block_kept s d.sparse (block_ref t entry) n q), h.2))
      ]
    ]

sound_blocks : (s : List ℕ) (d : Description) (t : List ℕ) (k entry index left : ℕ) → Sound s d index left (entries_of t k entry)
    → (blocks_from s d t k entry index left).fault ≡ 0
unfolding entries_of
sound_blocks s d t zero entry index left h = ap (λ x. x.fault) (blocks_none s d t entry index left)
sound_blocks s d t (suc k) entry index left h =
    elim (same? left 0) [
      | inl z ↦ ap (λ x. x.fault) (blocks_full s d t entry index left (suc k) z)
      | inr z ↦
          ap (λ x. x.fault) (blocks_next s d t entry index left k z (kept_block s d.sparse (block_ref t entry) (share d index left) (h.0 (omega arith))))
          ∙ sound_blocks s d t k (entry + 1) (index + 1) (left - share d index left) h.1
    ]

-- ---- The tables

-- what a table without fault keeps
table_kept : (s : List ℕ) (d : Description) (before : List ℕ) (ref : ℕ) → table_fault s d before ref ≡ 0
    → ((t : ℕ) → In t before → ref ≡ t → ⊥) × (2 + 2 * d.entries ≤ length (linked_bytes s ref))
unfolding table_fault link_fault
table_kept s d before ref e =
    let h = passed _ _ _ e in
    let g = passed _ _ _ (passed _ _ _ h.1).1 in
    ((λ t i. eqb-false ref t ((any_none (eqb ref) before).0 (not-true _ h.0) t i)), leb-true _ _ g.0)

kept_table : (s : List ℕ) (d : Description) (before : List ℕ) (ref : ℕ) → ((t : ℕ) → In t before → ref ≡ t → ⊥)
    → 2 + 2 * d.entries ≤ length (linked_bytes s ref) → table_fault s d before ref ≡ 0
unfolding table_fault link_fault linked_bytes
kept_table s d before ref fresh whole =
    pass _ _ _ (ap not ((any_none (eqb ref) before).1 (λ t i. ne_eqb ref t (fresh t i))))
    (pass _ _ _ (there (linked_at s ref) whole) (pass _ _ _ (le-leb (2 + 2 * d.entries) (length (linked_bytes s ref)) whole) refl))
  where
    there : (h : Located) → 2 + 2 * d.entries ≤ length (bytes_at s h) → is_there h ≡ true
    there (Ok x) w = refl
    there (Err r) w = absurd (omega arith)

abbrev Apart : ℕ → ℕ → Type 0
Apart t u = t ≡ u → ⊥

-- the tables from a reference on, after the tables before
record Lead (s : List ℕ) (d : Description) (k : ℕ) (before : List ℕ) (ref index left : ℕ) (tables : List ℕ) : Type 0 where
  chained : Chained s ref tables
  few : length tables ≤ k
  distinct : Pairwise Apart tables
  fresh : (t u : ℕ) → In t before → In u tables → t ≡ u → ⊥
  whole : (t : ℕ) → In t tables → 2 + 2 * d.entries ≤ length (linked_bytes s t)
  sound : Sound s d index left (block_refs s d tables)
  after : (tables_from s d k before ref index left).left ≡ left_after d index left (block_refs s d tables)
  bytes : (tables_from s d k before ref index left).bytes ≡ given s d index left (block_refs s d tables)

-- where no bytes are left no table is needed
no_table : (s : List ℕ) (d : Description) (k : ℕ) (before : List ℕ) (ref index left : ℕ) → left ≡ 0 → Lead s d k before ref index left []
unfolding given left_after block_refs
no_table s d k before ref index left z =
    record {
      chained = tt;
      few = omega arith;
      distinct = tt;
      fresh = λ t u i j. absurd j;
      whole = λ t i. absurd i;
      sound = tt;
      after = ap (λ x. x.left) (tables_full s d before ref index left k z);
      bytes = ap (λ x. x.bytes) (tables_full s d before ref index left k z);
    }

tables_given : (s : List ℕ) (d : Description) (k : ℕ) (before : List ℕ) (ref index left : ℕ) → (tables_from s d k before ref index left).fault ≡ 0
    → (tables : List ℕ) × Lead s d k before ref index left tables
unfolding given left_after block_refs
tables_given s d zero before ref index left e =
    elim (same? left 0) [
      | inl z ↦ ([], no_table s d 0 before ref index left z)
      | inr z ↦ absurd (suc-ne-zero 26 (ap (λ x. x.fault) (sym (tables_many s d before ref index left z)) ∙ e))
    ]
tables_given s d (suc k) before ref index left e =
    elim (same? left 0) [
      | inl z ↦ ([], no_table s d (suc k) before ref index left z)
      | inr z ↦ elim (same? (table_fault s d before ref) 0) [
        | inr f ↦ absurd (f (ap (λ x. x.fault) (sym (tables_fault s d before ref index left z k f)) ∙ e))
        | inl q ↦
            let t = linked_bytes s ref in
            let es = entries_of t d.entries 0 in
            let v = blocks_from s d t d.entries 0 index left in
            let w = tables_from s d k (before ++ (ref ∷ [])) (next_table t) (index + d.entries) v.left in
            let kept = table_kept s d before ref q in
            elim (same? v.fault 0) [
              | inr f ↦ absurd (f (ap (λ x. x.fault) (sym (tables_next s d before ref index left z k q ∙ then_stops v w f)) ∙ e))
              | inl f ↦
                  let step = tables_next s d before ref index left z k q ∙ then_goes v w f in
                  let r = tables_given s d k (before ++ (ref ∷ [])) (next_table t) (index + d.entries) v.left (ap (λ x. x.fault) (sym step) ∙ e) in
                  let here = blocks_given s d t d.entries 0 index left f in
                  let n = length_entries t d.entries 0 in
                  let i : index + length es ≡ index + d.entries = ap (λ m. index + m) n in
                  let rest : Sound s d (index + length es) (left_after d index left es) (block_refs s d r.0) = rw (i, ← here.1) r.1.sound in (
                    ref ∷ r.0,
                    record {
                      chained = (refl, r.1.chained);
                      few = omega (arith, r.1.few);
                      distinct = ((λ u i. r.1.fresh ref u (in_right ref before (ref ∷ []) (inl refl)) i), r.1.distinct);
                      fresh = λ x u i j h. elim j [ inl g ↦ kept.0 x i (sym (h ∙ g)) | inr j₂ ↦ r.1.fresh x u (in_left x before (ref ∷ []) i) j₂ h ];
                      whole = λ x i. elim i [ inl g ↦ rw g kept.1 | inr j ↦ r.1.whole x j ];
                      sound = (sound_append s d index left es (block_refs s d r.0)).1 (here.2, rest);
                      after =
                          ap (λ x. x.left) step
                          ∙ r.1.after
                          ∙ ap (λ m. left_after d m v.left (block_refs s d r.0)) (sym i)
                          ∙ ap (λ m. left_after d (index + length es) m (block_refs s d r.0)) here.1
                          ∙ sym (left_append d index left es (block_refs s d r.0));
                      bytes =
                          ap (λ x. x.bytes) step
                          ∙ ap (λ l. l ++ w.bytes) here.0
                          ∙ ap (λ l. given s d index left es ++ l) r.1.bytes
                          ∙ ap (λ m. given s d index left es ++ given s d m v.left (block_refs s d r.0)) (sym i)
                          ∙ ap (λ m. given s d index left es ++ given s d (index + length es) m (block_refs s d r.0)) here.1
                          ∙ sym (given_append s d index left es (block_refs s d r.0));
                    },
                  )
            ]
      ]
    ]

-- tables that keep the rules, and whose blocks do, are walked without fault
sound_tables : (s : List ℕ) (d : Description) (tables : List ℕ) (k : ℕ) (before : List ℕ) (ref index left : ℕ)
    → Chained s ref tables → length tables ≤ k → Pairwise Apart tables → ((t u : ℕ) → In t before → In u tables → t ≡ u → ⊥)
    → ((t : ℕ) → In t tables → 2 + 2 * d.entries ≤ length (linked_bytes s t))
    → Sound s d index left (block_refs s d tables) → left_after d index left (block_refs s d tables) ≡ 0
    → (tables_from s d k before ref index left).fault ≡ 0
unfolding left_after block_refs
sound_tables s d [] k before ref index left chained few distinct fresh whole sound all =
    ap (λ x. x.fault) (tables_full s d before ref index left k all)
sound_tables s d (t ∷ ts) zero before ref index left chained few distinct fresh whole sound all = absurd (omega arith)
sound_tables s d (t ∷ ts) (suc k) before ref index left chained few distinct fresh whole sound all =
    rw (← chained.0) (elim (same? left 0) [
      | inl z ↦ ap (λ x. x.fault) (tables_full s d before t index left (suc k) z)
      | inr z ↦
          let es = entries_of (linked_bytes s t) d.entries 0 in
          let v = blocks_from s d (linked_bytes s t) d.entries 0 index left in
          let w = tables_from s d k (before ++ (t ∷ [])) (next_table (linked_bytes s t)) (index + d.entries) v.left in
          let q = kept_table s d before t (λ u i e. fresh u t i (inl refl) (sym e)) (whole t (inl refl)) in
          let parts = (sound_append s d index left es (block_refs s d ts)).0 sound in
          let f = sound_blocks s d (linked_bytes s t) d.entries 0 index left parts.0 in
          let here = blocks_given s d (linked_bytes s t) d.entries 0 index left f in
          let i : index + length es ≡ index + d.entries = ap (λ m. index + m) (length_entries (linked_bytes s t) d.entries 0) in
          let rest : Sound s d (index + d.entries) v.left (block_refs s d ts) = rw (here.1, ← i) parts.1 in
          let end : left_after d (index + d.entries) v.left (block_refs s d ts) ≡ 0 =
          rw (here.1, ← i) (sym (left_append d index left es (block_refs s d ts)) ∙ all) in
          let apart : (x u : ℕ) → In x (before ++ (t ∷ [])) → In u ts → x ≡ u → ⊥ =
          λ x u j m e. elim (in_snoc x before t j) [ inl a ↦ fresh x u a (inr m) e | inr a ↦ distinct.0 u m (sym a ∙ e) ] in
          ap (λ x. x.fault) (tables_next s d before t index left z k q ∙ then_goes v w f)
          ∙ sound_tables s d ts k (before ++ (t ∷ [])) (next_table (linked_bytes s t)) (index + d.entries) v.left
          chained.1 (omega arith) distinct.1 apart (λ x j. whole x (inr j)) rest end
    ])

-- ---- The whole chain

pub chain_given : (s : List ℕ) (d : Description) → (chain_of s d).fault ≡ 0
    → (tables : List ℕ) × Complete s d tables × ((chain_of s d).bytes ≡ given s d 0 d.length (block_refs s d tables))
unfolding chain_of
chain_given s d e =
    let r = tables_given s d 256 [] d.table 0 d.length e in (
      r.0,
      record {
        tables_of = record { chained = r.1.chained; few = r.1.few; distinct = r.1.distinct; whole = r.1.whole };
        sound = r.1.sound;
        all = sym r.1.after ∙ tables_finish s d 256 [] d.table 0 d.length e;
      },
      r.1.bytes,
    )

pub chain_complete : (s : List ℕ) (d : Description) (tables : List ℕ) → Complete s d tables → (chain_of s d).fault ≡ 0
unfolding chain_of
chain_complete s d tables c =
    let k = c.tables_of in
    sound_tables s d tables 256 [] d.table 0 d.length k.chained k.few k.distinct (λ t u i j e. i) k.whole c.sound c.all
