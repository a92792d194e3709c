-- An edit that appends a block: the file that it makes is framed by the file before, with free slots besides, and undo takes it back.
-- Assumes nothing.
use Prim.Native.Nat.{ℕ, zero, suc, ◌+◌, ◌≤◌, ◌<◌}
use mathlib.Core.Path.{◌≡◌, refl, ap, ◌∙◌}
use mathlib.Core.Logic.{◌⊎◌, inl, inr}
use mathlib.Core.List.{List, [], ◌∷◌, ◌++◌, append_assoc, append-nil}
use native.Mathlib.Omega.{arith}
use lib.ListN.{length, get_or, length-append}
use Rattle.wire.specs.Numbers.{bytes, put}
use Rattle.wire.specs.declared.ByteOrder.TheVariants.{BigEndian}
use Rattle.wire.proofs.Numbers.{Same, Holds, length_bytes, number_same, number_holds}
use Rattle.directory.specs.Limits.{most_blocks, most_slots}
use Rattle.directory.specs.Blocks.{slot_count, next_block, block_end}
use Rattle.directory.specs.Slots.{rows, slot_places}
use Rattle.directory.specs.Links.{last_of}
use Rattle.answer.specs.Search.{In, Pairwise}
use Rattle.directory.specs.Rules.{Apart, Linked, Kept}
use Rattle.answer.proofs.Tests.{in_left, in_right, in_append, in_snoc, same?, pairwise_snoc}
use Rattle.directory.proofs.Blocks.{length_rows, slots_append}
use Rattle.directory.proofs.Rules.{BlocksKept, chain_kept, kept_blocks, kept_opens}
use Rattle.journal.specs.Trailers.{slot_size, link_size, Author}
use Rattle.journal.specs.Edits.{block_slots, block_size, free_slot, free_slots, new_block, block_edit}
use Rattle.journal.proofs.Parts.{holds_left, holds_right, be_last}
use Rattle.journal.proofs.Spacing.{blocks_two, blocks_distinct, slot_inside, header_clear}
use Rattle.journal.proofs.Frames.{slot_same, places_same, blocks_same, Framed}
use Rattle.journal.proofs.Runs.{length_free, length_block}
use Rattle.journal.proofs.Written.{free_reads, Writes}
use Rattle.journal.proofs.Changes.{Changed, changed, next_known, changed_undone}

-- ---- The last block

pub linked_last : (s : List ℕ) (d : ℕ) (bs : List ℕ) → Linked s bs → In (last_of d bs) bs
unfolding last_of
linked_last s d [] l = absurd l
linked_last s d (b ∷ []) l = inl refl
linked_last s d (b ∷ (c ∷ bs)) l = inr (linked_last s b (c ∷ bs) l.1)

pub linked_end : (s : List ℕ) (d : ℕ) (bs : List ℕ) → Linked s bs → next_block s (last_of d bs) ≡ 0
unfolding last_of
linked_end s d [] l = absurd l
linked_end s d (b ∷ []) l = l
linked_end s d (b ∷ (c ∷ bs)) l = linked_end s b (c ∷ bs) l.1

linked_first : (s bs cs : List ℕ) → Linked s bs → get_or (bs ++ cs) 0 0 ≡ get_or bs 0 0
linked_first s [] cs l = absurd l
linked_first s (b ∷ bs) cs l = refl

-- the chain with one more block at e
linked_more : (s t : List ℕ) (d : ℕ) (bs : List ℕ) (e : ℕ) → ((c : ℕ) → In c bs → (c ≡ last_of d bs → ⊥) → next_block t c ≡ next_block s c)
    → next_block t (last_of d bs) ≡ e → next_block t e ≡ 0 → Pairwise (λ b c. b ≡ c → ⊥) bs → Linked s bs → Linked t (bs ++ (e ∷ []))
unfolding last_of
linked_more s t d [] e same last ends p l = absurd l
linked_more s t d (b ∷ []) e same last ends p l = (last, ends)
linked_more s t d (b ∷ (c ∷ bs)) e same last ends p l = (
  same b (inl refl) (λ q. p.0 (last_of c bs) (linked_last s b (c ∷ bs) l.1) q) ∙ l.0,
  linked_more s t b (c ∷ bs) e (λ x i. same x (inr i)) last ends p.1 l.1,
)

-- ---- The new block

frees_held : (t : List ℕ) (a k : ℕ) → Holds t a (free_slots k) → (q : ℕ) → In q (rows a k) → Holds t q free_slot
unfolding free_slots rows
frees_held t a zero h q i = absurd i
frees_held t a (suc k) h q (inl e) = rw e (holds_left t a free_slot (free_slots k) h)
frees_held t a (suc k) h q (inr i) = frees_held t (a + slot_size) k (holds_right t a slot_size free_slot (free_slots k) length_free h) q i

-- a block at e of which the first slot is written and the others are free, and that ends the chain
record BlockReads (t : List ℕ) (e : ℕ) (slot : List ℕ) : Type 0 where
  count : slot_count t e ≡ block_slots
  next : next_block t e ≡ 0
  slot_held : Holds t (e + 6) slot
  others : (q : ℕ) → In q (rows (e + 6 + slot_size) 15) → Holds t q free_slot

block_reads : (t : List ℕ) (e : ℕ) (slot : List ℕ) → length slot ≡ slot_size → Holds t e (new_block slot) → BlockReads t e slot
unfolding new_block
block_reads t e slot n h =
    let t₁ = bytes 2 block_slots in
    let t₂ = t₁ ++ bytes 4 0 in
    let t₃ = t₂ ++ slot in
    let h₃ = holds_left t e t₃ (free_slots 15) h in
    let h₂ = holds_left t e t₂ slot h₃ in
    let h₁ = holds_left t e t₁ (bytes 4 0) h₂ in
    let w : e + 6 + slot_size ≡ e + 18 = omega arith in
    record {
      count = number_holds BigEndian 2 t e block_slots (omega arith) h₁;
      next = be_last 4 t e 2 t₁ 0 (length_bytes BigEndian 2 block_slots) (omega arith) h₂;
      slot_held = holds_right t e 6 t₂ slot (simp (length-append, length_bytes)) h₃;
      others = rw w (frees_held t (e + 18) 15 (holds_right t e 18 t₃ (free_slots 15) (simp (length-append, length_bytes, n)) h));
    }

rows_first : (p k q : ℕ) → In q (rows p (suc k)) → (q ≡ p) ⊎ In q (rows (p + slot_size) k)
unfolding rows
rows_first p k q i = i

first_row : (p k : ℕ) → In p (rows p (suc k))
unfolding rows
first_row p k = inl refl

-- ---- A file with a block behind, linked from the last one

module _ (s bs : List ℕ) (k : Kept s bs) (t slot : List ℕ) (grown : length s + block_size ≤ length t)
    (low : Same s t 0 (last_of 4 bs + 2)) (high : Same s t (last_of 4 bs + 6) (length s)) (link : next_block t (last_of 4 bs) ≡ length s)
    (new : BlockReads t (length s) slot) (few : length bs < most_blocks) (room : length (slot_places s bs) + block_slots ≤ most_slots) where
  last_in : In (last_of 4 bs) bs
  last_in = linked_last s 4 bs k.linked

  -- a block's slot count stays, and its next field but for the last block
  apart_same : (c : ℕ) → In c bs → (c ≡ last_of 4 bs → ⊥) → Same s t c (c + 6)
  apart_same c i n =
      elim (blocks_two s bs (chain_kept s bs k).blocks c (last_of 4 bs) i last_in) [
        | inl e ↦ absurd (n e)
        | inr a ↦ elim a [
          | inl h ↦ λ j l u. low j (omega arith) (omega arith)
          | inr h ↦ λ j l u. high j (omega arith) (omega (arith, k.inside c i))
        ]
      ]

  count_same : (c : ℕ) → In c bs → slot_count t c ≡ slot_count s c
  count_same c i =
      elim (same? c (last_of 4 bs)) [
        | inl e ↦ number_same BigEndian 2 s t c (λ j l u. low j (omega arith) (omega arith))
        | inr n ↦ number_same BigEndian 2 s t c (λ j l u. apart_same c i n j l (omega arith))
      ]

  next_same : (c : ℕ) → In c bs → (c ≡ last_of 4 bs → ⊥) → next_block t c ≡ next_block s c
  next_same c i n = number_same BigEndian 4 s t (c + 2) (λ j l u. apart_same c i n j (omega arith) (omega arith))

  places_are : slot_places t (bs ++ (length s ∷ [])) ≡ slot_places s bs ++ rows (length s + 6) block_slots
  unfolding slot_places
  places_are =
      slots_append t bs (length s ∷ []) ∙ rw (places_same s t bs count_same, new.count, append-nil)

  ten : 10 ≤ length s
  ten = omega (arith, k.inside (last_of 4 bs) last_in, k.after_header (last_of 4 bs) last_in)

  blocks_more : BlocksKept t (bs ++ (length s ∷ []))
  blocks_more =
      let m = blocks_same s t bs (omega arith) count_same (chain_kept s bs k).blocks in
      let end : block_end t (length s) ≡ length s + block_size = rw new.count (omega arith) in
      record {
        few_blocks = omega (arith, length-append bs (length s ∷ []));
        few_slots = rw (places_are, length-append, length_rows) room;
        inside = λ b i. elim (in_snoc b bs (length s) i) [ inl j ↦ m.inside b j | inr e ↦ rw (e, end) grown ];
        after_header = λ b i. elim (in_snoc b bs (length s) i) [ inl j ↦ m.after_header b j | inr e ↦ omega (arith, ten) ];
        apart =
            (pairwise_snoc (λ b c. Apart b (block_end t b) c (block_end t c)) bs (length s)).1
            (m.apart, λ b i. inl (omega (arith, count_same b i, k.inside b i)));
      }

  -- what it has besides the slots of s and the one that is written is free
  besides : (p : ℕ) → In p (slot_places t (bs ++ (length s ∷ []))) → (p ≡ length s + 6 → ⊥) → In p (slot_places s bs) ⊎ Holds t p free_slot
  besides p i n =
      elim (in_append p (slot_places s bs) (rows (length s + 6) block_slots) (rw places_are at i)) [
        | inl j ↦ inl j
        | inr j ↦ elim (rows_first (length s + 6) 15 p j) [ inl e ↦ absurd (n e) | inr h ↦ inr (new.others p h) ]
      ]

  block_framed : Framed s bs t (bs ++ (length s ∷ [])) (length s + 6)
  block_framed =
      let blocks = (chain_kept s bs k).blocks in
      let b = last_of 4 bs in
      let after = k.after_header b last_in in
      record {
        grown = omega arith;
        header = number_same BigEndian 4 s t 0 (λ j l u. low j l (omega arith));
        chain = record {
          first = linked_first s bs (length s ∷ []) k.linked ∙ k.first;
          linked = linked_more s t 4 bs (length s) next_same link new.next (blocks_distinct s bs blocks) k.linked;
          blocks = blocks_more;
        };
        blocks = λ c i. elim (in_snoc c bs (length s) i) [ inl j ↦ inl (j, rw (count_same c j)) | inr e ↦ inr (omega arith) ];
        stays = λ p i n. (
          rw places_are (in_left p (slot_places s bs) (rows (length s + 6) block_slots) i),
          let r = slot_inside s bs blocks p i in
              slot_same s t p (elim (header_clear s bs blocks p b i last_in) [
                | inl h ↦ λ j l u. high j (omega arith) (omega arith)
                | inr h ↦ λ j l u. low j (omega arith) (omega arith)
              ]),
        );
        others = λ p i l n. elim (besides p i n) [ inl j ↦ j | inr h ↦ absurd (l (free_reads t p h).tag_is) ];
        off = λ a e n h. elim (h b last_in) [
          | inl m ↦ λ j l u. low j (omega arith) (omega arith)
          | inr m ↦ λ j l u. high j (omega arith) (omega arith)
        ];
      }

-- ---- The edit

module _ (author : Author) (s bs : List ℕ) (k : Kept s bs) (slot content : List ℕ) (n : length slot ≡ slot_size)
    (few : length bs < most_blocks) (room : length (slot_places s bs) + block_slots ≤ most_slots) where
  pub block_edit_writes : let t = block_edit s author (last_of 4 bs) (new_block slot) content in
      Writes author s bs t (bs ++ (length s ∷ [])) (length s + 6) slot content (length s + block_size) (last_of 4 bs + 2) link_size
  unfolding block_edit
  block_edit_writes =
      let b = last_of 4 bs in
      let t = block_edit s author b (new_block slot) content in
      let last = linked_last s 4 bs k.linked in
      let inside : b + 2 + link_size ≤ length s = omega (arith, k.inside b last) in
      let made : Changed s author (b + 2) link_size (new_block slot ++ content) t × Holds t (b + 2) (bytes 4 (length s)) =
      rw (append_assoc (put s (b + 2) (bytes 4 (length s))) (new_block slot) content)
      (changed s author (b + 2) link_size (bytes 4 (length s)) (new_block slot ++ content) (length_bytes BigEndian 4 (length s)) inside k.short (omega arith)) in
      let c = made.0 in
      let more : length (new_block slot ++ content) ≡ block_size + length content =
      length-append (new_block slot) content ∙ rw (length_block slot n) in
      let grown : length s + block_size ≤ length t = omega (arith, c.size) in
      let high : Same s t (b + 6) (length s) = λ j l u. c.high j (omega arith) u in
      let link : next_block t b ≡ length s = number_holds BigEndian 4 t (b + 2) (length s) (omega (arith, k.short)) made.1 in
      let new : BlockReads t (length s) slot = block_reads t (length s) slot n (holds_left t (length s) (new_block slot) content c.more) in
      let same = places_are s bs k t slot grown c.low high link new few room in
      record {
        framed = block_framed s bs k t slot grown c.low high link new few room;
        here = rw same (in_right (length s + 6) (slot_places s bs) (rows (length s + 6) block_slots) (first_row (length s + 6) 15));
        slot_held = new.slot_held;
        content_held = holds_right t (length s) block_size (new_block slot) content (length_block slot n) c.more;
        size = omega (arith, c.size);
        besides = besides s bs k t slot grown c.low high link new few room;
        low = c.low;
        high = c.high;
        after_header = omega (arith, k.headed.0);
        past = λ d i. elim (in_snoc d bs (length s) i) [
          | inl j ↦ omega (arith, count_same s bs k t slot grown c.low high link new few room d j, k.inside d j)
          | inr e ↦ rw (e, new.count) (omega arith)
        ];
        ending = λ all is. c.ending all is (omega (arith, k.inside b last, k.after_header b last));
        back = λ all is before m.
            changed_undone s author (b + 2) link_size (new_block slot ++ content) t c inside (inr refl) all is
            (omega (arith, k.inside b last, k.after_header b last)) before
            (ap (λ a. a.number) (kept_opens t (bs ++ (length s ∷ [])) m))
            (next_known s author t b (rw (kept_blocks t (bs ++ (length s ∷ [])) m) (in_left b bs (length s ∷ []) last)));
      }
