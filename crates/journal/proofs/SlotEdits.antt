-- An edit of one slot: the file that it makes is framed by the file before, and undo takes it back. Assumes nothing.
use Prim.Native.Nat.{ℕ, ◌+◌, ◌≤◌}
use mathlib.Core.Path.{◌≡◌, refl, ap, ◌∙◌}
use mathlib.Core.Logic.{inl, inr}
use mathlib.Core.List.{List, [], ◌∷◌}
use native.Mathlib.Omega.{arith}
use lib.ListN.{length}
use Rattle.wire.specs.declared.ByteOrder.TheVariants.{BigEndian}
use Rattle.wire.proofs.Numbers.{Same, number_same}
use Rattle.directory.specs.Blocks.{slot_count, next_block}
use Rattle.directory.specs.Slots.{slot_places, slots_of}
use Rattle.answer.specs.Search.{In}
use Rattle.directory.specs.Rules.{Linked, Kept}
use Rattle.directory.proofs.Rules.{chain_kept, kept_blocks, kept_opens}
use Rattle.journal.specs.Trailers.{slot_size, Author}
use Rattle.journal.specs.Edits.{slot_edit}
use Rattle.journal.proofs.Spacing.{slot_block, slot_inside, slots_two, header_clear}
use Rattle.journal.proofs.Frames.{slot_same, places_same, blocks_same, Framed}
use Rattle.journal.proofs.Written.{Writes}
use Rattle.journal.proofs.Changes.{changed, slot_known, changed_undone}

-- ---- The chain stays

linked_same : (s t bs : List ℕ) → ((b : ℕ) → In b bs → next_block t b ≡ next_block s b) → Linked s bs → Linked t bs
linked_same s t [] h l = l
linked_same s t (b ∷ []) h l = h b (inl refl) ∙ l
linked_same s t (b ∷ (c ∷ bs)) h l = (h b (inl refl) ∙ l.0, linked_same s t (c ∷ bs) (λ d i. h d (inr i)) l.1)

-- ---- A file with other bytes at the slot, and more behind

module _ (s bs : List ℕ) (k : Kept s bs) (q : ℕ) (here : In q (slot_places s bs)) (t : List ℕ) (grown : length s ≤ length t)
    (low : Same s t 0 q) (high : Same s t (q + slot_size) (length s)) where
  header_same : (b : ℕ) → In b bs → Same s t b (b + 6)
  header_same b i =
      elim (header_clear s bs (chain_kept s bs k).blocks q b here i) [
        | inl h ↦ λ j l u. low j (omega arith) (omega arith)
        | inr h ↦ λ j l u. high j (omega arith) (omega (arith, k.inside b i))
      ]

  count_same : (b : ℕ) → In b bs → slot_count t b ≡ slot_count s b
  count_same b i = number_same BigEndian 2 s t b (λ j l u. header_same b i j l (omega arith))

  next_same : (b : ℕ) → In b bs → next_block t b ≡ next_block s b
  next_same b i = number_same BigEndian 4 s t (b + 2) (λ j l u. header_same b i j (omega arith) (omega arith))

  places_are : slot_places t bs ≡ slot_places s bs
  places_are = places_same s t bs count_same

  slot_stays : (p : ℕ) → In p (slot_places s bs) → (p ≡ q → ⊥) → Same s t p (p + slot_size)
  slot_stays p i n =
      let r = slot_inside s bs (chain_kept s bs k).blocks p i in
      elim (slots_two s bs (chain_kept s bs k).blocks p q i here n) [
        | inl h ↦ λ j l u. low j (omega arith) (omega arith)
        | inr h ↦ λ j l u. high j (omega arith) (omega arith)
      ]

  slot_framed : Framed s bs t bs q
  slot_framed =
      let r = slot_inside s bs (chain_kept s bs k).blocks q here in
      let b = slot_block s bs q here in
      record {
        grown = grown;
        header = number_same BigEndian 4 s t 0 (λ j l u. low j l (omega arith));
        chain = record {
          first = k.first;
          linked = linked_same s t bs next_same k.linked;
          blocks = blocks_same s t bs grown count_same (chain_kept s bs k).blocks;
        };
        blocks = λ c i. inl (i, rw (count_same c i));
        stays = λ p i n. (rw places_are i, slot_same s t p (slot_stays p i n));
        others = λ p i l n. rw places_are at i;
        off = λ a e n h. elim (h b.0 b.1) [
          | inl m ↦ λ j l u. low j (omega arith) (omega arith)
          | inr m ↦ λ j l u. high j (omega arith) (omega arith)
        ];
      }

-- ---- The edit

module _ (author : Author) (s bs : List ℕ) (k : Kept s bs) (q : ℕ) (here : In q (slot_places s bs)) (slot content : List ℕ) (n : length slot ≡ slot_size) where
  pub slot_edit_writes : Writes author s bs (slot_edit s author q slot content) bs q slot content (length s) q slot_size
  unfolding slots_of slot_edit
  slot_edit_writes =
      let t = slot_edit s author q slot content in
      let r = slot_inside s bs (chain_kept s bs k).blocks q here in
      let made = changed s author q slot_size slot content n r.1 k.short (omega arith) in
      let c = made.0 in
      let grown : length s ≤ length t = omega (arith, c.size) in
      let same : slot_places t bs ≡ slot_places s bs = places_are s bs k q here t grown c.low c.high in
      record {
        framed = slot_framed s bs k q here t grown c.low c.high;
        here = rw same here;
        slot_held = made.1;
        content_held = c.more;
        size = c.size;
        besides = λ p i n. inl (rw same at i);
        low = c.low;
        high = c.high;
        after_header = k.headed.0;
        past = λ b i. omega (arith, count_same s bs k q here t grown c.low c.high b i, k.inside b i);
        ending = λ all is. c.ending all is (omega arith);
        back = λ all is before m.
            changed_undone s author q slot_size content t c r.1 (inl refl) all is (omega arith) before (ap (λ a. a.number) (kept_opens t bs m))
            (slot_known s author t q (rw (kept_blocks t bs m, same) here));
      }
