-- An image in which one slot, and nothing else that opening reads, differs from an image that opens: it opens where that slot keeps the rules.
-- Assumes nothing.
use Prim.Native.Nat.{ℕ, ◌+◌, ◌≤◌, ◌<◌}
use mathlib.Core.Path.{◌≡◌, refl, sym, ◌∙◌}
use mathlib.Core.Logic.{◌↔◌, ◌⊎◌, inl, inr}
use mathlib.Core.List.{List, [], ◌∷◌}
use native.Mathlib.Omega.{arith}
use lib.ListN.{length}
use Rattle.wire.specs.Numbers.{be}
use Rattle.wire.specs.declared.ByteOrder.TheVariants.{BigEndian}
use Rattle.wire.proofs.Numbers.{Same, number_same}
use Rattle.directory.specs.Limits.{most_bytes}
use Rattle.directory.specs.Blocks.{slot_count, block_end}
use Rattle.directory.specs.Slots.{tag_at, ref_at, offset_at, size_at, slot_places}
use Rattle.answer.specs.Search.{In}
use Rattle.directory.specs.Rules.{Apart, Live, Unstored, ElementKept, Clashing, Kept}
use Rattle.answer.proofs.Tests.{same?, pairwise_in}
use Rattle.directory.proofs.Slots.{unstored_same, size_same}
use Rattle.directory.proofs.Rules.{Unclashing, clashing_sym, BlocksKept, ChainKept}
use Rattle.journal.specs.Trailers.{slot_size}
use Rattle.journal.proofs.Spacing.{pairwise_all, pairwise_map, slots_distinct}

-- ---- What reads the same

pub record SlotSame (s t : List ℕ) (p : ℕ) : Type 0 where
  pub tag : tag_at t p ≡ tag_at s p
  pub ref : ref_at t p ≡ ref_at s p
  pub offset : offset_at t p ≡ offset_at s p
  pub unstored : Unstored t p ↔ Unstored s p
  pub size : size_at t p ≡ size_at s p
  pub bytes : Same s t p (p + slot_size)

pub slot_same : (s t : List ℕ) (p : ℕ) → Same s t p (p + slot_size) → SlotSame s t p
slot_same s t p h =
    let a = number_same BigEndian 2 s t p (λ i l u. h i l (omega arith)) in
    let o = number_same BigEndian 4 s t (p + 4) (λ i l u. h i (omega arith) (omega arith)) in
    let n = number_same BigEndian 4 s t (p + 8) (λ i l u. h i (omega arith) (omega arith)) in
    record {
      tag = a;
      ref = number_same BigEndian 2 s t (p + 2) (λ i l u. h i (omega arith) (omega arith));
      offset = o;
      unstored = unstored_same s t p a o n;
      size = size_same s t p a o n;
      bytes = h;
    }

pub places_same : (s t bs : List ℕ) → ((b : ℕ) → In b bs → slot_count t b ≡ slot_count s b) → slot_places t bs ≡ slot_places s bs
unfolding slot_places
places_same s t [] h = refl
places_same s t (b ∷ bs) h = rw (h b (inl refl), places_same s t bs (λ c i. h c (inr i)))

-- blocks with the same slot counts keep their rules in a longer image
pub blocks_same : (s t bs : List ℕ) → length s ≤ length t → ((b : ℕ) → In b bs → slot_count t b ≡ slot_count s b) → BlocksKept s bs → BlocksKept t bs
blocks_same s t bs n h k =
    record {
      few_blocks = k.few_blocks;
      few_slots = rw (places_same s t bs h) k.few_slots;
      inside = λ b i. omega (arith, h b i, k.inside b i);
      after_header = k.after_header;
      apart =
          pairwise_map (λ b c. Apart b (block_end s b) c (block_end s c)) (λ b c. Apart b (block_end t b) c (block_end t c)) bs
          (λ b c i j a. rw (h b i, h c j) a) k.apart;
    }

-- ---- The frame

-- t, whose blocks stand at cs, has the slots of s but for the one at q, perhaps free ones besides, and the bytes of s off its blocks
pub record Framed (s bs t cs : List ℕ) (q : ℕ) : Type 0 where
  pub grown : length s ≤ length t
  pub header : be 4 t 0 ≡ be 4 s 0
  pub chain : ChainKept t cs
  pub blocks : (b : ℕ) → In b cs → (In b bs × (block_end t b ≡ block_end s b)) ⊎ (length s ≤ b)
  pub stays : (p : ℕ) → In p (slot_places s bs) → (p ≡ q → ⊥) → In p (slot_places t cs) × SlotSame s t p
  pub others : (p : ℕ) → In p (slot_places t cs) → Live t p → (p ≡ q → ⊥) → In p (slot_places s bs)
  pub off : (a e : ℕ) → e ≤ length s → ((b : ℕ) → In b bs → Apart a e b (block_end s b)) → Same s t a e

module _ (s bs t cs : List ℕ) (q : ℕ) (k : Kept s bs) (f : Framed s bs t cs q) where
  -- a slot that stays keeps its rules
  element_stays : (p : ℕ) → In p (slot_places s bs) → (p ≡ q → ⊥) → Live t p → ElementKept t cs p
  element_stays p i n l =
      let e = (f.stays p i n).1 in
      let w : Live s p = rw e.tag at l in
      let o = k.elements p i w in
      let z : 0 < size_at t p → 0 < size_at s p = rw e.size (λ h. h) in
      record {
        tag = rw e.tag o.tag;
        not_free = rw e.tag o.not_free;
        inside = λ h. rw (e.offset, e.size) (omega (arith, o.inside (z h), f.grown));
        after_header = λ h. rw e.offset (o.after_header (z h));
        off_blocks = λ h b j. rw (e.offset, e.size) (elim (f.blocks b j) [
          | inl m ↦ rw m.1 (o.off_blocks (z h) b m.0)
          | inr m ↦ inl (omega (arith, o.inside (z h)))
        ]);
      }

  -- two slots that stay do not clash
  two_stay : (p r : ℕ) → In p (slot_places s bs) → In r (slot_places s bs) → (p ≡ r → ⊥) → (p ≡ q → ⊥) → (r ≡ q → ⊥) → Unclashing t p r
  two_stay p r i j d n m =
      let e = (f.stays p i n).1 in
      let g = (f.stays r j m).1 in
      let turn : (x y : ℕ) → Unclashing s x y → Unclashing s y x = λ x y u a b c. u b a (clashing_sym s y x c) in
      rw (e.tag, e.ref, g.tag, g.ref) (pairwise_in (Unclashing s) turn (slot_places s bs) k.distinct p r i j d)

  pub framed_kept : length t ≤ most_bytes → (Live t q → ElementKept t cs q)
      → (Live t q → (p : ℕ) → In p (slot_places s bs) → (p ≡ q → ⊥) → Live t p → Clashing t p q → ⊥) → Kept t cs
  framed_kept short fine alone =
      record {
        short = short;
        headed = (omega (arith, k.headed.0, f.grown), f.header ∙ k.headed.1);
        first = f.chain.first;
        linked = f.chain.linked;
        few_blocks = f.chain.blocks.few_blocks;
        few_slots = f.chain.blocks.few_slots;
        inside = f.chain.blocks.inside;
        after_header = f.chain.blocks.after_header;
        apart = f.chain.blocks.apart;
        elements = λ p i l. elim (same? p q) [ inl e ↦ rw e (fine (rw e at l)) | inr n ↦ element_stays p (f.others p i l n) n l ];
        distinct = pairwise_all (Unclashing t) (slot_places t cs) (slots_distinct t cs f.chain.blocks) two;
      }
    where
      two : (p r : ℕ) → In p (slot_places t cs) → In r (slot_places t cs) → (p ≡ r → ⊥) → Unclashing t p r
      two p r i j n l m c =
          elim (same? p q) [
            | inl e ↦
                let x : r ≡ q → ⊥ = λ g. n (e ∙ sym g) in
                alone (rw e at l) r (f.others r j m x) x m (rw e at (clashing_sym t p r c))
            | inr x ↦ elim (same? r q) [
              | inl g ↦ alone (rw g at m) p (f.others p i l x) x l (rw g at c)
              | inr y ↦ two_stay p r (f.others p i l x) (f.others r j m y) n x y l m c
            ]
          ]
