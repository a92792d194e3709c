-- Slots and blocks as edits write them: their lengths, the offset of data, and fields that are written one after the other. Assumes nothing.
use Prim.Native.Nat.{ℕ, zero, suc, ◌+◌, ◌*◌}
use native.Mathlib.Nat.{add_assoc}
use native.Mathlib.Numerals.{add-one}
use native.Mathlib.Omega.{arith}
use mathlib.Core.Path.{◌≡◌, refl, sym, ap, ◌∙◌}
use mathlib.Core.List.{List, [], ◌∷◌, ◌++◌, append_assoc, append-nil}
use lib.ListN.{length, length-append}
use Rattle.wire.specs.Numbers.{bytes, put}
use Rattle.wire.proofs.Numbers.{length_bytes, put_put}
use Rattle.wire.proofs.Layouts.{put_field}
use Rattle.directory.specs.Limits.{free_tag}
use Rattle.journal.specs.Trailers.{slot_size}
use Rattle.journal.specs.Edits.{block_slots, block_size, slot_bytes, free_slot, free_slots, new_block, data_offset, data_slot}

-- ---- Lengths

pub length_slot : (tag ref offset size : ℕ) → length (slot_bytes tag ref offset size) ≡ slot_size
unfolding slot_bytes
length_slot tag ref offset size = simp (length-append, length_bytes)

pub length_data : (tag ref : ℕ) (content : List ℕ) (at : ℕ) → length (data_slot tag ref content at) ≡ slot_size
unfolding data_slot
length_data tag ref content at = length_slot tag ref (data_offset content at) (length content)

pub length_free : length free_slot ≡ slot_size
unfolding free_slot
length_free = length_slot free_tag 0 0 0

length_frees : (k : ℕ) → length (free_slots k) ≡ slot_size * k
unfolding free_slots
length_frees zero = refl
length_frees (suc k) = length-append free_slot (free_slots k) ∙ rw (length_free, length_frees k) (omega arith)

pub length_block : (slot : List ℕ) → length slot ≡ slot_size → length (new_block slot) ≡ block_size
unfolding new_block
length_block slot n = simp (length-append, length_bytes, n, length_frees)

-- ---- The offset of data

pub offset_empty : (content : List ℕ) (at : ℕ) → length content ≡ 0 → data_offset content at ≡ 0
unfolding data_offset
offset_empty [] at e = refl
offset_empty (x ∷ xs) at e = absurd (omega arith)

pub offset_full : (content : List ℕ) (at : ℕ) → (length content ≡ 0 → ⊥) → data_offset content at ≡ at
unfolding data_offset
offset_full [] at h = absurd (h refl)
offset_full (x ∷ xs) at h = refl

-- ---- Fields, one after the other

-- one field more, at the end of a run of k bytes
field : (l : List ℕ) (at k : ℕ) (run v : List ℕ) {l₁ l₂ : List ℕ} → length run ≡ k → l₁ ≡ put l at run → l₂ ≡ put l₁ (at + k) v → l₂ ≡ put l at (run ++ v)
field l at k run v n e₁ e₂ = e₂ ∙ rw (e₁, ← n) (put_put l at run v)

pub slot_run : (l : List ℕ) (at tag ref offset size : ℕ) {l₁ l₂ l₃ l₄ : List ℕ} → l₁ ≡ put l at (bytes 2 tag) → l₂ ≡ put l₁ (at + 2) (bytes 2 ref)
    → l₃ ≡ put l₂ (at + 4) (bytes 4 offset) → l₄ ≡ put l₃ (at + 8) (bytes 4 size) → l₄ ≡ put l at (slot_bytes tag ref offset size)
unfolding slot_bytes
slot_run l at tag ref offset size e₁ e₂ e₃ e₄ = rw (e₄, e₃, e₂, e₁) (simp (append_assoc, put_field, add_assoc))

free_snoc : (k : ℕ) → free_slots k ++ free_slot ≡ free_slots (suc k)
unfolding free_slots
free_snoc zero = sym (append-nil free_slot)
free_snoc (suc k) = append_assoc free_slot (free_slots k) free_slot ∙ ap (λ x. free_slot ++ x) (free_snoc k)

pub free_more : (l : List ℕ) (at i : ℕ) {l₁ l₂ : List ℕ} → l₁ ≡ put l at (free_slots i) → l₂ ≡ put l₁ (at + slot_size * i) (slot_bytes free_tag 0 0 0) → l₂ ≡ put l at (free_slots (i + 1))
unfolding free_slot
free_more l at i e₁ e₂ =
    field l at (slot_size * i) (free_slots i) (slot_bytes free_tag 0 0 0) (length_frees i) e₁ e₂ ∙ ap (put l at) (free_snoc i ∙ ap free_slots (sym (add-one i)))

pub block_run : (l : List ℕ) (at : ℕ) (slot : List ℕ) {l₁ l₂ l₃ l₄ : List ℕ} → length slot ≡ slot_size → l₁ ≡ put l at (bytes 2 block_slots)
    → l₂ ≡ put l₁ (at + 2) (bytes 4 0) → l₃ ≡ put l₂ (at + 6) slot → l₄ ≡ put l₃ (at + 18) (free_slots 15) → l₄ ≡ put l at (new_block slot)
unfolding new_block
block_run l at slot {l₁} {l₂} n e₁ e₂ e₃ e₄ =
    let f₂ : l₂ ≡ put l at (bytes 2 block_slots ++ bytes 4 0) = rw (e₂, e₁) (simp put_field) in
    let f₃ = field l at 6 (bytes 2 block_slots ++ bytes 4 0) slot (simp (length-append, length_bytes)) f₂ e₃ in
    field l at 18 (bytes 2 block_slots ++ bytes 4 0 ++ slot) (free_slots 15) (simp (length-append, length_bytes, n)) f₃ e₄
