-- The buffer that an edit's writes leave: the new file laid over its front. Assumes nothing.
use Prim.Native.Nat.{ℕ, ◌+◌, ◌≤◌}
use native.Mathlib.Omega.{arith}
use mathlib.Core.Path.{◌≡◌, sym, ap, ◌∙◌}
use mathlib.Core.List.{List, ◌++◌, append_assoc}
use lib.ListN.{length, take, drop, length-append}
use lib.Seq.{length-take-le}
use Rattle.std.specs.Prelude.{Ok, Err}
use Rattle.answer.specs.Refusals.{number_of}
use Rattle.answer.specs.declared.refusals.Rule.{Rule}
use Rattle.wire.specs.Numbers.{bytes, put}
use Rattle.wire.specs.declared.ByteOrder.TheVariants.{BigEndian}
use Rattle.wire.proofs.Numbers.{length_bytes, length_put, put_put, put_split, put_append}
use Rattle.journal.specs.Trailers.{form_size, slot_size, link_size, trailer_bytes, named, change_at, trailer_of}
use Rattle.journal.specs.Edits.{block_size, slot_bytes, data_offset, data_slot, new_block, slot_edit, block_edit, fit_fault, fitted}
use Rattle.journal.specs.Buffers.{Leaves}
use Rattle.journal.specs.Steps.Changes.{slot_in, block_in}
use Rattle.journal.specs.declared.change.Change.{Change}
use Rattle.journal.specs.declared.change.Form.TheVariants.{Long}
use Rattle.journal.proofs.Outcomes.{fits, fitted_there, fitted_fault}
use Rattle.journal.proofs.Trailers.{length_trailer}
use Rattle.journal.proofs.Runs.{length_data, length_block}
use Rattle.journal.proofs.Buffers.{refuses, grants}

-- ---- A file that is the image with vs at p, and a tail

module _ (l : List ℕ) (n p : ℕ) (vs tail file : List ℕ) (fit : n ≤ length l) (inside : p + length vs ≤ n) (e : file ≡ put (take n l) p vs ++ tail) where
  long : length (take n l) ≡ n
  long = length-take-le n l fit

  file_long : length file ≡ n + length tail
  file_long = ap length e ∙ length-append (put (take n l) p vs) tail ∙ ap (λ x. x + length tail) (length_put (take n l) p vs ∙ long)

  laid_file : n + length tail ≤ length l → put (put l n tail) p vs ≡ file ++ drop (length file) l
  laid_file room =
      let d = drop (n + length tail) l in
      let m = long in
      ap (λ x. put x p vs) (put_split l n tail room ∙ append_assoc (take n l) tail d)
      ∙ put_append (take n l) (tail ++ d) p vs (omega arith)
      ∙ sym (append_assoc (put (take n l) p vs) tail d) ∙ rw (file_long, ← e)

  module _ (size : ℕ) (is : n + length tail ≡ size) where
    tail_refused : (r : Rule) → number_of r ≡ fit_fault (length l) size → Leaves (fitted (length l) file) l l (Err (record { rule = r; place = 0 }))
    tail_refused r q = refuses l (record { rule = r; place = 0 }) (fitted_fault (length l) file size (file_long ∙ is) r q)

    tail_granted : fit_fault (length l) size ≡ 0 → (after : List ℕ) → after ≡ put (put l n tail) p vs → Leaves (fitted (length l) file) l after (Ok size)
    tail_granted q after a =
        let room = fits (length l) size q in
        grants l after file size (fitted_there (length l) file size (file_long ∙ is) q) (sym (file_long ∙ is)) (a ∙ laid_file (omega arith))

-- ---- An edit of a slot

module _ (l : List ℕ) (n p : ℕ) (fit : n ≤ length l) (inside : p + slot_size ≤ n) (desk tag ref : ℕ) (content : List ℕ) where
  abbrev slot : List ℕ
  slot = data_slot tag ref content n

  abbrev slot_tail : List ℕ
  slot_tail = content ++ trailer_of (take n l) (named desk) p slot_size

  slot_long : n + length slot_tail ≡ n + length content + form_size Long
  slot_long = simp (length-append, length_trailer) (omega arith)

  slot_file : slot_edit (take n l) (named desk) p slot content ≡ put (take n l) p slot ++ slot_tail
  unfolding slot_edit
  slot_file = append_assoc (put (take n l) p slot) content _

  slot_inside : p + length slot ≤ n
  slot_inside = omega (arith, length_data tag ref content n)

  pub slot_refused : (r : Rule) → number_of r ≡ fit_fault (length l) (n + length content + form_size Long)
      → Leaves (slot_in l n p desk tag ref content) l l (Err (record { rule = r; place = 0 }))
  slot_refused = tail_refused l n p slot slot_tail _ fit slot_inside slot_file _ slot_long

  pub slot_granted : {l₁ l₂ l₃ : List ℕ} (c : Change) (offset : ℕ) → fit_fault (length l) (n + length content + form_size Long) ≡ 0
      → c ≡ change_at (take n l) (named desk) p slot_size → offset ≡ data_offset content n
      → l₁ ≡ put l n content → l₂ ≡ put l₁ (n + length content) (trailer_bytes Long c) → l₃ ≡ put l₂ p (slot_bytes tag ref offset (length content))
      → Leaves (slot_in l n p desk tag ref content) l l₃ (Ok (n + length content + form_size Long))
  unfolding data_slot
  slot_granted {l₃} c offset q is o e₁ e₂ e₃ =
      tail_granted l n p slot slot_tail _ fit slot_inside slot_file _ slot_long q l₃
      (e₃ ∙ rw (o, e₂, e₁, is, put_put l n content (trailer_of (take n l) (named desk) p slot_size)))

-- ---- An edit that appends a block

module _ (l : List ℕ) (n b : ℕ) (fit : n ≤ length l) (inside : b + 6 ≤ n) (desk tag ref : ℕ) (content : List ℕ) where
  abbrev block : List ℕ
  block = new_block (data_slot tag ref content (n + block_size))

  abbrev block_tail : List ℕ
  block_tail = block ++ content ++ trailer_of (take n l) (named desk) (b + 2) link_size

  block_is : length block ≡ block_size
  block_is = length_block _ (length_data tag ref content (n + block_size))

  block_long : n + length block_tail ≡ n + block_size + length content + form_size Long
  block_long = simp (length-append, length_trailer, block_is) (omega arith)

  block_file : block_edit (take n l) (named desk) b block content ≡ put (take n l) (b + 2) (bytes 4 n) ++ block_tail
  unfolding block_edit
  block_file = rw (length-take-le n l fit) (simp append_assoc)

  link_inside : b + 2 + length (bytes 4 n) ≤ n
  link_inside = omega (arith, length_bytes BigEndian 4 n)

  pub block_refused : (r : Rule) → number_of r ≡ fit_fault (length l) (n + block_size + length content + form_size Long)
      → Leaves (block_in l n b desk tag ref content) l l (Err (record { rule = r; place = 0 }))
  block_refused = tail_refused l n (b + 2) (bytes 4 n) block_tail _ fit link_inside block_file _ block_long

  pub block_granted : {l₁ l₂ l₃ l₄ : List ℕ} (c : Change) (offset : ℕ) → fit_fault (length l) (n + block_size + length content + form_size Long) ≡ 0
      → c ≡ change_at (take n l) (named desk) (b + 2) link_size → offset ≡ data_offset content (n + block_size)
      → l₁ ≡ put l n (new_block (slot_bytes tag ref offset (length content))) → l₂ ≡ put l₁ (n + block_size) content
      → l₃ ≡ put l₂ (n + block_size + length content) (trailer_bytes Long c) → l₄ ≡ put l₃ (b + 2) (bytes 4 n)
      → Leaves (block_in l n b desk tag ref content) l l₄ (Ok (n + block_size + length content + form_size Long))
  unfolding data_slot
  block_granted {l₁} {l₂} {l₃} {l₄} c offset q is o e₁ e₂ e₃ e₄ =
      let f₂ : l₂ ≡ put l n (block ++ content) =
      e₂ ∙ rw (e₁, o) (ap (λ k. put (put l n block) (n + k) content) (sym block_is) ∙ put_put l n block content) in
      let k₂ : n + block_size + length content ≡ n + length (block ++ content) = omega (arith, length-append block content, block_is) in
      let f₃ : l₃ ≡ put l n block_tail = e₃ ∙ rw (f₂, is, k₂) (put_put l n (block ++ content) _) in
      tail_granted l n (b + 2) (bytes 4 n) block_tail _ fit link_inside block_file _ block_long q l₄ (e₄ ∙ rw f₃)
