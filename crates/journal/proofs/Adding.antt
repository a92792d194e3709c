-- Where an absent element goes, and what adding it there comes to, from the answers of the code. Assumes nothing.
use Prim.Native.Nat.{ℕ, ◌+◌, ◌<◌, ◌≤◌}
use native.Mathlib.Omega.{arith}
use mathlib.Core.Path.{◌≡◌, refl, sym, ap, ◌∙◌}
use mathlib.Core.Logic.{inl, inr}
use mathlib.Core.List.{List, [], ◌∷◌}
use mathlib.Core.Bool.{Bool, true, not, ◌||◌}
use lib.ListN.{length, get_or, take}
use lib.Seq.{length-take-le}
use lib.Dec.{leb, ltb}
use borrow.Author.Tests.{le-leb, lt-leb, lt-ltb, le-ltb}
use Rattle.std.specs.Prelude.{Result, Err}
use Rattle.directory.specs.Limits.{most_bytes, most_blocks, most_slots}
use Rattle.answer.specs.declared.Refusal.{Refusal}
use Rattle.answer.specs.declared.refusals.Rule.TheVariants.{DirBig}
use Rattle.answer.specs.Answer.{grant}
use Rattle.answer.specs.Search.{Hit, hit, miss, first, In}
use Rattle.directory.specs.Blocks.{blocks_of}
use Rattle.directory.specs.Slots.{live_at, slots_of}
use Rattle.directory.specs.Opening.{open_of}
use Rattle.directory.specs.Lookup.{find}
use Rattle.directory.specs.Links.{slots_after, last_of}
use Rattle.directory.specs.Rooms.{room_of, room_at}
use Rattle.directory.specs.Rules.{Kept}
use Rattle.directory.specs.declared.places.Room.TheVariants.{Slot, Block}
use Rattle.answer.proofs.Tests.{on_true, on_false, or_either, or_neither}
use Rattle.answer.proofs.Search.{first_hit}
use Rattle.directory.proofs.Rules.{opens_kept, chain_kept}
use Rattle.directory.proofs.Opens.{opened_last, opened_with}
use Rattle.directory.proofs.Named.{found_named}
use Rattle.directory.proofs.Claims.{counts}
use Rattle.journal.specs.Trailers.{slot_size, named}
use Rattle.journal.specs.Edits.{block_slots, block_size, data_slot, new_block, slot_edit, block_edit, fitted, first_free, add_at}
use Rattle.journal.specs.Buffers.{Leaves}
use Rattle.journal.specs.Steps.Changes.{Editable, slot_in, block_in, new_in}
use Rattle.journal.proofs.Buffers.{refuses, leaves_same, image_short}
use Rattle.journal.proofs.Spacing.{slot_inside}

-- ---- The room that was found

slot_hit : (h : Hit) (last p : ℕ) → room_at h last ≡ Slot p → h ≡ hit p
slot_hit (hit q) last p e = cc
slot_hit miss last p e = let z : ◌≡◌ {A = ℕ} 0 1 = cc in absurd (omega arith)

block_miss : (h : Hit) (last b : ℕ) → room_at h last ≡ Block b → (h ≡ miss) × (last ≡ b)
block_miss (hit q) last b e = let z : ◌≡◌ {A = ℕ} 0 1 = cc in absurd (omega arith)
block_miss miss last b e = (refl, cc)

last_in : (b : ℕ) (bs : List ℕ) → In (last_of b bs) (b ∷ bs)
unfolding last_of
last_in b [] = inl refl
last_in b (c ∷ cs) = inr (last_in c cs)

-- the last block of an image that opens lies inside
last_inside : (s bs : List ℕ) → Kept s bs → last_of 4 bs + 6 ≤ length s
unfolding last_of
last_inside s [] k = absurd k.linked
last_inside s (b ∷ bs) k = omega (arith, k.inside (last_of b bs) (last_in b bs))

-- ---- In the first n bytes of a buffer

module _ (l : List ℕ) (n blocks slots live : ℕ) (fits : n ≤ length l) (o : open_of (take n l) ≡ grant (blocks ∷ slots ∷ live ∷ [])) where
  long : length (take n l) ≡ n
  long = length-take-le n l fits

  opened : (open_of (take n l)).number ≡ 0
  opened = ap (λ a. a.number) o

  blocks_are : blocks ≡ length (blocks_of (take n l))
  blocks_are = ap (λ a. get_or a.values 0 0) (sym o ∙ counts (take n l) opened)

  slots_are : slots ≡ length (slots_of (take n l))
  slots_are = ap (λ a. get_or a.values 1 0) (sym o ∙ counts (take n l) opened)

  pub slots_few : slots ≤ most_slots
  unfolding slots_of
  slots_few = omega (arith, slots_are, (opens_kept (take n l) opened).few_slots)

  -- a slot of the image
  place_inside : (p : ℕ) → In p (slots_of (take n l)) → p + slot_size ≤ n
  unfolding slots_of
  place_inside p i = omega (arith, long, (slot_inside (take n l) (blocks_of (take n l)) (chain_kept (take n l) (blocks_of (take n l)) (opens_kept (take n l) opened)).blocks p i).1)

  free_is : first (λ p. not (live_at (take n l) p)) (slots_after (take n l) blocks 4) ≡ first_free (take n l)
  free_is = ap (first (λ p. not (live_at (take n l) p))) (opened_with (take n l) blocks slots live o).slots

  module _ (p : ℕ) (room : room_of (take n l) blocks ≡ Slot p) where
    slot_free : first_free (take n l) ≡ hit p
    unfolding room_of
    slot_free = sym free_is ∙ slot_hit _ _ p room

    pub slot_room : (n ≤ most_bytes) × (n ≤ length l) × (p + slot_size ≤ n)
    slot_room = (image_short l n fits opened, fits, place_inside p (first_hit (λ q. not (live_at (take n l) q)) (slots_of (take n l)) p slot_free).0)

    pub add_slot : (desk tag ref : ℕ) (content after : List ℕ) (r : Result ℕ Refusal) → Leaves (slot_in l n p desk tag ref content) l after r
        → Leaves (new_in l n desk tag ref content) l after r
    unfolding add_at
    add_slot desk tag ref content after r =
        leaves_same {p = slot_in l n p desk tag ref content} l after r (ap (add_at (take n l) (length l) (named desk) tag ref content) slot_free
        ∙ ap (λ k. fitted (length l) (slot_edit (take n l) (named desk) p (data_slot tag ref content k) content)) long)

  module _ (b : ℕ) (room : room_of (take n l) blocks ≡ Block b) where
    no_free : first_free (take n l) ≡ miss
    unfolding room_of
    no_free = sym free_is ∙ (block_miss _ _ b room).0

    last_is : last_of 4 (blocks_of (take n l)) ≡ b
    unfolding room_of
    last_is =
        sym (opened_last (take n l) blocks slots live o)
        ∙ (block_miss (first (λ p. not (live_at (take n l) p)) (slots_after (take n l) blocks 4)) _ b room).1

    pub last_room : (n ≤ most_bytes) × (n ≤ length l) × (b + 6 ≤ n)
    last_room =
        (image_short l n fits opened, fits, omega (arith, last_is, long, last_inside (take n l) (blocks_of (take n l)) (opens_kept (take n l) opened)))

    module _ (desk tag ref : ℕ) (content : List ℕ) where
      -- whether a block more would be too many
      abbrev many : Bool
      many = leb most_blocks (length (blocks_of (take n l)))

      abbrev full : Bool
      full = ltb most_slots (length (slots_of (take n l)) + block_slots)

      add_full : many || full ≡ true → Leaves (new_in l n desk tag ref content) l l (Err (record { rule = DirBig; place = 0 }))
      unfolding add_at
      add_full h = refuses l (record { rule = DirBig; place = 0 }) (ap (add_at (take n l) (length l) (named desk) tag ref content) no_free ∙ on_true (many || full) _ _ h)

      pub add_blocks : most_blocks ≤ blocks → Leaves (new_in l n desk tag ref content) l l (Err (record { rule = DirBig; place = 0 }))
      add_blocks h = add_full (or_either many full (inl (le-leb most_blocks (length (blocks_of (take n l))) (omega (arith, blocks_are)))))

      pub add_slots : most_slots < slots + block_slots → Leaves (new_in l n desk tag ref content) l l (Err (record { rule = DirBig; place = 0 }))
      add_slots h = add_full (or_either many full (inr (lt-ltb most_slots (length (slots_of (take n l)) + block_slots) (omega (arith, slots_are)))))

      pub add_block : blocks < most_blocks → slots + block_slots ≤ most_slots → (after : List ℕ) (r : Result ℕ Refusal) → Leaves (block_in l n b desk tag ref content) l after r
          → Leaves (new_in l n desk tag ref content) l after r
      unfolding add_at
      add_block few h after r =
          let spare = or_neither many full (lt-leb most_blocks (length (blocks_of (take n l))) (omega (arith, blocks_are)))
          (le-ltb most_slots (length (slots_of (take n l)) + block_slots) (omega (arith, slots_are))) in
          leaves_same {p = block_in l n b desk tag ref content} l after r (ap (add_at (take n l) (length l) (named desk) tag ref content) no_free
          ∙ on_false (many || full) _ _ spare
          ∙ ap (λ k. fitted (length l) (block_edit (take n l) (named desk) (last_of 4 (blocks_of (take n l))) (new_block (data_slot tag ref content (k + block_size))) content)) long
          ∙ ap (λ k. fitted (length l) (block_edit (take n l) (named desk) k (new_block (data_slot tag ref content (n + block_size))) content)) last_is)

-- the slot of an element that was found
pub target_room : (l : List ℕ) (n tag ref p : ℕ) → Editable l n tag → find (take n l) tag ref ≡ hit p
    → (n ≤ most_bytes) × (n ≤ length l) × (p + slot_size ≤ n)
target_room l n tag ref p m e =
    let o = counts (take n l) m.opens in
    (image_short l n m.fits m.opens, m.fits, place_inside l n _ _ _ m.fits o p (found_named (take n l) tag ref p e).slot)
