-- Every element of a file that an edit makes, or undo restores, is a byte. Assumes nothing.
use Prim.Native.Nat.{ℕ, zero, suc, ◌+◌, ◌/◌, ◌%◌, ◌<◌}
use mathlib.Core.List.{List, [], ◌∷◌, ◌++◌}
use mathlib.Core.Bool.{Bool, true, false}
use native.Mathlib.Omega.{arith}
use lib.ListN.{length, take, set}
use lib.Dec.{eqb}
use Rattle.wire.specs.Numbers.{bytes, put, Bytes, bytes_in}
use Rattle.wire.specs.Layouts.{pack}
use Rattle.wire.proofs.Numbers.{bytes_take}
use Rattle.directory.specs.Limits.{free_tag}
use Rattle.journal.specs.Trailers.{slot_size, link_size, trailer_bytes, Author, form_of, change_at, old_bytes}
use Rattle.journal.specs.Undos.{restored}
use Rattle.journal.specs.declared.change.Change.{Change}
use Rattle.journal.specs.declared.change.Form.{Form}
use Rattle.journal.specs.declared.change.Form.TheVariants.{Old, Long}
use Rattle.journal.specs.Edits.{slot_bytes, free_slot, free_slots, new_block, block_slots, data_offset, data_slot, slot_edit, block_edit}

-- ---- Lists of bytes

bytes_nil : Bytes []
bytes_nil i = omega arith

bytes_cons : (x : ℕ) (s : List ℕ) → x < 256 → Bytes s → Bytes (x ∷ s)
bytes_cons x s b h zero = b
bytes_cons x s b h (suc i) = h i

pub bytes_append : (s t : List ℕ) → Bytes s → Bytes t → Bytes (s ++ t)
bytes_append [] t h g = g
bytes_append (x ∷ s) t h g = bytes_cons x (s ++ t) (h 0) (bytes_append s t (λ i. h (suc i)) g)

bytes_set : (s : List ℕ) (at v : ℕ) → v < 256 → Bytes s → Bytes (set s at v)
bytes_set [] at v b h = h
bytes_set (x ∷ s) zero v b h = bytes_cons v s b (λ i. h (suc i))
bytes_set (x ∷ s) (suc at) v b h = bytes_cons x (set s at v) (h 0) (bytes_set s at v b (λ i. h (suc i)))

bytes_put : (s : List ℕ) (at : ℕ) (vs : List ℕ) → Bytes s → Bytes vs → Bytes (put s at vs)
unfolding put
bytes_put s at [] h g = h
bytes_put s at (v ∷ vs) h g = bytes_put (set s at v) (suc at) vs (bytes_set s at v (g 0) h) (λ i. g (suc i))

bytes_number : (k x : ℕ) → Bytes (bytes k x)
unfolding bytes_in
bytes_number zero x = bytes_nil
bytes_number (suc k) x = bytes_append (bytes k (x / 256)) (x % 256 ∷ []) (bytes_number k (x / 256)) (bytes_cons (x % 256) [] (omega arith) bytes_nil)

-- ---- What edits write

-- the same as a record, which shows the list
record AllBytes (s : List ℕ) : Type 0 where
  all : Bytes s

infixl 60 ◌then◌
◌then◌ : {s t : List ℕ} → AllBytes s → AllBytes t → AllBytes (s ++ t)
◌then◌ {s} {t} h g = record { all = bytes_append s t h.all g.all }

all_number : (k x : ℕ) → AllBytes (bytes k x)
all_number k x = record { all = bytes_number k x }

all_put : {s vs : List ℕ} (at : ℕ) → AllBytes s → AllBytes vs → AllBytes (put s at vs)
all_put {s} {vs} at h g = record { all = bytes_put s at vs h.all g.all }

-- the seven fields of a trailer of either form, then those that close it
all_fields_lem : {rest : List ℕ} (c : Change) → AllBytes rest
    → AllBytes (bytes 4 c.place ++ (bytes 4 c.altered ++ (bytes 4 c.first ++ (bytes 4 c.second ++ (bytes 4 c.third ++ (bytes 4 c.before ++ (bytes 4 c.previous ++ rest)))))))
all_fields_lem c h =
    all_number 4 _ then (all_number 4 _ then (all_number 4 _ then (all_number 4 _ then (all_number 4 _ then (all_number 4 _ then (all_number 4 _ then h))))))

all_trailer : (form : Form) (c : Change) → AllBytes (trailer_bytes form c)
unfolding trailer_bytes pack
all_trailer Old c = all_fields_lem c (all_number 4 _ then record { all = bytes_nil })
all_trailer Long c = all_fields_lem c (all_number 4 _ then (all_number 4 _ then record { all = bytes_nil }))

all_old : (c : Change) → AllBytes (old_bytes c)
unfolding old_bytes
all_old c = go (eqb c.altered slot_size)
  where
    go : (b : Bool) → AllBytes (elim b [ true ↦ bytes 4 c.first ++ bytes 4 c.second ++ bytes 4 c.third | false ↦ bytes 4 c.first ])
    go true = all_number 4 _ then all_number 4 _ then all_number 4 _
    go false = all_number 4 _

all_slot : (tag ref offset size : ℕ) → AllBytes (slot_bytes tag ref offset size)
unfolding slot_bytes
all_slot tag ref offset size = all_number 2 tag then all_number 2 ref then all_number 4 offset then all_number 4 size

all_free : AllBytes free_slot
unfolding free_slot
all_free = all_slot free_tag 0 0 0

all_frees : (k : ℕ) → AllBytes (free_slots k)
unfolding free_slots
all_frees zero = record { all = bytes_nil }
all_frees (suc k) = all_free then all_frees k

all_block : {slot : List ℕ} → AllBytes slot → AllBytes (new_block slot)
unfolding new_block
all_block h = all_number 2 block_slots then all_number 4 0 then h then all_frees 15

pub bytes_free : Bytes free_slot
bytes_free = all_free.all

pub bytes_data : (tag ref : ℕ) (content : List ℕ) (at : ℕ) → Bytes (data_slot tag ref content at)
unfolding data_slot
bytes_data tag ref content at = (all_slot tag ref (data_offset content at) (length content)).all

-- ---- The file after an edit, and the one that undo restores

all_slot_edit : {s slot content : List ℕ} (author : Author) (p : ℕ) → AllBytes s → AllBytes slot → AllBytes content → AllBytes (slot_edit s author p slot content)
unfolding slot_edit
all_slot_edit {s} author p h g c = all_put p h g then c then all_trailer (form_of author) (change_at s author p slot_size)

all_block_edit : {s block content : List ℕ} (author : Author) (b : ℕ) → AllBytes s → AllBytes block → AllBytes content → AllBytes (block_edit s author b block content)
unfolding block_edit
all_block_edit {s} author b h g c =
    all_put (b + 2) h (all_number 4 (length s)) then g then c then all_trailer (form_of author) (change_at s author (b + 2) link_size)

module _ (s : List ℕ) (author : Author) (p : ℕ) (slot content : List ℕ) (h : Bytes s) (g : Bytes slot) (c : Bytes content) where
  pub bytes_slot_edit : Bytes (slot_edit s author p slot content)
  bytes_slot_edit =
      let e : AllBytes (slot_edit s author p slot content) = all_slot_edit author p (record { all = h }) (record { all = g }) (record { all = c }) in
      e.all

  pub bytes_block_edit : Bytes (block_edit s author p (new_block slot) content)
  bytes_block_edit =
      let e : AllBytes (block_edit s author p (new_block slot) content) =
      all_block_edit author p (record { all = h }) (all_block (record { all = g })) (record { all = c }) in
      e.all

pub bytes_restored : (s : List ℕ) (c : Change) → Bytes s → Bytes (restored s c)
unfolding restored
bytes_restored s c h = bytes_put (take c.before s) c.place (old_bytes c) (bytes_take c.before s h) (all_old c).all
