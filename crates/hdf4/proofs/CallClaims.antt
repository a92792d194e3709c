-- Demand 1 over all calls: what a refused call answers, gives and leaves, and the shape of a granted one. Assumes nothing.
use Prim.Native.Nat.{ℕ}
use mathlib.Core.Path.{◌≡◌, refl}
use mathlib.Core.List.{List, [], ◌∷◌, ◌++◌}
use lib.ListN.{replicate}
use Rattle.answer.specs.Answer.{Answer, ProperWith}
use Rattle.answer.proofs.Lent.{laid_refused}
use Rattle.wire.specs.Numbers.{part}
use Rattle.storage.specs.Views.{bytes_of}
use Rattle.storage.specs.Choices.{chosen_bytes}
use Rattle.storage.proofs.CopyRules.{copy_shape}
use Rattle.hdf4.specs.Calls.{AnyCall, hdf4_open, hdf4_find, hdf4_list, hdf4_view, hdf4_size, hdf4_copy, hdf4_choose, hdf4_add, hdf4_replace, hdf4_remove, hdf4_undo, hdf4_read_number_type, hdf4_read_dimension, hdf4_read_array, hdf4_read_group, hdf4_list_group, hdf4_read_vdata, hdf4_read_fields, hdf4_read_value, hdf4_read_column, hdf4_pack, Memory, numbers, structs, contract_of, Untouched}
use Rattle.hdf4.proofs.Proper

-- ---- Every call

-- what stands beside number and place of a refusal
abbrev beside : AnyCall → List ℕ
beside c = replicate (contract_of c).count 0 ++ (contract_of c).carries

-- the shape of its answer, and no part where it is refused
shape : (c : AnyCall) → ProperWith (beside c) (contract_of c).answer × ((contract_of c).answer.values ≡ beside c → (contract_of c).part ≡ [])
unfolding contract_of bytes_of chosen_bytes part
shape (hdf4_open s) = (Proper.open_proper s, λ e. refl)
shape (hdf4_find s tag ref) = (Proper.find_proper s tag ref, λ e. refl)
shape (hdf4_list s table) = (Proper.list_proper s _, λ e. refl)
shape (hdf4_view s tag ref) = (Proper.view_proper s tag ref, λ e. rw e)
shape (hdf4_size s tag ref) = (Proper.size_proper s tag ref, λ e. refl)
shape (hdf4_copy s tag ref out) = (copy_shape s tag ref _, λ e. refl)
shape (hdf4_choose s t tag ref) = (Proper.choose_proper s t tag ref, λ e. rw e)
shape (hdf4_add buffer n desk tag ref content) = (Proper.add_proper buffer n desk tag ref content, λ e. refl)
shape (hdf4_replace buffer n desk tag ref content) = (Proper.replace_proper buffer n desk tag ref content, λ e. refl)
shape (hdf4_remove buffer n desk tag ref) = (Proper.remove_proper buffer n desk tag ref, λ e. refl)
shape (hdf4_undo buffer n desk) = (Proper.undo_proper buffer n desk, λ e. refl)
shape (hdf4_read_number_type s ref) = (Proper.number_type_proper s ref, λ e. refl)
shape (hdf4_read_dimension s tag ref) = (Proper.dimension_proper s tag ref, λ e. refl)
shape (hdf4_read_array s ref sizes pairs) = (Proper.array_proper s ref _ _, λ e. refl)
shape (hdf4_read_group s ref members) = (Proper.group_proper s ref _, λ e. refl)
shape (hdf4_list_group s ref list) = (Proper.listing_proper s ref _, λ e. refl)
shape (hdf4_read_vdata s ref fields names) = (Proper.head_proper s ref _, λ e. refl)
shape (hdf4_read_fields s ref table) = (Proper.head_proper s ref _, λ e. refl)
shape (hdf4_read_value s ref r i c) = (Proper.value_proper s ref r i c, λ e. refl)
shape (hdf4_read_column s ref i c out) = (Proper.column_proper s ref i c _, λ e. refl)
shape (hdf4_pack fault bytes out) = (Proper.pack_proper fault bytes _, λ e. refl)

untouched : (answer : Answer) → (answer.number ≡ 0 → ⊥) → (memory : List Memory) → Untouched answer memory
untouched answer z [] = tt
untouched answer z (numbers given before ∷ rest) = (laid_refused answer given before z, untouched answer z rest)
untouched answer z (structs given before ∷ rest) = (laid_refused answer given before z, untouched answer z rest)

-- ---- The claims

-- a refused call answers zeros beside number and place, and behind them what it carries, gives an empty part, and leaves all lent memory as it was
pub refused_clean : (c : AnyCall) → ((contract_of c).answer.number ≡ 0 → ⊥)
    → ((contract_of c).answer.values ≡ replicate (contract_of c).count 0 ++ (contract_of c).carries)
    × Untouched (contract_of c).answer (contract_of c).memory
    × ((contract_of c).part ≡ [])
refused_clean c z = let zeros = (shape c).0.refused z in (zeros, untouched (contract_of c).answer z (contract_of c).memory, (shape c).1 zeros)

-- a granted call answers place 0
pub granted_clean : (c : AnyCall) → (contract_of c).answer.number ≡ 0 → (contract_of c).answer.place ≡ 0
granted_clean c e = (shape c).0.granted e
