-- All calls of the interface, with what they are given and lent, and what each answers and gives, by the definitions that their contracts
-- cite. Assumes nothing.
use Rattle.std.specs.Prelude.{ℕ, ◌≡◌, List, [], ◌∷◌, length}
use Rattle.answer.specs.Answer.{Answer}
use Rattle.answer.specs.Lent.{laid_over}
use Rattle.directory.specs.Opening.{open_of}
use Rattle.directory.specs.Lookup.{find, find_of}
use Rattle.directory.specs.Descriptors.{list_of, elements_of}
use Rattle.journal.specs.Outcomes.{Outcome, outcome_answer, file_of}
use Rattle.journal.specs.Buffers.{add_in, replace_in, remove_in, undo_in}
use Rattle.storage.specs.Elements.{start_of}
use Rattle.storage.specs.Views.{view_of, bytes_of}
use Rattle.storage.specs.Sizes.{size_of}
use Rattle.storage.specs.Copies.{copy_of, element_bytes, link_index}
use Rattle.storage.specs.Choices.{choose_of, chosen_bytes}
use Rattle.records.specs.Limits.{array_tag}
use Rattle.records.specs.Readings.{record_bytes}
use Rattle.records.specs.Packings.{pack_of}
use Rattle.records.specs.NumberTypes.{number_type_of}
use Rattle.records.specs.Dimensions.{dimension_of}
use Rattle.records.specs.Arrays.{array_of, array_sizes, array_pairs}
use Rattle.vgroup.specs.Limits.{group_tag}
use Rattle.vgroup.specs.Groups.{group_of, group_members}
use Rattle.vgroup.specs.Listings.{listing_of, pairs_of}
use Rattle.vhead.specs.Limits.{head_tag}
use Rattle.vhead.specs.Heads.{head_of, head_within, head_fields, head_names}
use Rattle.vdata.specs.Values.{value_of}
use Rattle.vdata.specs.Columns.{column_of, column_bits}
use Rattle.hdf4.specs.FieldTable.{structs_of}
use Rattle.hdf4.specs.declared.field_table.Field.{Field}

-- an image or a buffer comes first, what is lent besides comes last; packing is one call for every record: the first rule that the values
-- break, their bytes, and the buffer
pub data AnyCall : Type 0 where
  hdf4_open : List ℕ → AnyCall
  hdf4_find : List ℕ → ℕ → ℕ → AnyCall
  hdf4_list : List ℕ → List ℕ → AnyCall
  hdf4_view : List ℕ → ℕ → ℕ → AnyCall
  hdf4_size : List ℕ → ℕ → ℕ → AnyCall
  hdf4_copy : List ℕ → ℕ → ℕ → List ℕ → AnyCall
  hdf4_choose : List ℕ → List ℕ → ℕ → ℕ → AnyCall
  hdf4_add : List ℕ → ℕ → ℕ → ℕ → ℕ → List ℕ → AnyCall
  hdf4_replace : List ℕ → ℕ → ℕ → ℕ → ℕ → List ℕ → AnyCall
  hdf4_remove : List ℕ → ℕ → ℕ → ℕ → ℕ → AnyCall
  hdf4_undo : List ℕ → ℕ → ℕ → AnyCall
  hdf4_read_number_type : List ℕ → ℕ → AnyCall
  hdf4_read_dimension : List ℕ → ℕ → ℕ → AnyCall
  hdf4_read_array : List ℕ → ℕ → List ℕ → List ℕ → AnyCall
  hdf4_read_group : List ℕ → ℕ → List ℕ → AnyCall
  hdf4_list_group : List ℕ → ℕ → List ℕ → AnyCall
  hdf4_read_vdata : List ℕ → ℕ → List ℕ → List ℕ → AnyCall
  hdf4_read_fields : List ℕ → ℕ → List Field → AnyCall
  hdf4_read_value : List ℕ → ℕ → ℕ → ℕ → ℕ → AnyCall
  hdf4_read_column : List ℕ → ℕ → ℕ → ℕ → List ℕ → AnyCall
  hdf4_pack : ℕ → List ℕ → List ℕ → AnyCall

-- memory that is lent to be written to: what a granted call gives there, and what it holds before
pub data Memory : Type 0 where
  numbers : List ℕ → List ℕ → Memory
  structs : List Field → List Field → Memory

-- how many values a call answers beside number and place, what a refusal carries behind them, its answer, the memory that it is lent, and the part
-- of an image that it gives
pub record Contract : Type 0 where
  pub count : ℕ
  pub carries : List ℕ
  pub answer : Answer
  pub memory : List Memory
  pub part : List ℕ

abbrev answering : ℕ → Answer → Contract
answering count answer = record { count = count; carries = []; answer = answer; memory = []; part = [] }

abbrev giving : ℕ → Answer → List ℕ → Contract
giving count answer part = record { count = count; carries = []; answer = answer; memory = []; part = part }

abbrev filling : ℕ → Answer → List Memory → Contract
filling count answer memory = record { count = count; carries = []; answer = answer; memory = memory; part = [] }

-- lent a buffer, and a refusal carries a value
abbrev filling_carrying : ℕ → ℕ → Answer → List Memory → Contract
filling_carrying count value answer memory = record { count = count; carries = value ∷ []; answer = answer; memory = memory; part = [] }

abbrev editing : Outcome → List ℕ → Contract
editing outcome buffer = filling 1 (outcome_answer outcome) (numbers (file_of outcome) buffer ∷ [])

unfoldable pub contract_of : AnyCall → Contract
contract_of (hdf4_open s) = answering 3 (open_of s)
contract_of (hdf4_find s tag ref) = answering 1 (find_of s tag ref)
contract_of (hdf4_list s table) = filling 1 (list_of s (length table)) (numbers (elements_of s) table ∷ [])
contract_of (hdf4_view s tag ref) = giving 2 (view_of s tag ref) (bytes_of s (view_of s tag ref))
contract_of (hdf4_size s tag ref) = answering 1 (size_of s tag ref)
contract_of (hdf4_copy s tag ref out) =
    let answer = copy_of s tag ref (length out) in filling_carrying 1 (link_index answer) answer (numbers (element_bytes s tag ref) out ∷ [])
contract_of (hdf4_choose s t tag ref) = giving 3 (choose_of s t tag ref) (chosen_bytes s t (choose_of s t tag ref))
contract_of (hdf4_add buffer n desk tag ref content) = editing (add_in buffer n desk tag ref content) buffer
contract_of (hdf4_replace buffer n desk tag ref content) = editing (replace_in buffer n desk tag ref content) buffer
contract_of (hdf4_remove buffer n desk tag ref) = editing (remove_in buffer n desk tag ref) buffer
contract_of (hdf4_undo buffer n desk) = editing (undo_in buffer n desk) buffer
contract_of (hdf4_read_number_type s ref) = answering 4 (number_type_of s ref)
contract_of (hdf4_read_dimension s tag ref) = answering 8 (dimension_of s tag ref)
contract_of (hdf4_read_array s ref sizes pairs) =
    let e = record_bytes s (find s array_tag ref) in
    filling 1 (array_of s ref (length sizes) (length pairs)) (numbers (array_sizes e) sizes ∷ numbers (array_pairs e) pairs ∷ [])
contract_of (hdf4_read_group s ref members) =
    filling 9 (group_of s ref (length members)) (numbers (group_members (record_bytes s (find s group_tag ref))) members ∷ [])
contract_of (hdf4_list_group s ref list) = filling 1 (listing_of s ref (length list)) (numbers (pairs_of s ref (length list)) list ∷ [])
contract_of (hdf4_read_vdata s ref fields names) =
    let found = find s head_tag ref in
    let e = record_bytes s found in
    filling 12 (head_of s ref (length fields) (length names)) (numbers (head_fields e) fields ∷ numbers (head_names (start_of s found) e) names ∷ [])
contract_of (hdf4_read_fields s ref table) = filling 12 (head_within s ref (length table)) (structs (structs_of s ref) table ∷ [])
contract_of (hdf4_read_value s ref r i c) = answering 2 (value_of s ref r i c)
contract_of (hdf4_read_column s ref i c out) = filling 2 (column_of s ref i c (length out)) (numbers (column_bits s ref i c) out ∷ [])
contract_of (hdf4_pack fault bytes out) = filling 1 (pack_of fault bytes (length out)) (numbers bytes out ∷ [])

-- all lent memory is as it was after the call
abbrev pub Untouched : Answer → List Memory → Type 0
Untouched answer [] = Unit {0}
Untouched answer (numbers given before ∷ rest) = (laid_over answer given before ≡ before) × Untouched answer rest
Untouched answer (structs given before ∷ rest) = (laid_over answer given before ≡ before) × Untouched answer rest
