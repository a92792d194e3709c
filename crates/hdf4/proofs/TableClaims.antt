-- What a reader may rely on of the table of fields: it has the numbers that the lists of `hdf4_read_vdata` have. Assumes nothing.
use Prim.Native.Nat.{ℕ, zero, suc, ◌+◌, ◌*◌, ◌-◌}
use native.Mathlib.Omega.{arith}
use mathlib.Core.Path.{◌≡◌, refl, sym, ap, ◌∙◌}
use mathlib.Core.List.{List, ◌∷◌}
use Rattle.wire.specs.Numbers.{be}
use Rattle.directory.specs.Lookup.{find}
use Rattle.records.specs.Readings.{record_bytes}
use Rattle.vhead.specs.Limits.{head_tag}
use Rattle.vset.specs.Tails.{names_end}
use Rattle.storage.specs.Elements.{start_of}
use Rattle.vhead.specs.Heads.{head_in, head_fields, head_names, name_rows}
use Rattle.vset.proofs.Tails.{names_split}
use Rattle.vhead.proofs.Heads.{field_is, fields_after, fields_are, row_next, row_none}
use Rattle.hdf4.specs.FieldTable.{structs_from, structs_of, numbers_of, names_of}

module _ (start : ℕ) (e : List ℕ) where
  -- the four numbers of so many fields, from an index on
  numbers_from : (m i : ℕ) → let n = (head_in e).fields in i + m ≡ n → numbers_of (structs_from start e m i) ≡ fields_after e n i
  unfolding numbers_of structs_from
  numbers_from zero i q = sym (row_none e (head_in e).fields i (omega arith))
  numbers_from (suc m) i q =
      let n = (head_in e).fields in
      let f = field_is e n i refl in
      let next : numbers_of (structs_from start e m (i + 1)) ≡ fields_after e n (i + 1) = numbers_from m (i + 1) (omega arith) in
      ap (λ x. x.code ∷ x.size ∷ x.offset ∷ x.order ∷ numbers_of (structs_from start e m (i + 1))) f
      ∙ ap (λ l. be 2 e (10 + 2 * i) ∷ be 2 e (10 + 2 * n + 2 * i) ∷ be 2 e (10 + 4 * n + 2 * i) ∷ be 2 e (10 + 6 * n + 2 * i) ∷ l) next
      ∙ sym (row_next e n i (omega arith))

  name_after : (i : ℕ) (at : ℕ) → names_end e (i + 1) at ≡ names_end e i at + 2 + be 2 e (names_end e i at)
  unfolding names_end
  name_after i at = names_split i 1 e at

  -- the names of so many fields, from an index on
  names_from : (m i : ℕ) → names_of (structs_from start e m i) ≡ name_rows start e m (names_end e i (head_in e).names)
  unfolding names_of structs_from name_rows
  names_from zero i = refl
  names_from (suc m) i =
      let at = names_end e i (head_in e).names in
      ap (λ l. (start + (at + 2)) ∷ be 2 e at ∷ l) (names_from m (i + 1) ∙ ap (name_rows start e m) (name_after i (head_in e).names))

module _ (s : List ℕ) (ref : ℕ) where
  pub table_numbers : numbers_of (structs_of s ref) ≡ head_fields (record_bytes s (find s head_tag ref))
  table_numbers =
      let e = record_bytes s (find s head_tag ref) in
      let n = (head_in e).fields in
      let z : n - 0 ≡ n = omega arith in
      let a : 10 + 2 * n + 2 * 0 ≡ 10 + 2 * n = omega arith in
      let b : 10 + 4 * n + 2 * 0 ≡ 10 + 4 * n = omega arith in
      let c : 10 + 6 * n + 2 * 0 ≡ 10 + 6 * n = omega arith in
      numbers_from (start_of s (find s head_tag ref)) e n 0 (omega arith) ∙ rw (z, a, b, c) (sym (fields_are e))

  pub table_names : names_of (structs_of s ref) ≡ head_names (start_of s (find s head_tag ref)) (record_bytes s (find s head_tag ref))
  unfolding head_names names_end
  table_names = let e = record_bytes s (find s head_tag ref) in names_from (start_of s (find s head_tag ref)) e (head_in e).fields 0
