-- Laws of the table of fields: what is read of a head, and the table that one record more at a time makes. Assumes nothing.
use Prim.Native.Nat.{ℕ, zero, suc, ◌+◌, ◌<◌, ◌≤◌}
use native.Mathlib.Nat.{suc-ne-zero}
use native.Mathlib.Omega.{arith}
use mathlib.Core.Path.{◌≡◌, refl, sym, ap, ◌∙◌}
use mathlib.Core.List.{List, [], ◌∷◌, ◌++◌}
use lib.ListN.{length, drop, set, length-set}
use Rattle.wire.specs.Numbers.{part}
use Rattle.directory.specs.Limits.{most_bytes}
use Rattle.answer.specs.Lent.{laid_over}
use Rattle.answer.specs.declared.Refusal.{Refusal}
use Rattle.std.specs.Prelude.{Result, Ok, Err}
use Rattle.vhead.specs.Heads.{head_in, head_numbers, head_within, named_field}
use Rattle.vhead.specs.declared.head.NamedField.{NamedField}
use Rattle.vhead.specs.declared.head.Found.{Found}
use Rattle.vhead.proofs.HeadsRead.{head_names_lem, name_inside}
use Rattle.hdf4.specs.VsetAnswers.{NamesFit}
use Rattle.hdf4.specs.FieldTable.{field_from, structs_from, structs_of}
use Rattle.hdf4.specs.Steps.{Lies, ReadsFields, field_in, filled}
use Rattle.hdf4.specs.declared.field_table.Field.{Field}
use Rattle.hdf4.specs.declared.field_table.Reading.{Reading}

-- ---- What is read of a head

module _ (s : List ℕ) (ref room : ℕ) where
  pub names_fit : (read : Result Found Refusal) → head_numbers read ≡ head_within s ref room → NamesFit read
  names_fit (Ok x) e = head_names_lem s ref room x.start x.head (sym e)
  names_fit (Err r) e = tt

-- ---- One field

module _ (s : List ℕ) (r : Reading) (i : ℕ) (e : List ℕ) (is : e ≡ part s r.start r.size) (f : NamedField) (read : f ≡ named_field e i) where
  pub name_fits : Lies s r → i < r.fields → r.start + f.name ≤ most_bytes
  name_fits l h =
      let k : i < (head_in e).fields = rw is (omega (arith, l.count)) in
      let last : (head_in e).tail.end ≤ r.size = rw is l.last in
      rw read (omega (arith, name_inside e i k, l.inside, l.short))

-- ---- The table

module _ (start : ℕ) (e : List ℕ) where
  length_fields : (n i : ℕ) → length (structs_from start e n i) ≡ n
  unfolding structs_from
  length_fields zero i = refl
  length_fields (suc n) i = ap suc (length_fields n (i + 1))

  -- one field more at the end
  fields_next : (n i : ℕ) → structs_from start e (suc n) i ≡ structs_from start e n i ++ (field_from start (named_field e (i + n)) ∷ [])
  unfolding structs_from
  fields_next zero i = let z : i ≡ i + 0 = omega arith in ap (λ k. field_from start (named_field e k) ∷ []) z
  fields_next (suc n) i =
      let z : i + 1 + n ≡ i + suc n = omega arith in
      ap (λ l. field_from start (named_field e i) ∷ l) (fields_next n (i + 1) ∙ ap (λ k. structs_from start e n (i + 1) ++ (field_from start (named_field e k) ∷ [])) z)

-- a list up to a place and from it on, with that place set
set_after : (xs t : List Field) (f : Field) → length xs < length t → set (xs ++ drop (length xs) t) (length xs) f ≡ (xs ++ (f ∷ [])) ++ drop (suc (length xs)) t
set_after [] [] f h = absurd (omega arith)
set_after [] (y ∷ t) f h = refl
set_after (x ∷ xs) [] f h = absurd (omega arith)
set_after (x ∷ xs) (y ∷ t) f h = ap (λ l. x ∷ l) (set_after xs t f (omega arith))

module _ (s : List ℕ) (r : Reading) (t : List Field) where
  pub length_filled : (k : ℕ) → length (filled s r k t) ≡ length t
  unfolding filled
  length_filled zero = refl
  length_filled (suc k) = length-set (filled s r k t) k (field_in s r k) ∙ length_filled k

  filled_is : (k : ℕ) → k ≤ length t → filled s r k t ≡ structs_from r.start (part s r.start r.size) k 0 ++ drop k t
  unfolding filled structs_from
  filled_is zero h = refl
  filled_is (suc k) h =
      let e = part s r.start r.size in
      let front = structs_from r.start e k 0 in
      let long : length front ≡ k = length_fields r.start e k 0 in
      let z : 0 + k ≡ k = omega arith in
      ap (λ l. set l k (field_in s r k)) (filled_is k (omega arith))
      ∙ ap (λ m. set (front ++ drop m t) m (field_in s r k)) (sym long)
      ∙ set_after front t (field_in s r k) (omega (arith, long))
      ∙ ap (λ m. (front ++ (field_in s r k ∷ [])) ++ drop (suc m) t) long
      ∙ ap (λ l. l ++ drop (suc k) t) (sym (fields_next r.start e k 0 ∙ ap (λ m. front ++ (field_from r.start (named_field e m) ∷ [])) z))

-- what a call leaves in a table that is filled field by field
module _ (s : List ℕ) (ref : ℕ) (t : List Field) (r : Reading) (reads : ReadsFields s ref (length t) r) where
  by_number : (number : ℕ) → (head_within s ref (length t)).number ≡ number → filled s r r.fields t ≡ laid_over (head_within s ref (length t)) (structs_of s ref) t
  unfolding laid_over filled
  by_number zero q =
      let g = reads.granted q in
      let e = part s r.start r.size in
      let same : structs_of s ref ≡ structs_from r.start e r.fields 0 = rw (g.0, g.1, g.2) in
      filled_is s r t r.fields reads.fits
      ∙ ap (λ n. structs_from r.start e r.fields 0 ++ drop n t) (sym (length_fields r.start e r.fields 0))
      ∙ rw (q, same)
  by_number (suc number) q =
      let z : r.fields ≡ 0 = reads.refused (λ y. absurd (suc-ne-zero number (sym q ∙ y))) in
      rw (q, z)

  pub filled_whole : filled s r r.fields t ≡ laid_over (head_within s ref (length t)) (structs_of s ref) t
  filled_whole = by_number (head_within s ref (length t)).number refl
