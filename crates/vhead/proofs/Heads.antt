-- Laws of heads of Vdatas: what their records read as and come to, the lists of fields and of names. Assumes nothing.
use Prim.Native.Nat.{ℕ, zero, suc, ◌+◌, ◌*◌, ◌-◌, ◌<◌, ◌≤◌}
use native.Mathlib.Nat.{one-mul}
use native.Mathlib.Omega.{arith}
use mathlib.Core.Path.{◌≡◌, refl, sym, ap, ◌∙◌}
use mathlib.Core.List.{List, [], ◌∷◌}
use lib.ListN.{length}
use Rattle.wire.specs.Numbers.{be, Bytes, Reads}
use Rattle.wire.specs.declared.ByteOrder.TheVariants.{BigEndian}
use Rattle.wire.proofs.Numbers.{number_small}
use Rattle.wire.specs.Layouts.{Layout, read, extent, numbers_at}
use Rattle.wire.proofs.Layouts.{length_numbers_at, numbers_at_next}
use Rattle.vset.specs.Columns.{rows4}
use Rattle.vset.specs.Tails.{tail, names_end}
use Rattle.vhead.specs.Heads.{names, head, head_in, field_at, head_fields, name_rows, head_names, named_field}
use Rattle.vset.specs.declared.tail.Tail.{Tail}
use Rattle.vhead.specs.declared.head.Head.{Head}
use Rattle.vhead.specs.declared.head.Start.{Start}
use Rattle.vhead.specs.declared.head.NamedField.{NamedField}
use Rattle.vhead.specs.declared.field.Numbers.{Numbers}
use Rattle.vset.proofs.Columns.{Four, length_rows4}
use Rattle.vset.proofs.Tails.{tail_in, read_tail, extent_tail}

-- ---- The names of fields

module _ {A : Type 0} (then : Layout A) where
  pub read_names : (n : ℕ) (e : List ℕ) (at : ℕ) → read (names n then) e at ≡ read then e (names_end e n at)
  unfolding read names names_end
  read_names zero e at = refl
  read_names (suc n) e at = ap (λ k. read (names n then) e (at + 2 + k)) (one-mul (be 2 e at)) ∙ read_names n e (at + 2 + be 2 e at)

  pub extent_names : (n : ℕ) (e : List ℕ) (at : ℕ) → extent (names n then) e at ≡ extent then e (names_end e n at)
  unfolding extent names names_end
  extent_names zero e at = refl
  extent_names (suc n) e at = ap (λ k. extent (names n then) e (at + 2 + k)) (one-mul (be 2 e at)) ∙ extent_names n e (at + 2 + be 2 e at)

-- ---- A record

-- a head by its first numbers, its field count, the places of its lists and its tail
abbrev head_with : Start → ℕ → ℕ → ℕ → ℕ → Tail → Head
head_with b n offsets orders names_at t =
    record {
      interlace = b.interlace;
      records = b.records;
      record_size = b.record_size;
      fields = n;
      types = 10;
      sizes = 10 + 2 * n;
      offsets = offsets;
      orders = orders;
      names = names_at;
      tail = t;
    }

-- with its lists one after the other, as its layout has them
abbrev pub started_head : Start → ℕ → Tail → Head
started_head b n t = head_with b n (10 + 2 * n + 2 * n) (10 + 2 * n + 2 * n + 2 * n) (10 + 2 * n + 2 * n + 2 * n + 2 * n) t

-- and with their places
abbrev pub placed_head : Start → ℕ → Tail → Head
placed_head b n t = head_with b n (10 + 4 * n) (10 + 6 * n) (10 + 8 * n) t

same_head : (b : Start) (n p q r : ℕ) (t : Tail) → p ≡ 10 + 4 * n → q ≡ 10 + 6 * n → r ≡ 10 + 8 * n → head_with b n p q r t ≡ placed_head b n t
same_head b n p q r t ep eq er = rw (ep, eq, er)

pub same_places : (b : Start) (n : ℕ) (t : Tail) → started_head b n t ≡ placed_head b n t
same_places b n t = same_head b n _ _ _ t (omega arith) (omega arith) (omega arith)

-- where the names start
pub names_place : (n : ℕ) → 10 + 2 * n + 2 * n + 2 * n + 2 * n + 0 * 0 ≡ 10 + 8 * n
names_place n = omega arith

-- the first numbers of a record, and the head that it is read as
abbrev pub started_in : List ℕ → Start
started_in e = record { interlace = be 2 e 0; records = be 4 e 2; record_size = be 2 e 6 }

abbrev pub placed : List ℕ → Head
placed e = let n = be 2 e 8 in placed_head (started_in e) n (tail_in e (names_end e n (10 + 8 * n)))

module _ (e : List ℕ) where
  laid_out : Tail → Head
  laid_out t = started_head (started_in e) (be 2 e 8) t

  pub head_is : head_in e ≡ placed e
  unfolding read laid_out
  head_is =
      let n = be 2 e 8 in
      read_names (tail laid_out) n e (10 + 2 * n + 2 * n + 2 * n + 2 * n + 0 * 0)
      ∙ read_tail laid_out e _
      ∙ same_places (started_in e) n _
      ∙ ap (λ at. placed_head (started_in e) n (tail_in e (names_end e n at))) (names_place n)

  -- where it ends
  pub head_ends : extent head e 0 ≡ (head_in e).tail.end
  unfolding extent laid_out
  head_ends =
      let n = be 2 e 8 in
      extent_names (tail laid_out) n e (10 + 2 * n + 2 * n + 2 * n + 2 * n + 0 * 0)
      ∙ extent_tail laid_out e _
      ∙ ap (λ at. (tail_in e (names_end e n at)).end) (names_place n)
      ∙ ap (λ h. h.tail.end) (sym head_is)

  pub fields_count : (head_in e).fields ≡ be 2 e 8
  fields_count = ap (λ h. h.fields) head_is

  pub fields_few : Bytes e → (head_in e).fields < 65536
  fields_few b = rw fields_count (number_small BigEndian 2 e 8 b)

  -- what is read, field by field
  pub head_reads : (n interlace records size : ℕ) (t : Tail) → Reads 2 e 8 n → Reads 2 e 0 interlace → Reads 4 e 2 records → Reads 2 e 6 size
      → t ≡ tail_in e (names_end e n (10 + 8 * n))
      → placed_head (record { interlace = interlace; records = records; record_size = size }) n t ≡ head_in e
  head_reads n interlace records size t rn ri rr rs rt = rw (rt, rn.is, ri.is, rr.is, rs.is) (sym head_is)

  -- the numbers of a field
  pub field_is : (n i : ℕ) → n ≡ (head_in e).fields
      → field_at e (head_in e) i
      ≡ record { code = be 2 e (10 + 2 * i); size = be 2 e (10 + 2 * n + 2 * i); offset = be 2 e (10 + 4 * n + 2 * i); order = be 2 e (10 + 6 * n + 2 * i) }
  field_is n i q = let m : be 2 e 8 ≡ n = sym (q ∙ fields_count) in ap (λ h. field_at e h i) head_is ∙ rw m

  -- the field of an index with its name
  pub named_field_lem : (n i : ℕ) (f : Numbers) (at k : ℕ) → n ≡ be 2 e 8 → f ≡ field_at e (head_in e) i → at ≡ names_end e i (10 + 8 * n) → k ≡ be 2 e at
      → ◌≡◌ {A = NamedField} (record { numbers = f; name = at + 2; length = k }) (named_field e i)
  named_field_lem n i f at k q r t u =
      let places : 10 + 8 * n ≡ (head_in e).names = ap (λ m. 10 + 8 * m) q ∙ ap (λ h. h.names) (sym head_is) in
      let a : at ≡ names_end e i (head_in e).names = t ∙ ap (names_end e i) places in
      rw (r, u, a)

-- ---- The list of fields

-- fields from the i-th on
abbrev pub fields_after : List ℕ → ℕ → ℕ → List ℕ
fields_after e n i =
    rows4 (numbers_at 2 (n - i) e (10 + 2 * i)) (numbers_at 2 (n - i) e (10 + 2 * n + 2 * i))
    (numbers_at 2 (n - i) e (10 + 4 * n + 2 * i)) (numbers_at 2 (n - i) e (10 + 6 * n + 2 * i))

-- all of them
abbrev pub all_fields : List ℕ → ℕ → List ℕ
all_fields e n = rows4 (numbers_at 2 n e 10) (numbers_at 2 n e (10 + 2 * n)) (numbers_at 2 n e (10 + 4 * n)) (numbers_at 2 n e (10 + 6 * n))

pub fields_are : (e : List ℕ) → head_fields e ≡ all_fields e (head_in e).fields
unfolding head_fields
fields_are e =
    ap (λ h. rows4 (numbers_at 2 h.fields e h.types) (numbers_at 2 h.fields e h.sizes) (numbers_at 2 h.fields e h.offsets) (numbers_at 2 h.fields e h.orders)) (head_is e)
    ∙ ap (all_fields e) (sym (fields_count e))

pub columns_long : (e : List ℕ) (n : ℕ) → Four n (numbers_at 2 n e 10) (numbers_at 2 n e (10 + 2 * n)) (numbers_at 2 n e (10 + 4 * n)) (numbers_at 2 n e (10 + 6 * n))
columns_long e n =
    let long = length_numbers_at 2 n e in
    record { first = long 10; second = long (10 + 2 * n); third = long (10 + 4 * n); fourth = long (10 + 6 * n) }

pub length_fields : (e : List ℕ) → length (head_fields e) ≡ 4 * (head_in e).fields
length_fields e = let n = (head_in e).fields in ap length (fields_are e) ∙ length_rows4 _ _ _ _ n (columns_long e n)

pub row_next : (e : List ℕ) (n i : ℕ) → i < n
    → fields_after e n i ≡ be 2 e (10 + 2 * i) ∷ be 2 e (10 + 2 * n + 2 * i) ∷ be 2 e (10 + 4 * n + 2 * i) ∷ be 2 e (10 + 6 * n + 2 * i) ∷ fields_after e n (i + 1)
unfolding rows4
row_next e n i h =
    rw (numbers_at_next 2 n e 10 i h, numbers_at_next 2 n e (10 + 2 * n) i h, numbers_at_next 2 n e (10 + 4 * n) i h, numbers_at_next 2 n e (10 + 6 * n) i h)

pub row_none : (e : List ℕ) (n i : ℕ) → n ≤ i → fields_after e n i ≡ []
unfolding rows4 numbers_at
row_none e n i h = let z : n - i ≡ 0 = omega arith in rw z

pub rows_from : (e : List ℕ) (n : ℕ) → fields_after e n 0 ≡ all_fields e n
rows_from e n =
    let z : n - 0 ≡ n = omega arith in
    let a : 10 + 2 * n + 2 * 0 ≡ 10 + 2 * n = omega arith in
    let b : 10 + 4 * n + 2 * 0 ≡ 10 + 4 * n = omega arith in
    let c : 10 + 6 * n + 2 * 0 ≡ 10 + 6 * n = omega arith in
    rw (z, a, b, c)

-- ---- The list of names

pub names_are : (start : ℕ) (e : List ℕ) → let n = (head_in e).fields in head_names start e ≡ name_rows start e n (10 + 8 * n)
unfolding head_names
names_are start e = ap (λ h. name_rows start e h.fields h.names) (head_is e) ∙ ap (λ n. name_rows start e n (10 + 8 * n)) (sym (fields_count e))

pub length_names : (start : ℕ) (e : List ℕ) (n at : ℕ) → length (name_rows start e n at) ≡ 2 * n
unfolding name_rows
length_names start e zero at = refl
length_names start e (suc n) at = omega (arith, length_names start e n (at + 2 + be 2 e at))

pub name_next : (start : ℕ) (e : List ℕ) (n i at : ℕ) → i < n
    → name_rows start e (n - i) at ≡ (start + (at + 2)) ∷ be 2 e at ∷ name_rows start e (n - (i + 1)) (at + 2 + be 2 e at)
unfolding name_rows
name_next start e n i at h = let m : n - i ≡ suc (n - (i + 1)) = omega arith in rw m

pub name_none : (start : ℕ) (e : List ℕ) (n i at : ℕ) → n ≤ i → name_rows start e (n - i) at ≡ []
unfolding name_rows
name_none start e n i at h = let z : n - i ≡ 0 = omega arith in rw z
