-- Laws of heads of Vdatas read and packed in turn: what was read is packed as it stood, and what was packed is read as it was. Assumes nothing.
use Prim.Native.Nat.{ℕ, zero, suc, ◌+◌, ◌*◌, ◌-◌, ◌<◌, ◌≤◌}
use native.Mathlib.Omega.{arith}
use mathlib.Core.Path.{◌≡◌, refl, sym, ap, ◌∙◌}
use mathlib.Core.List.{List, [], ◌∷◌, ◌++◌}
use lib.ListN.{length, get_or, drop, length-append}
use Rattle.std.specs.Prelude.{sum}
use Rattle.wire.specs.Numbers.{be, part, Bytes}
use Rattle.wire.specs.Layouts.{read, extent, numbers, pack, given, numbers_at, Fits}
use Rattle.wire.proofs.Layouts.{length_numbers_at, number_at, pack_numbers, PackedAt, packed_at}
use Rattle.vset.specs.Limits.{only_version}
use Rattle.vset.specs.Columns.{every}
use Rattle.vset.specs.Tails.{tail, tail_numbers, names_end}
use Rattle.vset.specs.declared.tail.Tail.{Tail}
use Rattle.vset.specs.declared.tail.Ending.{Ending}
use Rattle.vset.proofs.Columns.{append_split, get_or_every, take_column, drop_column, length_every, every_small, length_rows4, rows4_columns, rows4_every}
use Rattle.vset.proofs.Tails.{Narrow, tail_in, ending_of, tail_given, numbers_tail, given_tail, tail_fits, tail_parts, fault_sound, tail_own}
use Rattle.vhead.specs.Limits.{most_head_interlace, most_fields}
use Rattle.vhead.specs.Heads.{names, head, head_in, field_at, fields_from, row_at, fields_of, fields_fault, head_fault, head_fields, name_rows, head_names, names_apart, head_bytes, head_pack_fault}
use Rattle.vhead.specs.declared.head.Head.{Head}
use Rattle.vhead.specs.declared.head.Start.{Start}
use Rattle.vhead.proofs.Heads.{started_head, placed_head, same_places, names_place, started_in, placed, head_is, head_ends, all_fields, fields_are, columns_long, names_are}
use Rattle.vhead.proofs.HeadsPacked.{fault_goes_on, names_after, after_is, head_numbers_of, PackSound}
use Rattle.vhead.proofs.HeadsRead.{head_goes_on, head_passed}
use Rattle.vhead.proofs.HeadsNamed.{parts_at, numbers_names, names_given, names_fit, parts_long, names_same, parts_image, lengths_image, Within}

-- ---- The numbers of a record

-- the numbers of a head with these fields and names, in the order of the record
abbrev numbers_of : Start → List ℕ → List ℕ → List ℕ → List ℕ → List ℕ → Ending → List ℕ
numbers_of b rows lengths all name class x = head_numbers_of b rows lengths (names_apart lengths all ++ tail_numbers name class x)

-- the first numbers of a record with so many fields, with the last two lists at these places, and what stands after them
abbrev up_to : List ℕ → ℕ → ℕ → ℕ → List ℕ → List ℕ
up_to e n offsets orders more =
    be 2 e 0 ∷ be 4 e 2 ∷ be 2 e 6 ∷ n
    ∷ (numbers_at 2 n e 10 ++ (numbers_at 2 n e (10 + 2 * n) ++ (numbers_at 2 n e offsets ++ (numbers_at 2 n e orders ++ more))))

abbrev fields_then : List ℕ → ℕ → List ℕ → List ℕ
fields_then e n more = up_to e n (10 + 4 * n) (10 + 6 * n) more

-- all its numbers
abbrev shape : List ℕ → ℕ → List ℕ
shape e n =
    let rows = name_rows 0 e n (10 + 8 * n) in
    fields_then e n (names_apart (every 1 2 n rows) (parts_at e rows) ++ numbers (tail (λ t. t)) e (names_end e n (10 + 8 * n)))

pub tail_on : (e : List ℕ) (at : ℕ) → at ≤ (tail_in e at).end
unfolding read
tail_on e at = omega arith

same_tail : {A : Type 0} (f : Tail → A) (e : List ℕ) (at : ℕ) → numbers (tail f) e at ≡ numbers (tail (λ t. t)) e at
unfolding numbers
same_tail f e at = refl

module _ (e : List ℕ) where
  same_lists : (n p q r : ℕ) (last : ℕ → List ℕ) → p ≡ 10 + 4 * n → q ≡ 10 + 6 * n → r ≡ 10 + 8 * n → up_to e n p q (last r) ≡ fields_then e n (last (10 + 8 * n))
  same_lists n p q r last ep eq er = rw (ep, eq, er)

  -- field by field
  numbers_apart : let n = be 2 e 8 in numbers head e 0 ≡ fields_then e n (numbers (names n (tail (started_head (started_in e) n))) e (10 + 8 * n))
  unfolding numbers numbers_at
  numbers_apart =
      let n = be 2 e 8 in
      same_lists n _ _ _ (λ at. numbers (names n (tail (started_head (started_in e) n))) e at) (omega arith) (omega arith) (names_place n)

  module _ (inside : (placed e).tail.end ≤ length e) where
    names_inside : let n = be 2 e 8 in names_end e n (10 + 8 * n) ≤ length e
    names_inside = let n = be 2 e 8 in omega (arith, tail_on e (names_end e n (10 + 8 * n)))

    numbers_shape : numbers head e 0 ≡ shape e (be 2 e 8)
    numbers_shape =
        let n = be 2 e 8 in
        let f = started_head (started_in e) n in
        let rows = name_rows 0 e n (10 + 8 * n) in
        numbers_apart
        ∙ ap (fields_then e n)
        (numbers_names (tail f) n e (10 + 8 * n) names_inside
        ∙ ap (λ l. names_apart (every 1 2 n rows) (parts_at e rows) ++ l) (same_tail f e (names_end e n (10 + 8 * n))))

-- ---- Fields

-- fields are read as their rows have them
module _ (e rows : List ℕ) (n : ℕ) (h : Head) (first : numbers_at 2 n e h.types ≡ every 0 4 n rows) (second : numbers_at 2 n e h.sizes ≡ every 1 4 n rows)
    (third : numbers_at 2 n e h.offsets ≡ every 2 4 n rows) (fourth : numbers_at 2 n e h.orders ≡ every 3 4 n rows) where
  entry : (at k place i : ℕ) → numbers_at 2 n e at ≡ every k 4 n rows → i < n → k + 4 * i ≡ place → be 2 e (at + 2 * i) ≡ get_or rows place 0
  entry at k place i q m z =
      sym (number_at 2 n e at i m) ∙ ap (λ l. get_or l i 0) q ∙ get_or_every k 4 n rows i m ∙ ap (λ j. get_or rows j 0) z

  same_row : (i : ℕ) → i < n → field_at e h i ≡ row_at rows i
  same_row i m =
      rw (
        entry h.types 0 (4 * i) i first m (omega arith),
        entry h.sizes 1 (4 * i + 1) i second m (omega arith),
        entry h.offsets 2 (4 * i + 2) i third m (omega arith),
        entry h.orders 3 (4 * i + 3) i fourth m (omega arith),
      )

  same_rows : (k i : ℕ) → i + k ≤ n → fields_from (field_at e h) k i ≡ fields_from (row_at rows) k i
  unfolding fields_from
  same_rows zero i m = refl
  same_rows (suc k) i m = rw (same_row i (omega arith), same_rows k (i + 1) (omega arith))

-- ---- Packing what was read

module _ (e : List ℕ) (inside : (placed e).tail.end ≤ length e) where
  own_numbers : let n = be 2 e 8 in let rows = name_rows 0 e n (10 + 8 * n) in let t = (placed e).tail in
      numbers head e 0
      ≡ numbers_of (started_in e) (all_fields e n) (every 1 2 n rows) (parts_at e rows) (part e t.name t.name_length) (part e t.class t.class_length) (ending_of t)
  own_numbers =
      let n = be 2 e 8 in
      let rows = name_rows 0 e n (10 + 8 * n) in
      let c = rows4_columns _ _ _ _ n (columns_long e n) in
      let at = names_end e n (10 + 8 * n) in
      rw (length_every 1 2 n rows, c.first, c.second, c.third, c.fourth)
      (numbers_shape e inside
      ∙ ap (λ l. fields_then e n (names_apart (every 1 2 n rows) (parts_at e rows) ++ l))
      (numbers_tail (λ t. t) e at inside))

  pack_placed : Bytes e → let n = be 2 e 8 in let rows = name_rows 0 e n (10 + 8 * n) in let t = (placed e).tail in
      head_bytes (started_in e) (all_fields e n) (every 1 2 n rows) (parts_at e rows) (part e t.name t.name_length) (part e t.class t.class_length) (ending_of t)
      ≡ part e 0 t.end
  unfolding head_bytes
  pack_placed b =
      let ends : extent head e 0 ≡ (placed e).tail.end = head_ends e ∙ ap (λ h. h.tail.end) (head_is e) in
      ap (λ xs. pack head xs 0) (sym own_numbers)
      ∙ pack_numbers head e 0 b (omega arith)
      ∙ ap (part e 0) (let z : extent head e 0 - 0 ≡ (placed e).tail.end = omega arith in z)

  -- and what was read breaks no rule of packing
  placed_passes : Bytes e → be 2 e 8 ≤ most_fields → be 2 e 0 ≤ most_head_interlace → (placed e).tail.version ≡ only_version
      → fields_fault (be 2 e 6) (fields_of e (placed e)) ≡ 0
      → let n = be 2 e 8 in let rows = name_rows 0 e n (10 + 8 * n) in let t = (placed e).tail in
      head_pack_fault (started_in e) (all_fields e n) (every 1 2 n rows) (length (parts_at e rows))
      (length (part e t.name t.name_length)) (length (part e t.class t.class_length)) t.version ≡ 0
  placed_passes b few interlace version fields =
      let n = be 2 e 8 in
      let at = 10 + 8 * n in
      let long : length (every 1 2 n (name_rows 0 e n at)) ≡ n = length_every 1 2 n (name_rows 0 e n at) in
      let c = rows4_columns _ _ _ _ n (columns_long e n) in
      fault_goes_on _ _ _ _ _ _ _ (rw long few) (rw long (length_rows4 _ _ _ _ n (columns_long e n))) (parts_long n e at (names_inside e inside)) interlace
      ∙ fault_sound _ _ _ (tail_own e (names_end e n at) b inside version) _
      ∙ rw long
      (ap (fields_fault (be 2 e 6)) (sym (same_rows e (all_fields e n) n (placed e) (sym c.first) (sym c.second) (sym c.third) (sym c.fourth) n 0 (omega arith)))
      ∙ fields)

-- the first numbers of a head that was read
abbrev pub start_in : Head → Start
start_in h = record { interlace = h.interlace; records = h.records; record_size = h.record_size }

pub pack_own : (e : List ℕ) → head_fault e ≡ 0 → Bytes e → let h = head_in e in
    head_bytes (start_in h) (head_fields e) (every 1 2 h.fields (head_names 0 e)) (parts_at e (head_names 0 e))
    (part e h.tail.name h.tail.name_length) (part e h.tail.class h.tail.class_length) (ending_of h.tail)
    ≡ part e 0 h.tail.end
pack_own e sound b =
    let inside : (placed e).tail.end ≤ length e = rw head_is at (head_passed e sound).inside in
    rw (fields_are e, names_are 0 e, head_is e) (pack_placed e inside b)

pub own_passes : (e : List ℕ) → head_fault e ≡ 0 → Bytes e → let h = head_in e in
    head_pack_fault (start_in h) (head_fields e) (every 1 2 h.fields (head_names 0 e)) (length (parts_at e (head_names 0 e)))
    (length (part e h.tail.name h.tail.name_length)) (length (part e h.tail.class h.tail.class_length)) h.tail.version ≡ 0
own_passes e sound b =
    let k = head_passed e sound in
    rw (fields_are e, names_are 0 e, head_is e)
    (placed_passes e (rw head_is at k.inside) b (rw head_is at k.few) (rw head_is at k.interlace) (rw head_is at k.version) (rw head_is at k.fields))

-- ---- Reading what was packed

module _ (b : Start) (rows lengths all name class : List ℕ) (x : Ending)
    (rules : PackSound b rows lengths (length all) (length name) (length class) x.version) where
  enough : sum lengths ≤ length all
  enough = omega (arith, rules.sum)

  -- where the tail stands, and the record as it is read back
  abbrev tailed : ℕ
  tailed = 10 + 10 * length lengths + length all

  abbrev packed : Head
  packed = placed_head b (length lengths) (tail_given name class x tailed)

  -- what reading the bytes e gives back, also where they are a part of an image s
  pub record ReadBack (e : List ℕ) : Type 0 where
    pub read_is : head_in e ≡ packed
    pub sound : head_fault e ≡ 0
    pub fields_are : head_fields e ≡ rows
    pub lengths_are : (start : ℕ) → every 1 2 (length lengths) (head_names start e) ≡ lengths
    pub names_are : (s : List ℕ) (start : ℕ) → Within s start e → parts_at s (head_names start e) ≡ all
    pub name_is : let t = packed.tail in part e t.name t.name_length ≡ name
    pub class_is : let t = packed.tail in part e t.class t.class_length ≡ class
    pub inside : tailed + 2 + length name + 2 + length class + 8 ≤ length e

  given_back : given head (numbers_of b rows lengths all name class x) 0 ≡ packed
  unfolding given
  given_back =
      let n = length lengths in
      let f = started_head b n in
      let at = 10 + 2 * n + 2 * n + 2 * n + 2 * n + 0 * 0 in
      let z : names_after at lengths ≡ tailed = omega (arith, after_is at lengths, rules.sum) in
      let last : drop n (drop n (drop n (drop n (drop 4 (numbers_of b rows lengths all name class x))))) ≡ names_apart lengths all ++ tail_numbers name class x =
      simp drop_column in
      ap (λ l. given (names n (tail f)) l at) last
      ∙ names_given (tail f) lengths all (tail_numbers name class x) at enough
      ∙ given_tail f name class x (names_after at lengths)
      ∙ same_places b n _
      ∙ ap (λ k. placed_head b n (tail_given name class x k)) z

  module _ (records : b.records < 4294967296) (record_size : b.record_size < 65536) (narrow : (i : ℕ) → get_or rows i 0 < 65536)
      (short : (i : ℕ) → get_or lengths i 0 < 65536) (told : Bytes all) (named : Bytes name) (classed : Bytes class) (ending : Narrow x) where
    fits : Fits head (numbers_of b rows lengths all name class x) 0
    fits =
        let n = length lengths in
        let at = 10 + 2 * n + 2 * n + 2 * n + 2 * n + 0 * 0 in
        let small : (k : ℕ) (i : ℕ) → get_or (every k 4 n rows) i 0 < 65536 = λ k. every_small k 4 n rows 65536 (omega arith) narrow in
        let long : (k : ℕ) (l : List ℕ) → n ≤ length (every k 4 n rows ++ l) = λ k l. omega (arith, length-append (every k 4 n rows) l, length_every k 4 n rows) in
        let last =
        tail_fits (started_head b n) name class x (names_after at lengths) named (omega (arith, rules.tail_sound.name_short)) classed (omega (arith, rules.tail_sound.class_short)) ending in
        let named = names_fit (tail (started_head b n)) lengths all (tail_numbers name class x) at told short enough last in
        simp (take_column, drop_column) (
          omega arith,
          omega (arith, rules.interlace),
          (
            omega arith,
            records,
            (
              omega arith,
              record_size,
              (
                omega arith,
                omega (arith, rules.few),
                (long 0 _, small 0, (long 1 _, small 1, (long 2 _, small 2, (long 3 _, small 3, (omega arith, (λ i. omega arith), named))))),
              ),
            ),
          ),
        )

    module _ (e rest : List ℕ) (is : e ≡ head_bytes b rows lengths all name class x ++ rest) where
      back : PackedAt head (numbers_of b rows lengths all name class x) e 0
      unfolding head_bytes
      back = packed_at head (numbers_of b rows lengths all name class x) 0 fits [] rest e refl is

      is_packed : head_in e ≡ packed
      is_packed = back.read_is ∙ given_back

      count_back : be 2 e 8 ≡ length lengths
      count_back = sym (ap (λ h. h.fields) (head_is e)) ∙ ap (λ h. h.fields) is_packed

      ends_inside : (head_in e).tail.end ≤ length e
      unfolding head_bytes
      ends_inside = omega (arith, head_ends e, back.ends, ap length is, length-append (head_bytes b rows lengths all name class x) rest)

      placed_inside : (placed e).tail.end ≤ length e
      placed_inside = omega (arith, ends_inside, ap (λ h. h.tail.end) (head_is e))

      -- the fields, the names and the tail, out of the record's numbers
      numbers_back : shape e (length lengths) ≡ numbers_of b rows lengths all name class x
      numbers_back = ap (shape e) (sym count_back) ∙ sym (numbers_shape e placed_inside) ∙ back.numbers_are

      names_end_lem : let n = length lengths in names_end e n (10 + 8 * n) ≤ length e
      names_end_lem = rw count_back at (names_inside e placed_inside)

      record Recovered : Type 0 where
        first : let n = length lengths in numbers_at 2 n e 10 ≡ every 0 4 n rows
        second : let n = length lengths in numbers_at 2 n e (10 + 2 * n) ≡ every 1 4 n rows
        third : let n = length lengths in numbers_at 2 n e (10 + 4 * n) ≡ every 2 4 n rows
        fourth : let n = length lengths in numbers_at 2 n e (10 + 6 * n) ≡ every 3 4 n rows
        lengths_are : let n = length lengths in every 1 2 n (name_rows 0 e n (10 + 8 * n)) ≡ lengths
        all_are : let n = length lengths in parts_at e (name_rows 0 e n (10 + 8 * n)) ≡ all
        tail_is : let n = length lengths in numbers (tail (λ t. t)) e (names_end e n (10 + 8 * n)) ≡ tail_numbers name class x

      recovered : Recovered
      recovered =
          let n = length lengths in
          let r = name_rows 0 e n (10 + 8 * n) in
          let p = append_split n (numbers_at 2 n e 10) (every 0 4 n rows) _ _ (length_numbers_at 2 n e 10) (length_every 0 4 n rows) (ap (drop 4) numbers_back) in
          let p1 = append_split n (numbers_at 2 n e (10 + 2 * n)) (every 1 4 n rows) _ _ (length_numbers_at 2 n e (10 + 2 * n)) (length_every 1 4 n rows) p.1 in
          let p2 = append_split n (numbers_at 2 n e (10 + 4 * n)) (every 2 4 n rows) _ _ (length_numbers_at 2 n e (10 + 4 * n)) (length_every 2 4 n rows) p1.1 in
          let p3 = append_split n (numbers_at 2 n e (10 + 6 * n)) (every 3 4 n rows) _ _ (length_numbers_at 2 n e (10 + 6 * n)) (length_every 3 4 n rows) p2.1 in
          let m = names_same (every 1 2 n r) lengths (parts_at e r) all _ _ (length_every 1 2 n r) (parts_long n e (10 + 8 * n) names_end_lem) rules.sum p3.1 in
          record { first = p.0; second = p1.0; third = p2.0; fourth = p3.0; lengths_are = m.0; all_are = m.1; tail_is = m.2 }

      fields_back : head_fields e ≡ rows
      fields_back =
          let n = length lengths in
          let c = recovered in
          fields_are e
          ∙ ap (all_fields e) (ap (λ h. h.fields) is_packed)
          ∙ rw (c.first, c.second, c.third, c.fourth) (rows4_every n rows rules.four)

      sound_back : head_fault e ≡ 0
      sound_back =
          let c = recovered in
          head_goes_on _ _ refl ends_inside (ap (λ h. h.tail.version) is_packed ∙ rules.tail_sound.version_right)
          (rw (ap (λ h. h.interlace) is_packed) rules.interlace)
          (rw (ap (λ h. h.fields) is_packed) rules.few)
          ∙ (ap (λ h. fields_fault h.record_size (fields_of e h)) is_packed
          ∙ ap (fields_fault b.record_size) (same_rows e rows (length lengths) packed c.first c.second c.third c.fourth (length lengths) 0 (omega arith))
          ∙ rules.fields_sound)

      tail_back : let n = length lengths in tail_in e (names_end e n (10 + 8 * n)) ≡ tail_given name class x tailed
      tail_back =
          ap (λ n. tail_in e (names_end e n (10 + 8 * n))) (sym count_back)
          ∙ sym (ap (λ h. h.tail) (head_is e))
          ∙ ap (λ h. h.tail) is_packed

      parts_back : let t = tail_given name class x tailed in (part e t.name t.name_length ≡ name) × (part e t.class t.class_length ≡ class)
      parts_back = tail_parts (λ t. t) e _ name class x _ tail_back (omega (arith, ends_inside, ap (λ h. h.tail.end) is_packed)) recovered.tail_is

      names_back : (start : ℕ) → let n = length lengths in head_names start e ≡ name_rows start e n (10 + 8 * n)
      names_back start = names_are start e ∙ ap (λ k. name_rows start e k (10 + 8 * k)) (ap (λ h. h.fields) is_packed)

      pub read_back : ReadBack e
      read_back =
          let n = length lengths in
          record {
            read_is = is_packed;
            sound = sound_back;
            fields_are = fields_back;
            lengths_are = λ start. ap (every 1 2 n) (names_back start) ∙ lengths_image start e n (10 + 8 * n) ∙ recovered.lengths_are;
            names_are = λ s start within. ap (parts_at s) (names_back start) ∙ parts_image s start e within n (10 + 8 * n) names_end_lem ∙ recovered.all_are;
            name_is = parts_back.0;
            class_is = parts_back.1;
            inside = omega (arith, ends_inside, ap (λ h. h.tail.end) is_packed);
          }
