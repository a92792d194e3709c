-- Laws of packing a Vdata head: its rules, the names laid one after the other, and the bytes. Assumes nothing.
use Prim.Native.Nat.{ℕ, suc, ◌+◌, ◌*◌, ◌<◌, ◌≤◌}
use native.Mathlib.Omega.{arith}
use native.Mathlib.Numerals.{add-one}
use mathlib.Core.Path.{◌≡◌, refl, sym, ap, ◌∙◌}
use mathlib.Core.List.{List, [], ◌∷◌, ◌++◌, append_assoc}
use lib.ListN.{length, get_or, take, drop, length-append, length-drop, drop_of_length-le}
use lib.Seq.{take_at, drop_at, drop-cons, drop-drop, length-take-le}
use lib.Dec.{leb, eqb}
use borrow.Author.Tests.{leb-true, le-leb, eqb-true, eq-eqb}
use Rattle.std.specs.Prelude.{sum, Result, Ok, Err, OnOk}
use Rattle.wire.specs.Numbers.{bytes, put, part, Bytes}
use Rattle.wire.specs.declared.ByteOrder.TheVariants.{BigEndian}
use Rattle.wire.proofs.Numbers.{length_bytes, length_put, bytes_take, bytes_drop}
use Rattle.answer.proofs.Search.{must_holds, passed}
use Rattle.answer.specs.Refusals.{RECORD}
use Rattle.wire.specs.Layouts.{Layout, pack, bytes_each}
use Rattle.wire.proofs.Layouts.{length_bytes_each}
use Rattle.vhead.specs.Limits.{most_head_interlace, most_fields}
use Rattle.vset.specs.Columns.{every}
use Rattle.vset.specs.Tails.{tail, tail_numbers, tail_pack_fault}
use Rattle.vhead.specs.Heads.{names, fields_in, fields_fault, names_apart, head_bytes, head_pack_fault}
use Rattle.vhead.specs.Steps.{Packable, start_bytes, column_bytes, columns_bytes, names_bytes}
use Rattle.vset.specs.declared.tail.Tail.{Tail}
use Rattle.vset.specs.declared.tail.Ending.{Ending}
use Rattle.vhead.specs.declared.head.Start.{Start}
use Rattle.vset.proofs.Columns.{length_every, take_column, drop_column}
use Rattle.vhead.proofs.HeadsJudged.{sum_first, sum_next}
use Rattle.vhead.proofs.Heads.{started_head}
use Rattle.vset.proofs.Tails.{bytes_each_lem, tail_bytes, pack_tail, put_follows, Sound, fault_passed}

-- ---- The sum of the lengths

pub sum_low : (lengths : List ℕ) → ((i : ℕ) → get_or lengths i 0 < 65536) → sum lengths ≤ 65536 * length lengths
sum_low [] h = omega arith
sum_low (n ∷ ns) h = omega (arith, h 0, sum_first n ns, sum_low ns (λ i. h (suc i)))

-- ---- Names laid one after the other

-- a part of a list has its length
length_own : (all : List ℕ) (from n : ℕ) → from + n ≤ length all → length (take n (drop from all)) ≡ n
length_own all from n h = length-take-le n (drop from all) (omega (arith, length-drop from all))

-- what is left after a name
pub length_rest : (n m : ℕ) (all : List ℕ) → n + m ≤ length all → m ≤ length (drop n all)
length_rest n m all h = omega (arith, length-drop n all)

module _ (lengths all : List ℕ) where
  -- the first of those from the i-th on, then the rest
  names_next : (from i : ℕ) → i < length lengths → let n = get_or lengths i 0 in
      names_bytes (drop i lengths) (drop from all) ≡ bytes 2 n ++ (take n (drop from all) ++ names_bytes (drop (i + 1) lengths) (drop (from + n) all))
  unfolding names_bytes
  names_next from i h = rw (add-one, drop-cons lengths i 0 h, drop-drop (get_or lengths i 0) from all)

  -- so many names are laid: those that are left, laid on what is there, give the whole
  pub record LayingNames (out₀ : List ℕ) (at : ℕ) (out : List ℕ) (from i : ℕ) : Type 0 where
    pub upto : i ≤ length lengths
    pub long : length out ≡ length out₀
    pub sum : from + sum (drop i lengths) ≡ sum lengths
    pub left : put out (at + 2 * i + from) (names_bytes (drop i lengths) (drop from all)) ≡ put out₀ at (names_bytes lengths all)

  module _ (out₀ : List ℕ) (at : ℕ) where
    pub names_start : LayingNames out₀ at out₀ 0 0
    names_start = let a : at + 2 * 0 + 0 ≡ at = omega arith in record { upto = omega arith; long = refl; sum = omega arith; left = rw a }

    module _ (out : List ℕ) (from i : ℕ) (w : LayingNames out₀ at out from i) where
      -- the name stands among the names
      pub name_inside : i < length lengths → length all ≡ sum lengths → from + get_or lengths i 0 ≤ length all
      name_inside h l = omega (arith, w.sum, sum_next lengths i h)

      pub names_step : i < length lengths → length all ≡ sum lengths → (a b name : List ℕ) → let n = get_or lengths i 0 in
          a ≡ put out (at + 2 * i + from) (bytes 2 n) → name ≡ part all from n → b ≡ put a (at + 2 * i + from + 2) name
          → LayingNames out₀ at b (from + n) (i + 1)
      unfolding part
      names_step h l a b name ea en eb =
          let n = get_or lengths i 0 in
          let to = at + 2 * i + from in
          let own = take n (drop from all) in
          let rest = names_bytes (drop (i + 1) lengths) (drop (from + n) all) in
          let inside : from + n ≤ length all = name_inside h l in
          let k : length own ≡ n = length_own all from n inside in
          let two : length (bytes 2 n) ≡ 2 = length_bytes BigEndian 2 n in
          let is : b ≡ put (put out to (bytes 2 n)) (to + 2) own = eb ∙ rw (ea, en) in
          record {
            upto = omega arith;
            long = ap length is ∙ length_put (put out to (bytes 2 n)) (to + 2) own ∙ length_put out to (bytes 2 n) ∙ w.long;
            sum = omega (arith, w.sum, sum_next lengths i h);
            left =
                ap (λ y. put y (at + 2 * (i + 1) + (from + n)) rest) is
                ∙ put_follows (put out to (bytes 2 n)) (to + 2) (at + 2 * (i + 1) + (from + n)) own rest (omega arith)
                ∙ put_follows out to (to + 2) (bytes 2 n) (own ++ rest) (omega arith)
                ∙ ap (put out to) (sym (names_next from i h))
                ∙ w.left;
          }

      pub names_done : length lengths ≤ i → out ≡ put out₀ at (names_bytes lengths all)
      unfolding names_bytes put
      names_done h = rw (drop_of_length-le lengths h) at w.left

-- ---- Rules

module _ (b : Start) (rows lengths : List ℕ) (all name class version : ℕ) where
  -- where the rules before those of the tail hold
  pub fault_goes_on : length lengths ≤ most_fields → length rows ≡ 4 * length lengths → all ≡ sum lengths → b.interlace ≤ most_head_interlace
      → head_pack_fault b rows lengths all name class version ≡ tail_pack_fault name class version (fields_fault b.record_size (fields_in rows (length lengths)))
  unfolding head_pack_fault
  fault_goes_on few four whole i =
      must_holds _ RECORD _ (le-leb _ _ few)
      ∙ must_holds _ RECORD _ (eq-eqb _ _ four)
      ∙ must_holds _ RECORD _ (eq-eqb _ _ whole)
      ∙ must_holds _ RECORD _ (le-leb _ _ i)

  -- what breaks no rule
  pub record PackSound : Type 0 where
    pub few : length lengths ≤ most_fields
    pub four : length rows ≡ 4 * length lengths
    pub sum : all ≡ sum lengths
    pub interlace : b.interlace ≤ most_head_interlace
    pub tail_sound : Sound name class version
    pub fields_sound : fields_fault b.record_size (fields_in rows (length lengths)) ≡ 0

  pub pack_passed : head_pack_fault b rows lengths all name class version ≡ 0 → PackSound
  unfolding head_pack_fault
  pack_passed e =
      let p = passed (leb (length lengths) most_fields) 14 _ e in
      let q = passed (eqb (length rows) (4 * length lengths)) 14 _ p.1 in
      let r = passed (eqb all (sum lengths)) 14 _ q.1 in
      let t = passed (leb b.interlace most_head_interlace) 14 _ r.1 in
      let u = fault_passed name class version _ t.1 in
      record {
        few = leb-true _ _ p.0;
        four = eqb-true _ _ q.0;
        sum = eqb-true _ _ r.0;
        interlace = leb-true _ _ t.0;
        tail_sound = u.0;
        fields_sound = u.1;
      }

-- and how long they are, where nothing is refused
pub packable : {A E : Type 0} (r : Result A E) (lengths : List ℕ) (names name class version : ℕ) → ((i : ℕ) → get_or lengths i 0 < 65536)
    → length lengths ≤ most_fields → names ≡ sum lengths → tail_pack_fault name class version 0 ≡ 0 → OnOk r (Packable lengths names name class)
packable (Err e) lengths names name class version small few own z = tt
packable (Ok a) lengths names name class version small few own z =
    let tail = (fault_passed name class version 0 z).0 in
    record { few = few; own = own; low = omega (arith, sum_low lengths small); name_short = tail.name_short; class_short = tail.class_short }

-- ---- The bytes of the names

-- where the names end
unfoldable pub names_after : ℕ → List ℕ → ℕ
names_after at [] = at
names_after at (n ∷ ns) = names_after (at + 2 + 1 * n) ns

pub after_is : (at : ℕ) (lengths : List ℕ) → names_after at lengths ≡ at + 2 * length lengths + sum lengths
unfolding names_after
after_is at [] = omega arith
after_is at (n ∷ ns) = omega (arith, sum_first n ns, after_is (at + 2 + 1 * n) ns)

pub length_names_bytes : (lengths all : List ℕ) → sum lengths ≤ length all → length (names_bytes lengths all) ≡ 2 * length lengths + sum lengths
unfolding names_bytes
length_names_bytes [] all h = omega arith
length_names_bytes (n ∷ ns) all h =
    let e = sum_first n ns in
    let own : length (take n all) ≡ n = length-take-le n all (omega arith) in
    simp (length-append, length_bytes, own, length_names_bytes ns (drop n all) (length_rest n (sum ns) all (omega arith))) (omega arith)

module _ {A : Type 0} (then : Layout A) where
  pub pack_names : (lengths all more : List ℕ) (at : ℕ) → Bytes all → sum lengths ≤ length all
      → pack (names (length lengths) then) (names_apart lengths all ++ more) at ≡ names_bytes lengths all ++ pack then more (names_after at lengths)
  unfolding pack names names_apart names_bytes names_after
  pack_names [] all more at b h = refl
  pack_names (n ∷ ns) all more at b h =
      let e = sum_first n ns in
      let own = take n all in
      let rest = names_apart ns (drop n all) in
      let k : length own ≡ n = length-take-le n all (omega arith) in
      rw (
        append_assoc own rest more,
        take_at own (rest ++ more) n k,
        drop_at own (rest ++ more) n k,
        bytes_each_lem own (bytes_take n all b),
        pack_names ns (drop n all) more (at + 2 + 1 * n) (bytes_drop n all b) (length_rest n (sum ns) all (omega arith)),
      ) (simp append_assoc)

-- names, then a tail
module _ {A : Type 0} (f : Tail → A) where
  pack_last : (lengths all name class : List ℕ) (x : Ending) (at : ℕ) → Bytes all → sum lengths ≤ length all → Bytes name → Bytes class
      → pack (names (length lengths) (tail f)) (names_apart lengths all ++ tail_numbers name class x) at ≡ names_bytes lengths all ++ tail_bytes name class x
  pack_last lengths all name class x at b h n k =
      pack_names (tail f) lengths all (tail_numbers name class x) at b h
      ∙ ap (λ l. names_bytes lengths all ++ l) (pack_tail f name class x (names_after at lengths) n k)

-- ---- The bytes of a head

-- a column of the rows
abbrev pub column : List ℕ → List ℕ → ℕ → List ℕ
column rows lengths first = column_bytes rows (length lengths) first

length_column : (rows : List ℕ) (n first : ℕ) → length (column_bytes rows n first) ≡ 2 * n
length_column rows n first = length_bytes_each 2 (every first 4 n rows) ∙ ap (λ k. 2 * k) (length_every first 4 n rows)

length_columns : (rows : List ℕ) (n : ℕ) → length (columns_bytes rows n) ≡ 8 * n
length_columns rows n =
    simp length-append (omega (arith, length_column rows n 0, length_column rows n 1, length_column rows n 2, length_column rows n 3))

length_start : (b : Start) (n : ℕ) → length (start_bytes b n) ≡ 10
length_start b n = simp (length-append, length_bytes)

-- the start, number by number
pub laid_start : (out : List ℕ) (b : Start) (n : ℕ) (s₀ s₁ s₂ s₃ : List ℕ) → s₀ ≡ put out 0 (bytes 2 b.interlace)
    → s₁ ≡ put s₀ 2 (bytes 4 b.records) → s₂ ≡ put s₁ 6 (bytes 2 b.record_size) → s₃ ≡ put s₂ 8 (bytes 2 n) → s₃ ≡ put out 0 (start_bytes b n)
laid_start out b n s₀ s₁ s₂ s₃ e₀ e₁ e₂ e₃ =
    rw (e₃, e₂, e₁, e₀)
    (put_follows _ _ _ _ _ (omega (arith, length_bytes BigEndian 2 b.record_size))
    ∙ put_follows _ _ _ _ _ (omega (arith, length_bytes BigEndian 4 b.records))
    ∙ put_follows _ _ _ _ _ (omega (arith, length_bytes BigEndian 2 b.interlace)))

-- the columns, one after the other
pub laid_columns : (out rows : List ℕ) (n : ℕ) (s₀ s₁ s₂ s₃ : List ℕ) → s₀ ≡ put out 10 (column_bytes rows n 0)
    → s₁ ≡ put s₀ (10 + 2 * n) (column_bytes rows n 1) → s₂ ≡ put s₁ (10 + 4 * n) (column_bytes rows n 2) → s₃ ≡ put s₂ (10 + 6 * n) (column_bytes rows n 3)
    → s₃ ≡ put out 10 (columns_bytes rows n)
laid_columns out rows n s₀ s₁ s₂ s₃ e₀ e₁ e₂ e₃ =
    rw (e₃, e₂, e₁, e₀)
    (put_follows _ _ _ _ _ (omega (arith, length_column rows n 2))
    ∙ put_follows _ _ _ _ _ (omega (arith, length_column rows n 1))
    ∙ put_follows _ _ _ _ _ (omega (arith, length_column rows n 0)))

-- the numbers of a head
abbrev pub head_numbers_of : Start → List ℕ → List ℕ → List ℕ → List ℕ
head_numbers_of b rows lengths more =
    let n = length lengths in
    b.interlace ∷ b.records ∷ b.record_size ∷ n ∷ (every 0 4 n rows ++ (every 1 4 n rows ++ (every 2 4 n rows ++ (every 3 4 n rows ++ more))))

module _ (b : Start) (rows lengths all name class : List ℕ) (x : Ending) (told : Bytes all) (named : Bytes name) (classed : Bytes class)
    (whole : length all ≡ sum lengths) where
  pub head_bytes_lem : head_bytes b rows lengths all name class x
      ≡ bytes 2 b.interlace ++ (bytes 4 b.records ++ (bytes 2 b.record_size ++ (bytes 2 (length lengths)
      ++ (column rows lengths 0 ++ (column rows lengths 1 ++ (column rows lengths 2 ++ (column rows lengths 3 ++ (names_bytes lengths all ++ tail_bytes name class x))))))))
  unfolding head_bytes pack bytes_each
  head_bytes_lem =
      let n = length lengths in
      let enough : sum lengths ≤ length all = omega arith in
      simp (take_column, drop_column)
      (ap (λ l. bytes 2 b.interlace ++ (bytes 4 b.records ++ (bytes 2 b.record_size ++ (bytes 2 n
      ++ (column rows lengths 0 ++ (column rows lengths 1 ++ (column rows lengths 2 ++ (column rows lengths 3 ++ l))))))))
      (pack_last (started_head b n) lengths all name class x (10 + 2 * n + 2 * n + 2 * n + 2 * n + 0 * 0) told enough named classed))

  pub length_head : length (head_bytes b rows lengths all name class x) ≡ 22 + 10 * length lengths + length all + length name + length class
  length_head =
      let enough : sum lengths ≤ length all = omega arith in
      ap length head_bytes_lem
      ∙ simp (length-append, length_bytes)
      (let n = length lengths in omega (arith, length_column rows n 0, length_column rows n 1, length_column rows n 2, length_column rows n 3, length_names_bytes lengths all enough))

  -- a head laid part by part
  pub laid_head : (out s₀ s₁ s₂ s₃ : List ℕ) → let n = length lengths in
      s₀ ≡ put out 0 (start_bytes b n) → s₁ ≡ put s₀ 10 (columns_bytes rows n) → s₂ ≡ put s₁ (10 + 8 * n) (names_bytes lengths all)
      → s₃ ≡ put s₂ (10 + 10 * n + length all) (pack (tail (λ t. t)) (tail_numbers name class x) (10 + 10 * n + length all))
      → s₃ ≡ put out 0 (head_bytes b rows lengths all name class x)
  laid_head out s₀ s₁ s₂ s₃ e₀ e₁ e₂ e₃ =
      let n = length lengths in
      let enough : sum lengths ≤ length all = omega arith in
      rw (e₃, e₂, e₁, e₀, pack_tail (λ t. t) name class x (10 + 10 * n + length all) named classed, head_bytes_lem)
      (put_follows _ _ _ _ _ (omega (arith, length_names_bytes lengths all enough))
      ∙ put_follows _ _ _ _ _ (omega (arith, length_columns rows n))
      ∙ put_follows _ _ _ _ _ (omega (arith, length_start b n))
      ∙ ap (put out 0) (simp append_assoc))
