-- Laws of layouts, each once over any layout: what is read of packed numbers, what is packed of read ones. Assumes nothing.
use Prim.Native.Nat.{ℕ, zero, suc, ◌+◌, ◌*◌, ◌^◌, ◌-◌, ◌<◌, ◌≤◌}
use native.Mathlib.Nat.{add-zero, zero-add, suc-add, mul-suc, mul-zero, one-le-pow}
use native.Mathlib.Omega.{arith}
use native.Mathlib.Numerals.{add-one}
use mathlib.Core.Path.{◌≡◌, refl, sym, ap, ◌∙◌}
use mathlib.Core.List.{List, [], ◌∷◌, ◌++◌, append_assoc, append-nil}
use lib.ListN.{length, get_or, take, drop, take-append-drop, length-append, get_or-append}
use lib.Seq.{length-take-le, take_at, drop_at, take-length, drop-cons, get_or-append-add}
use Rattle.wire.specs.Numbers.{be, bytes, put, part, Bytes}
use Rattle.wire.specs.declared.ByteOrder.TheVariants.{BigEndian}
use Rattle.wire.proofs.Numbers.{number_small, number_one, number_holds, bytes_of_number, length_bytes, put_put, part_add}
use Rattle.wire.specs.Layouts.{Layout, end, number, run, read, extent, numbers, pack, given, numbers_at, bytes_each, Small, Fits}

-- ---- Parts

pub part_whole : (e : List ℕ) → part e 0 (length e) ≡ e
unfolding part
part_whole e = take-length e

-- ---- Runs of numbers

pub length_numbers_at : (width count : ℕ) (e : List ℕ) (at : ℕ) → length (numbers_at width count e at) ≡ count
unfolding numbers_at
length_numbers_at width zero e at = refl
length_numbers_at width (suc count) e at = ap suc (length_numbers_at width count e (at + width))

pub length_bytes_each : (width : ℕ) (xs : List ℕ) → length (bytes_each width xs) ≡ width * length xs
unfolding bytes_each
length_bytes_each width [] = sym (mul-zero width)
length_bytes_each width (x ∷ xs) =
    length-append (bytes width x) (bytes_each width xs) ∙ rw (length_bytes, length_bytes_each width xs, mul-suc) (omega arith)

-- the k-th number of a run
pub number_at : (width count : ℕ) (e : List ℕ) (at k : ℕ) → k < count → get_or (numbers_at width count e at) k 0 ≡ be width e (at + width * k)
unfolding numbers_at
number_at width zero e at k h = absurd (omega arith)
number_at width (suc count) e at zero h = rw (mul-zero, add-zero)
number_at width (suc count) e at (suc k) h =
    let a : at + width + width * k ≡ at + width * suc k = rw mul-suc (omega arith) in
    number_at width count e (at + width) k (omega arith) ∙ ap (be width e) a

-- the first of those from the i-th on, then the rest: what a loop does at i
pub numbers_at_next : (width count : ℕ) (e : List ℕ) (at i : ℕ) → i < count
    → numbers_at width (count - i) e (at + width * i) ≡ be width e (at + width * i) ∷ numbers_at width (count - (i + 1)) e (at + width * (i + 1))
unfolding numbers_at
numbers_at_next width count e at i h =
    let n : count - i ≡ suc (count - (i + 1)) = omega arith in
    let a : at + width * (i + 1) ≡ at + width * i + width = rw (add-one, mul-suc) (omega arith) in
    rw (n, a)

pub bytes_each_next : (width : ℕ) (xs : List ℕ) (i : ℕ) → i < length xs
    → bytes_each width (drop i xs) ≡ bytes width (get_or xs i 0) ++ bytes_each width (drop (i + 1) xs)
unfolding bytes_each
bytes_each_next width xs i h = rw (add-one, drop-cons xs i 0 h)

-- one run after the other
pub numbers_at_add : (width m n : ℕ) (e : List ℕ) (at : ℕ) → numbers_at width (m + n) e at ≡ numbers_at width m e at ++ numbers_at width n e (at + width * m)
unfolding numbers_at
numbers_at_add width zero n e at = rw (zero-add, mul-zero, add-zero)
numbers_at_add width (suc m) n e at =
    let a : at + width * suc m ≡ at + width + width * m = rw mul-suc (omega arith) in
    rw (suc-add, a, numbers_at_add width m n e (at + width))

pub bytes_each_append : (width : ℕ) (xs ys : List ℕ) → bytes_each width (xs ++ ys) ≡ bytes_each width xs ++ bytes_each width ys
unfolding bytes_each
bytes_each_append width [] ys = refl
bytes_each_append width (x ∷ xs) ys = rw (bytes_each_append width xs ys) (sym (append_assoc (bytes width x) (bytes_each width xs) (bytes_each width ys)))

-- a run of bytes is a part
pub numbers_at_part : (count : ℕ) (e : List ℕ) (at : ℕ) → at + count ≤ length e → numbers_at 1 count e at ≡ part e at count
unfolding numbers_at part
numbers_at_part zero e at h = refl
numbers_at_part (suc count) e at h = rw (number_one, numbers_at_part count e (at + 1) (omega arith), drop-cons e at 0 (omega arith), add-one)

-- numbers that are read are as small as their bytes allow
pub numbers_at_small : (width count : ℕ) (e : List ℕ) (at : ℕ) → Bytes e → Small width (numbers_at width count e at)
unfolding numbers_at
numbers_at_small width zero e at b i = one-le-pow width 256 (omega arith)
numbers_at_small width (suc count) e at b zero = number_small BigEndian width e at b
numbers_at_small width (suc count) e at b (suc i) = numbers_at_small width count e (at + width) b i

-- bytes of read numbers
pub bytes_each_numbers_at : (width count : ℕ) (e : List ℕ) (at : ℕ) → Bytes e → at + width * count ≤ length e
    → bytes_each width (numbers_at width count e at) ≡ part e at (width * count)
unfolding numbers_at bytes_each part
bytes_each_numbers_at width zero e at b h = rw (mul-zero, part)
bytes_each_numbers_at width (suc count) e at b h =
    let n : width * suc count ≡ width + width * count = rw mul-suc (omega arith) in
    rw (bytes_of_number BigEndian width e at b (omega arith), bytes_each_numbers_at width count e (at + width) b (omega arith), n) (sym (part_add e at width (width * count)))

-- the numbers of a run before others
pub take_run : (width count : ℕ) (e : List ℕ) (at : ℕ) (more : List ℕ) → take count (numbers_at width count e at ++ more) ≡ numbers_at width count e at
take_run width count e at more = take_at (numbers_at width count e at) more count (length_numbers_at width count e at)

pub drop_run : (width count : ℕ) (e : List ℕ) (at : ℕ) (more : List ℕ) → drop count (numbers_at width count e at ++ more) ≡ more
drop_run width count e at more = drop_at (numbers_at width count e at) more count (length_numbers_at width count e at)

-- ---- Numbers laid in bytes

-- a number that stands after some bytes
pub be_laid : (width x : ℕ) (before after : List ℕ) (at : ℕ) → length before ≡ at → x < 256 ^ width → be width (before ++ (bytes width x ++ after)) at ≡ x
be_laid width x before after at l h =
    number_holds BigEndian width (before ++ (bytes width x ++ after)) at x h
    (λ i m. rw (← l, get_or-append-add before (bytes width x ++ after) i 0) (get_or-append (bytes width x) after 0 i m))

pub numbers_at_laid : (width : ℕ) (xs before after : List ℕ) (at : ℕ) → length before ≡ at → Small width xs
    → numbers_at width (length xs) (before ++ (bytes_each width xs ++ after)) at ≡ xs
unfolding numbers_at bytes_each
numbers_at_laid width [] before after at l h = refl
numbers_at_laid width (x ∷ xs) before after at l h =
    let e : (bytes width x ++ bytes_each width xs) ++ after ≡ bytes width x ++ (bytes_each width xs ++ after) = append_assoc (bytes width x) (bytes_each width xs) after in
    let f : before ++ (bytes width x ++ (bytes_each width xs ++ after)) ≡ (before ++ bytes width x) ++ (bytes_each width xs ++ after) =
    sym (append_assoc before (bytes width x) (bytes_each width xs ++ after)) in
    let first : be width (before ++ (bytes width x ++ (bytes_each width xs ++ after))) at ≡ x = be_laid width x before (bytes_each width xs ++ after) at l (h 0) in
    let n : length (before ++ bytes width x) ≡ at + width = length-append before (bytes width x) ∙ rw (l, length_bytes) in
    rw (e, first, f) (ap (λ l. x ∷ l) (numbers_at_laid width xs (before ++ bytes width x) after (at + width) n (λ i. h (suc i))))

-- bytes of two fields between others
fields : (before own next after : List ℕ) → before ++ ((own ++ next) ++ after) ≡ before ++ own ++ (next ++ after)
fields before own next after = simp append_assoc

-- a field put in place, then those after it
pub put_field : (width x : ℕ) (out : List ℕ) (at : ℕ) (rest : List ℕ) → put out at (bytes width x ++ rest) ≡ put (put out at (bytes width x)) (at + width) rest
put_field width x out at rest =
    sym (put_put out at (bytes width x) rest) ∙ ap (λ k. put (put out at (bytes width x)) (at + k) rest) (length_bytes BigEndian width x)

pub put_run : (width : ℕ) (xs out : List ℕ) (at : ℕ) (rest : List ℕ)
    → put out at (bytes_each width xs ++ rest) ≡ put (put out at (bytes_each width xs)) (at + width * length xs) rest
put_run width xs out at rest =
    sym (put_put out at (bytes_each width xs) rest) ∙ ap (λ k. put (put out at (bytes_each width xs)) (at + k) rest) (length_bytes_each width xs)

-- ---- Any layout

module _ {A : Type 0} where
  pub at_most : (layout : Layout A) (e : List ℕ) (at : ℕ) → at ≤ extent layout e at
  unfolding extent
  at_most (end a) e at = omega arith
  at_most (number width then) e at = omega (arith, at_most (then (be width e at)) e (at + width))
  at_most (run width count then) e at = omega (arith, at_most (then at) e (at + width * count))

  -- packing what was read gives back the bytes
  pub pack_numbers : (layout : Layout A) (e : List ℕ) (at : ℕ) → Bytes e → extent layout e at ≤ length e
      → pack layout (numbers layout e at) at ≡ part e at (extent layout e at - at)
  unfolding extent numbers pack part
  pack_numbers (end a) e at b h = let z : at - at ≡ 0 = omega arith in rw z
  pack_numbers (number width then) e at b h =
      let next = then (be width e at) in
      let l = at_most next e (at + width) in
      let n : extent next e (at + width) - at ≡ width + (extent next e (at + width) - (at + width)) = omega arith in
      rw (n, part_add e at width (extent next e (at + width) - (at + width)), bytes_of_number BigEndian width e at b (omega arith), pack_numbers (then (be width e at)) e (at + width) b h)
  pack_numbers (run width count then) e at b h =
      let next = then at in
      let l = at_most next e (at + width * count) in
      let n : extent next e (at + width * count) - at ≡ width * count + (extent next e (at + width * count) - (at + width * count)) = omega arith in
      rw (n, part_add, take_run, drop_run, bytes_each_numbers_at width count e at b (omega arith), pack_numbers (then at) e (at + width * count) b h)

  pub numbers_fit : (layout : Layout A) (e : List ℕ) (at : ℕ) → Bytes e → Fits layout (numbers layout e at) at
  unfolding numbers
  numbers_fit (end a) e at b = refl
  numbers_fit (number width then) e at b = (omega arith, number_small BigEndian width e at b, numbers_fit (then (be width e at)) e (at + width) b)
  numbers_fit (run width count then) e at b = (
    rw (length-append, length_numbers_at) (omega arith),
    rw take_run (numbers_at_small width count e at b),
    rw drop_run (numbers_fit (then at) e (at + width * count) b),
  )

  pub given_numbers : (layout : Layout A) (e : List ℕ) (at : ℕ) → given layout (numbers layout e at) at ≡ read layout e at
  unfolding given numbers read
  given_numbers (end a) e at = refl
  given_numbers (number width then) e at = given_numbers (then (be width e at)) e (at + width)
  given_numbers (run width count then) e at = rw drop_run (given_numbers (then at) e (at + width * count))

  -- what is read where numbers were packed, after some bytes
  pub record PackedAt (layout : Layout A) (xs e : List ℕ) (at : ℕ) : Type 0 where
    pub read_is : read layout e at ≡ given layout xs at
    pub ends : extent layout e at ≡ at + length (pack layout xs at)
    pub numbers_are : numbers layout e at ≡ xs

  pub packed_at : (layout : Layout A) (xs : List ℕ) (at : ℕ) → Fits layout xs at → (before after e : List ℕ) → length before ≡ at
      → e ≡ before ++ (pack layout xs at ++ after) → PackedAt layout xs e at
  unfolding read given extent numbers pack
  packed_at (end a) xs at f before after e l q = record { read_is = refl; ends = sym (add-zero at); numbers_are = sym f }
  packed_at (number width then) [] at f before after e l q = absurd (omega (arith, f.0))
  packed_at (number width then) (x ∷ xs) at f before after e l q =
      let own = bytes width x in
      let next = pack (then x) xs (at + width) in
      let n : length own ≡ width = length_bytes BigEndian width x in
      let first : be width e at ≡ x = ap (λ d. be width d at) (q ∙ ap (λ d. before ++ d) (append_assoc own next after)) ∙ be_laid width x before (next ++ after) at l f.1 in
      let r : PackedAt (then x) xs e (at + width) =
      packed_at (then x) xs (at + width) f.2 (before ++ own) after e (length-append before own ∙ rw (l, n)) (q ∙ fields before own next after) in
      record {
        read_is = rw first r.read_is;
        ends = rw first (r.ends ∙ rw (length-append own next, n) (omega arith));
        numbers_are = rw first (ap (λ d. x ∷ d) r.numbers_are);
      }
  packed_at (run width count then) xs at f before after e l q =
      let own = bytes_each width (take count xs) in
      let next = pack (then at) (drop count xs) (at + width * count) in
      let m : length (take count xs) ≡ count = length-take-le count xs f.0 in
      let n : length own ≡ width * count = length_bytes_each width (take count xs) ∙ ap (λ k. width * k) m in
      let first : numbers_at width count e at ≡ take count xs =
      ap (λ k. numbers_at width k e at) (sym m)
      ∙ ap (λ d. numbers_at width (length (take count xs)) d at) (q ∙ ap (λ d. before ++ d) (append_assoc own next after))
      ∙ numbers_at_laid width (take count xs) before (next ++ after) at l f.1 in
      let r : PackedAt (then at) (drop count xs) e (at + width * count) =
      packed_at (then at) (drop count xs) (at + width * count) f.2 (before ++ own) after e (length-append before own ∙ rw (l, n)) (q ∙ fields before own next after) in
      record {
        read_is = r.read_is;
        ends = r.ends ∙ rw (length-append own next, n) (omega arith);
        numbers_are = rw (first, r.numbers_are) (take-append-drop count xs);
      }

  -- reading what was packed gives back the numbers
  module _ (layout : Layout A) (xs : List ℕ) (at : ℕ) (fit : Fits layout xs at) (before after : List ℕ) (l : length before ≡ at) where
    pub read_pack : read layout (before ++ (pack layout xs at ++ after)) at ≡ given layout xs at
    read_pack = (packed_at layout xs at fit before after _ l refl).read_is

    pub extent_pack : extent layout (before ++ (pack layout xs at ++ after)) at ≡ at + length (pack layout xs at)
    extent_pack = (packed_at layout xs at fit before after _ l refl).ends

    pub numbers_pack : numbers layout (before ++ (pack layout xs at ++ after)) at ≡ xs
    numbers_pack = (packed_at layout xs at fit before after _ l refl).numbers_are

  -- a record that is the whole of its bytes
  module _ (layout : Layout A) where
    pub pack_whole : (e : List ℕ) → Bytes e → extent layout e 0 ≡ length e → pack layout (numbers layout e 0) 0 ≡ e
    pack_whole e b h =
        pack_numbers layout e 0 b (omega arith)
        ∙ ap (part e 0) (let n : extent layout e 0 - 0 ≡ length e = omega arith in n)
        ∙ part_whole e

    pub packed_whole : (xs : List ℕ) → Fits layout xs 0 → (e : List ℕ) → e ≡ pack layout xs 0 → PackedAt layout xs e 0
    packed_whole xs fit e q = packed_at layout xs 0 fit [] [] e refl (q ∙ sym (append-nil (pack layout xs 0)))
