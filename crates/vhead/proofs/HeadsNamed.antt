-- Laws of the names of a head's fields: in its numbers, in its bytes, and in the image that it is a part of. Assumes nothing.
use Prim.Native.Nat.{ℕ, zero, suc, ◌+◌, ◌*◌, ◌<◌, ◌≤◌}
use native.Mathlib.Nat.{one-mul}
use native.Mathlib.Omega.{arith}
use mathlib.Core.Path.{◌≡◌, refl, sym, ap, ◌∙◌}
use mathlib.Core.List.{List, [], ◌∷◌, ◌++◌, append_assoc}
use lib.ListN.{length, get_or, take, drop, length-append, length-drop, take-append-drop}
use lib.Seq.{take_at, drop_at, length-take-le, take-take, drop-drop}
use Rattle.std.specs.Prelude.{sum}
use Rattle.wire.specs.Numbers.{be, part, Bytes}
use Rattle.wire.proofs.Numbers.{bytes_take, bytes_drop, length_part}
use Rattle.directory.specs.Slots.{content_at}
use Rattle.storage.proofs.Elements.{FoundPlain}
use Rattle.wire.specs.Layouts.{Layout, numbers, given, numbers_at, Fits}
use Rattle.wire.proofs.Layouts.{numbers_at_part}
use Rattle.vset.specs.Columns.{every}
use Rattle.vset.specs.Tails.{names_end}
use Rattle.vset.proofs.Columns.{append_split, every_drop}
use Rattle.vset.proofs.Tails.{names_low}
use Rattle.vhead.specs.Heads.{names, name_rows, names_apart}
use Rattle.vhead.proofs.HeadsJudged.{sum_first}
use Rattle.vhead.proofs.HeadsPacked.{length_rest, names_after}

-- ---- Lists

-- a part of a part
take_inside : (a k m : ℕ) (l : List ℕ) → a + k ≤ m → take k (drop a (take m l)) ≡ take k (drop a l)
take_inside zero k m l h = take-take k m l (omega arith)
take_inside (suc a) k zero l h = absurd (omega arith)
take_inside (suc a) k (suc m) [] h = refl
take_inside (suc a) k (suc m) (x ∷ l) h = take_inside a k m l (omega arith)

part_inside : (s : List ℕ) (o m a k : ℕ) → a + k ≤ m → part (part s o m) a k ≡ part s (o + a) k
unfolding part
part_inside s o m a k h = take_inside a k m (drop o s) h ∙ ap (take k) (drop-drop a o s)

-- ---- Names among the numbers of a record

-- the parts of a list that rows of place and length tell of, one after the other
unfoldable pub parts_at : List ℕ → List ℕ → List ℕ
parts_at e [] = []
parts_at e (at ∷ []) = []
parts_at e (at ∷ n ∷ rows) = part e at n ++ parts_at e rows

-- the lengths in such rows
lengths_none : (rows : List ℕ) → every 1 2 0 rows ≡ []
unfolding every
lengths_none rows = refl

lengths_next : (at k n : ℕ) (rows : List ℕ) → every 1 2 (suc n) (at ∷ k ∷ rows) ≡ k ∷ every 1 2 n rows
unfolding every
lengths_next at k n rows = ap (λ l. k ∷ l) (every_drop 2 1 2 n (at ∷ k ∷ rows))

module _ {A : Type 0} (then : Layout A) where
  pub numbers_names : (n : ℕ) (e : List ℕ) (at : ℕ) → names_end e n at ≤ length e → let rows = name_rows 0 e n at in
      numbers (names n then) e at ≡ names_apart (every 1 2 n rows) (parts_at e rows) ++ numbers then e (names_end e n at)
  unfolding numbers names names_end name_rows names_apart parts_at
  numbers_names zero e at h = rw (lengths_none [])
  numbers_names (suc n) e at h =
      let k = be 2 e at in
      let next = at + 2 + k in
      let more = name_rows 0 e n next in
      let first = 0 + (at + 2) in
      let own = part e first k in
      let inside : first + k ≤ length e = omega (arith, names_low n e next) in
      let l : length own ≡ k = length_part e first k inside in
      let z : at + 2 ≡ first = omega arith in
      let o : numbers_at 1 k e (at + 2) ≡ own = ap (numbers_at 1 k e) z ∙ numbers_at_part k e first inside in
      let rest = names_apart (every 1 2 n more) (parts_at e more) in
      let r : numbers (names n then) e (at + 2 + 1 * k) ≡ rest ++ numbers then e (names_end e n next) =
      ap (λ m. numbers (names n then) e (at + 2 + m)) (one-mul k) ∙ numbers_names n e next h in
      rw (lengths_next first k n more, take_at own (parts_at e more) k l, drop_at own (parts_at e more) k l)
      (ap (λ l. k ∷ l) (rw (o, r) (sym (append_assoc own rest (numbers then e (names_end e n next))))))

  pub names_given : (lengths all more : List ℕ) (at : ℕ) → sum lengths ≤ length all
      → given (names (length lengths) then) (names_apart lengths all ++ more) at ≡ given then more (names_after at lengths)
  unfolding given names names_apart names_after
  names_given [] all more at h = refl
  names_given (n ∷ ns) all more at h =
      let e = sum_first n ns in
      let own = take n all in
      let rest = names_apart ns (drop n all) in
      let k : length own ≡ n = length-take-le n all (omega arith) in
      ap (λ l. given (names (length ns) then) l (at + 2 + 1 * n)) (ap (drop n) (append_assoc own rest more) ∙ drop_at own (rest ++ more) n k)
      ∙ names_given ns (drop n all) more (at + 2 + 1 * n) (length_rest n (sum ns) all (omega arith))

  pub names_fit : (lengths all more : List ℕ) (at : ℕ) → Bytes all → ((i : ℕ) → get_or lengths i 0 < 65536) → sum lengths ≤ length all
      → Fits then more (names_after at lengths) → Fits (names (length lengths) then) (names_apart lengths all ++ more) at
  unfolding names names_apart names_after
  names_fit [] all more at b s h f = f
  names_fit (n ∷ ns) all more at b s h f =
      let e = sum_first n ns in
      let own = take n all in
      let rest = names_apart ns (drop n all) in
      let k : length own ≡ n = length-take-le n all (omega arith) in
      rw (append_assoc own rest more, take_at own (rest ++ more) n k, drop_at own (rest ++ more) n k) (
        omega arith,
        s 0,
        (
          omega (arith, length-append own (rest ++ more)),
          bytes_take n all b,
          names_fit ns (drop n all) more (at + 2 + 1 * n) (bytes_drop n all b) (λ i. s (suc i)) (length_rest n (sum ns) all (omega arith)) f,
        ),
      )

pub parts_long : (n : ℕ) (e : List ℕ) (at : ℕ) → names_end e n at ≤ length e → let rows = name_rows 0 e n at in length (parts_at e rows) ≡ sum (every 1 2 n rows)
unfolding names_end name_rows parts_at
parts_long zero e at h = rw (lengths_none [])
parts_long (suc n) e at h =
    let k = be 2 e at in
    let next = at + 2 + k in
    let more = name_rows 0 e n next in
    let first = 0 + (at + 2) in
    let inside : first + k ≤ length e = omega (arith, names_low n e next) in
    rw (lengths_next first k n more) (length-append (part e first k) (parts_at e more) ∙ rw (length_part e first k inside, parts_long n e next h) (sym (sum_first k (every 1 2 n more))))

-- the numbers of names tell the names
pub names_same : (ls ms all every_one more rest : List ℕ) → length ls ≡ length ms → length all ≡ sum ls → length every_one ≡ sum ms
    → names_apart ls all ++ more ≡ names_apart ms every_one ++ rest → (ls ≡ ms) × (all ≡ every_one) × (more ≡ rest)
unfolding names_apart
names_same [] [] [] [] more rest l a b q = (refl, refl, q)
names_same [] [] [] (x ∷ every_one) more rest l a b q = absurd (omega arith)
names_same [] [] (x ∷ all) every_one more rest l a b q = absurd (omega arith)
names_same [] (m ∷ ms) all every_one more rest l a b q = absurd (omega arith)
names_same (n ∷ ns) [] all every_one more rest l a b q = absurd (omega arith)
names_same (n ∷ ns) (m ∷ ms) all every_one more rest l a b q =
    let sn = sum_first n ns in
    let sm = sum_first m ms in
    let e : n ≡ m = ap (λ l. get_or l 0 0) q in
    let us = names_apart ns (drop n all) in
    let vs = names_apart ms (drop m every_one) in
    let r : take n all ++ (us ++ more) ≡ take m every_one ++ (vs ++ rest) =
    sym (append_assoc (take n all) us more) ∙ ap (drop 1) q ∙ append_assoc (take m every_one) vs rest in
    let s = append_split n (take n all) (take m every_one) (us ++ more) (vs ++ rest) (length-take-le n all (omega arith)) (length-take-le m every_one (omega arith) ∙ sym e) r in
    let s0 : take n all ≡ take m every_one = s.0 in
    let t = names_same ns ms (drop n all) (drop m every_one) more rest (omega arith) (omega (arith, length-drop n all)) (omega (arith, length-drop m every_one)) s.1 in
    let t0 : ns ≡ ms = t.0 in
    let t1 : drop n all ≡ drop m every_one = t.1 in
    let c : take n all ++ drop n all ≡ all = take-append-drop n all in
    let d : take m every_one ++ drop m every_one ≡ every_one = take-append-drop m every_one in
    (cc, cc, t.2)

-- ---- Names in an image

-- the bytes of a record are a part of an image
abbrev pub Within : List ℕ → ℕ → List ℕ → Type 0
Within s start e = (a k : ℕ) → a + k ≤ length e → part s (start + a) k ≡ part e a k

pub found_within : (s : List ℕ) (tag ref p o n : ℕ) → FoundPlain s tag ref p o n → Within s o (content_at s p)
found_within s tag ref p o n f a k h =
    let long : length (content_at s p) ≡ n = ap length (sym f.content) ∙ length_part s o n f.inside in
    sym (part_inside s o n a k (omega arith)) ∙ ap (λ l. part l a k) f.content

module _ (s : List ℕ) (start : ℕ) (e : List ℕ) (within : Within s start e) where
  pub parts_image : (n at : ℕ) → names_end e n at ≤ length e → parts_at s (name_rows start e n at) ≡ parts_at e (name_rows 0 e n at)
  unfolding names_end name_rows parts_at
  parts_image zero at h = refl
  parts_image (suc n) at h =
      let k = be 2 e at in
      let next = at + 2 + k in
      let z : at + 2 ≡ 0 + (at + 2) = omega arith in
      let own : part s (start + (at + 2)) k ≡ part e (0 + (at + 2)) k = within (at + 2) k (omega (arith, names_low n e next)) ∙ ap (λ a. part e a k) z in
      ap (λ l. l ++ parts_at s (name_rows start e n next)) own ∙ ap (λ l. part e (0 + (at + 2)) k ++ l) (parts_image n next h)

pub lengths_image : (start : ℕ) (e : List ℕ) (n at : ℕ) → every 1 2 n (name_rows start e n at) ≡ every 1 2 n (name_rows 0 e n at)
unfolding name_rows
lengths_image start e zero at = refl
lengths_image start e (suc n) at =
    let k = be 2 e at in
    lengths_next (start + (at + 2)) k n (name_rows start e n (at + 2 + k))
    ∙ ap (λ l. k ∷ l) (lengths_image start e n (at + 2 + k))
    ∙ sym (lengths_next (0 + (at + 2)) k n (name_rows 0 e n (at + 2 + k)))
