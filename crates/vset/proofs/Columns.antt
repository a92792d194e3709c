-- Laws of rows and columns: a column of rows, rows of columns, and the loops that lay a column or put rows into a list. Assumes nothing.
use Prim.Native.Nat.{ℕ, zero, suc, ◌+◌, ◌*◌, ◌-◌, ◌<◌, ◌≤◌}
use native.Mathlib.Nat.{add-zero, mul-zero, mul-suc, sub-zero}
use native.Mathlib.Omega.{arith}
use native.Mathlib.Numerals.{add-one, add-two, add-three}
use mathlib.Core.Path.{◌≡◌, refl, sym, ap, ◌∙◌}
use mathlib.Core.List.{List, [], ◌∷◌, ◌++◌}
use lib.ListN.{length, get_or, take, drop, set}
use lib.Seq.{sets, length-sets, take_at, drop_at, get_or-drop}
use Rattle.wire.specs.Numbers.{bytes, put}
use Rattle.wire.proofs.Numbers.{length_bytes, put_put}
use Rattle.wire.specs.Layouts.{bytes_each}
use Rattle.vset.specs.Columns.{rows2, rows4, every}

-- ---- Lists

-- two lists that start alike
pub append_split : (n : ℕ) (xs ys us vs : List ℕ) → length xs ≡ n → length ys ≡ n → xs ++ us ≡ ys ++ vs → (xs ≡ ys) × (us ≡ vs)
append_split n xs ys us vs l m q = (
  sym (take_at xs us n l) ∙ ap (take n) q ∙ take_at ys vs n m,
  sym (drop_at xs us n l) ∙ ap (drop n) q ∙ drop_at ys vs n m,
)

-- ---- Columns

pub length_every : (first step count : ℕ) (xs : List ℕ) → length (every first step count xs) ≡ count
unfolding every
length_every first step zero xs = refl
length_every first step (suc count) xs = ap suc (length_every (first + step) step count xs)

pub get_or_every : (first step count : ℕ) (xs : List ℕ) (i : ℕ) → i < count → get_or (every first step count xs) i 0 ≡ get_or xs (first + step * i) 0
unfolding every
get_or_every first step zero xs i h = absurd (omega arith)
get_or_every first step (suc count) xs zero h = let a : first ≡ first + step * 0 = omega (arith, mul-zero step) in ap (λ k. get_or xs k 0) a
get_or_every first step (suc count) xs (suc i) h =
    let a : first + step + step * i ≡ first + step * suc i = omega (arith, mul-suc step i) in
    get_or_every (first + step) step count xs i (omega arith) ∙ ap (λ k. get_or xs k 0) a

-- a column before what stands after it
pub take_column : (first step n : ℕ) (rows more : List ℕ) → take n (every first step n rows ++ more) ≡ every first step n rows
take_column first step n rows more = take_at (every first step n rows) more n (length_every first step n rows)

pub drop_column : (first step n : ℕ) (rows more : List ℕ) → drop n (every first step n rows ++ more) ≡ more
drop_column first step n rows more = drop_at (every first step n rows) more n (length_every first step n rows)

-- entries past some others
pub every_drop : (k first step count : ℕ) (xs : List ℕ) → every (k + first) step count xs ≡ every first step count (drop k xs)
unfolding every
every_drop k first step zero xs = refl
every_drop k first step (suc count) xs =
    let a : k + first + step ≡ k + (first + step) = omega arith in
    rw (a, every_drop k (first + step) step count xs, get_or-drop k xs first 0)

-- the first of those from the i-th on, then the rest: what a loop does at i
pub every_next : (first step count : ℕ) (xs : List ℕ) (i : ℕ) → i < count
    → every (first + step * i) step (count - i) xs ≡ get_or xs (first + step * i) 0 ∷ every (first + step * (i + 1)) step (count - (i + 1)) xs
unfolding every
every_next first step count xs i h =
    let n : count - i ≡ suc (count - (i + 1)) = omega arith in
    let a : first + step * (i + 1) ≡ first + step * i + step = rw (add-one, mul-suc) (omega arith) in
    rw (n, a)

-- every entry of a column is one of the rows'
pub every_small : (first step count : ℕ) (xs : List ℕ) (bound : ℕ) → 0 < bound → ((i : ℕ) → get_or xs i 0 < bound) → (i : ℕ) → get_or (every first step count xs) i 0 < bound
unfolding every
every_small first step zero xs bound p h i = p
every_small first step (suc count) xs bound p h zero = h first
every_small first step (suc count) xs bound p h (suc i) = every_small (first + step) step count xs bound p h i

-- ---- A column laid, number by number

module _ (at : ℕ) (table : List ℕ) (first step count : ℕ) where
  -- what the buffer comes to, once the numbers from the i-th on are laid too
  abbrev pub laying : List ℕ → ℕ → List ℕ
  laying out i = put out (at + 2 * i) (bytes_each 2 (every (first + step * i) step (count - i) table))

  pub lays : (out : List ℕ) (i : ℕ) → i < count → laying (put out (at + 2 * i) (bytes 2 (get_or table (first + step * i) 0))) (i + 1) ≡ laying out i
  unfolding bytes_each
  lays out i h =
      let own = bytes 2 (get_or table (first + step * i) 0) in
      let a : at + 2 * (i + 1) ≡ at + 2 * i + length own = rw length_bytes (omega arith) in
      rw (a, put_put out (at + 2 * i) own _, every_next first step count table i h)

  pub laid : (out : List ℕ) (i : ℕ) → count ≤ i → laying out i ≡ out
  unfolding every bytes_each put
  laid out i h = let z : count - i ≡ 0 = omega arith in rw z

  pub laying_all : (out : List ℕ) → laying out 0 ≡ put out at (bytes_each 2 (every first step count table))
  laying_all out = simp (mul-zero, add-zero, sub-zero)

-- ---- Rows put into a list, one by one

sets_append : (l : List ℕ) (i : ℕ) (xs ys : List ℕ) → sets l i (xs ++ ys) ≡ sets (sets l i xs) (i + length xs) ys
sets_append l i [] ys = rw add-zero
sets_append l i (x ∷ xs) ys =
    let k : suc i + length xs ≡ i + suc (length xs) = omega arith in
    sets_append (set l i x) (suc i) xs ys ∙ ap (λ k. sets (sets (set l i x) (suc i) xs) k ys) k

-- so many of so many rows are put into a list: those that are left, put on what is there, give the whole
pub record Filling (width n : ℕ) (whole list₀ rest list : List ℕ) (i : ℕ) : Type 0 where
  pub upto : i ≤ n
  pub long : length list ≡ length list₀
  pub left : sets list (width * i) rest ≡ sets list₀ 0 whole

pub filling_start : (width n : ℕ) (whole list₀ rest : List ℕ) → rest ≡ whole → Filling width n whole list₀ rest list₀ 0
filling_start width n whole list₀ rest e = record { upto = omega arith; long = refl; left = rw (mul-zero width, e) }

pub filling_done : {width n : ℕ} {whole list₀ rest list : List ℕ} {i : ℕ} → Filling width n whole list₀ rest list i → rest ≡ [] → list ≡ sets list₀ 0 whole
filling_done w e = rw e at w.left

module _ {n : ℕ} {whole list₀ rest list : List ℕ} {i : ℕ} (h : i < n) where
  filling_next : (width : ℕ) → Filling width n whole list₀ rest list i → (row more : List ℕ) → length row ≡ width → rest ≡ row ++ more
      → Filling width n whole list₀ more (sets list (width * i) row) (i + 1)
  filling_next width w row more long is =
      let a : width * (i + 1) ≡ width * i + length row = omega (arith, mul-suc width i, add-one i) in
      record {
        upto = omega arith;
        long = length-sets list (width * i) row ∙ w.long;
        left = rw a (sym (sets_append list (width * i) row more) ∙ ap (sets list (width * i)) (sym is) ∙ w.left);
      }

  pub filling_two : Filling 2 n whole list₀ rest list i → {a b : ℕ} {more : List ℕ} → rest ≡ a ∷ b ∷ more
      → Filling 2 n whole list₀ more (set (set list (2 * i) a) (2 * i + 1) b) (i + 1)
  filling_two w {a} {b} {more} is = rw (add-one (2 * i)) (filling_next 2 w (a ∷ b ∷ []) more refl is)

  pub filling_four : Filling 4 n whole list₀ rest list i → {a b c d : ℕ} {more : List ℕ} → rest ≡ a ∷ b ∷ c ∷ d ∷ more
      → Filling 4 n whole list₀ more (set (set (set (set list (4 * i) a) (4 * i + 1) b) (4 * i + 2) c) (4 * i + 3) d) (i + 1)
  filling_four w {a} {b} {c} {d} {more} is =
      rw (add-one (4 * i), add-two (4 * i), add-three (4 * i)) (filling_next 4 w (a ∷ b ∷ c ∷ d ∷ []) more refl is)

-- ---- Rows of two

pub length_rows2 : (xs ys : List ℕ) (n : ℕ) → length xs ≡ n → length ys ≡ n → length (rows2 xs ys) ≡ 2 * n
unfolding rows2
length_rows2 [] ys n e f = omega arith
length_rows2 (a ∷ xs) [] n e f = omega arith
length_rows2 (a ∷ xs) (b ∷ ys) n e f = omega (arith, length_rows2 xs ys (n - 1) (omega arith) (omega arith))

pub rows2_first : (xs ys : List ℕ) (n : ℕ) → length xs ≡ n → length ys ≡ n → every 0 2 n (rows2 xs ys) ≡ xs
unfolding rows2 every
rows2_first [] ys zero e f = refl
rows2_first [] ys (suc n) e f = absurd (omega arith)
rows2_first (a ∷ xs) ys zero e f = absurd (omega arith)
rows2_first (a ∷ xs) [] (suc n) e f = absurd (omega arith)
rows2_first (a ∷ xs) (b ∷ ys) (suc n) e f =
    ap (λ l. a ∷ l) (every_drop 2 0 2 n (a ∷ b ∷ rows2 xs ys) ∙ rows2_first xs ys n (omega arith) (omega arith))

pub rows2_second : (xs ys : List ℕ) (n : ℕ) → length xs ≡ n → length ys ≡ n → every 1 2 n (rows2 xs ys) ≡ ys
unfolding rows2 every
rows2_second xs [] zero e f = refl
rows2_second xs [] (suc n) e f = absurd (omega arith)
rows2_second xs (b ∷ ys) zero e f = absurd (omega arith)
rows2_second [] (b ∷ ys) (suc n) e f = absurd (omega arith)
rows2_second (a ∷ xs) (b ∷ ys) (suc n) e f =
    ap (λ l. b ∷ l) (every_drop 2 1 2 n (a ∷ b ∷ rows2 xs ys) ∙ rows2_second xs ys n (omega arith) (omega arith))

-- the rows of a list's own columns
pub rows2_every : (n : ℕ) (xs : List ℕ) → length xs ≡ 2 * n → rows2 (every 0 2 n xs) (every 1 2 n xs) ≡ xs
unfolding rows2 every
rows2_every zero [] h = refl
rows2_every zero (x ∷ xs) h = absurd (omega arith)
rows2_every (suc n) [] h = absurd (omega arith)
rows2_every (suc n) (x ∷ []) h = absurd (omega arith)
rows2_every (suc n) (x ∷ y ∷ xs) h =
    rw (every_drop 2 0 2 n (x ∷ y ∷ xs), every_drop 2 1 2 n (x ∷ y ∷ xs)) (ap (λ l. x ∷ y ∷ l) (rows2_every n xs (omega arith)))

-- ---- Rows of four

-- four columns of so many entries each
pub record Four (n : ℕ) (xs ys zs ws : List ℕ) : Type 0 where
  pub first : length xs ≡ n
  pub second : length ys ≡ n
  pub third : length zs ≡ n
  pub fourth : length ws ≡ n

pub length_rows4 : (xs ys zs ws : List ℕ) (n : ℕ) → Four n xs ys zs ws → length (rows4 xs ys zs ws) ≡ 4 * n
unfolding rows4
length_rows4 [] ys zs ws n f = omega arith
length_rows4 (a ∷ xs) [] zs ws n f = omega arith
length_rows4 (a ∷ xs) (b ∷ ys) [] ws n f = omega arith
length_rows4 (a ∷ xs) (b ∷ ys) (c ∷ zs) [] n f = omega arith
length_rows4 (a ∷ xs) (b ∷ ys) (c ∷ zs) (d ∷ ws) n f =
    omega (arith, length_rows4 xs ys zs ws (n - 1) (record { first = omega arith; second = omega arith; third = omega arith; fourth = omega arith }))

-- the columns of rows
pub record Columns4 (n : ℕ) (xs ys zs ws : List ℕ) : Type 0 where
  pub first : every 0 4 n (rows4 xs ys zs ws) ≡ xs
  pub second : every 1 4 n (rows4 xs ys zs ws) ≡ ys
  pub third : every 2 4 n (rows4 xs ys zs ws) ≡ zs
  pub fourth : every 3 4 n (rows4 xs ys zs ws) ≡ ws

pub rows4_columns : (xs ys zs ws : List ℕ) (n : ℕ) → Four n xs ys zs ws → Columns4 n xs ys zs ws
unfolding rows4 every
rows4_columns [] [] [] [] zero f = record { first = refl; second = refl; third = refl; fourth = refl }
rows4_columns [] [] [] (d ∷ ws) zero f = absurd (omega arith)
rows4_columns [] [] (c ∷ zs) ws zero f = absurd (omega arith)
rows4_columns [] (b ∷ ys) zs ws zero f = absurd (omega arith)
rows4_columns (a ∷ xs) ys zs ws zero f = absurd (omega arith)
rows4_columns [] ys zs ws (suc n) f = absurd (omega arith)
rows4_columns (a ∷ xs) [] zs ws (suc n) f = absurd (omega arith)
rows4_columns (a ∷ xs) (b ∷ ys) [] ws (suc n) f = absurd (omega arith)
rows4_columns (a ∷ xs) (b ∷ ys) (c ∷ zs) [] (suc n) f = absurd (omega arith)
rows4_columns (a ∷ xs) (b ∷ ys) (c ∷ zs) (d ∷ ws) (suc n) f =
    let rest : Columns4 n xs ys zs ws =
    rows4_columns xs ys zs ws n (record { first = omega arith; second = omega arith; third = omega arith; fourth = omega arith }) in
    let all = a ∷ b ∷ c ∷ d ∷ rows4 xs ys zs ws in
    record {
      first = ap (λ l. a ∷ l) (every_drop 4 0 4 n all ∙ rest.first);
      second = ap (λ l. b ∷ l) (every_drop 4 1 4 n all ∙ rest.second);
      third = ap (λ l. c ∷ l) (every_drop 4 2 4 n all ∙ rest.third);
      fourth = ap (λ l. d ∷ l) (every_drop 4 3 4 n all ∙ rest.fourth);
    }

pub rows4_every : (n : ℕ) (xs : List ℕ) → length xs ≡ 4 * n → rows4 (every 0 4 n xs) (every 1 4 n xs) (every 2 4 n xs) (every 3 4 n xs) ≡ xs
unfolding rows4 every
rows4_every zero [] h = refl
rows4_every zero (x ∷ xs) h = absurd (omega arith)
rows4_every (suc n) [] h = absurd (omega arith)
rows4_every (suc n) (x ∷ []) h = absurd (omega arith)
rows4_every (suc n) (x ∷ y ∷ []) h = absurd (omega arith)
rows4_every (suc n) (x ∷ y ∷ z ∷ []) h = absurd (omega arith)
rows4_every (suc n) (x ∷ y ∷ z ∷ w ∷ xs) h =
    let all = x ∷ y ∷ z ∷ w ∷ xs in
    rw (every_drop 4 0 4 n all, every_drop 4 1 4 n all, every_drop 4 2 4 n all, every_drop 4 3 4 n all)
    (ap (λ l. x ∷ y ∷ z ∷ w ∷ l) (rows4_every n xs (omega arith)))
