-- How the numbers of a record stand in its bytes. A record's layout is said once: what is read, what is packed and how far the record
-- reaches all go by it. Assumes nothing.
use Rattle.std.specs.Prelude.{ℕ, zero, suc, ◌+◌, ◌*◌, ◌^◌, ◌<◌, ◌≤◌, ◌≡◌, List, [], ◌∷◌, ◌++◌, length, get_or, take, drop}
use Rattle.wire.specs.Numbers.{be, bytes}

-- a layout, from the first field on, of a record that is read as an A
pub data Layout (A : Type 0) : Type 0 where
  -- the last field is past: what was read, told where the record ends
  end : (ℕ → A) → Layout A
  -- a number of so many bytes, then the fields after it, which may depend on it
  number : ℕ → (ℕ → Layout A) → Layout A
  -- so wide, so many: a run of numbers, then the fields after it, told where the run starts
  run : ℕ → ℕ → (ℕ → Layout A) → Layout A

-- so many numbers of so many bytes each, from a place on
unfoldable pub numbers_at : ℕ → ℕ → List ℕ → ℕ → List ℕ
numbers_at width zero e at = []
numbers_at width (suc count) e at = be width e at ∷ numbers_at width count e (at + width)

-- numbers in so many bytes each
unfoldable pub bytes_each : ℕ → List ℕ → List ℕ
bytes_each width [] = []
bytes_each width (x ∷ xs) = bytes width x ++ bytes_each width xs

module _ {A : Type 0} where
  -- what is read from the bytes e
  unfoldable pub read : Layout A → List ℕ → ℕ → A
  read (end a) e at = a at
  read (number width then) e at = read (then (be width e at)) e (at + width)
  read (run width count then) e at = read (then at) e (at + width * count)

  -- where the last field ends
  unfoldable pub extent : Layout A → List ℕ → ℕ → ℕ
  extent (end a) e at = at
  extent (number width then) e at = extent (then (be width e at)) e (at + width)
  extent (run width count then) e at = extent (then at) e (at + width * count)

  -- all numbers of the record, in order
  unfoldable pub numbers : Layout A → List ℕ → ℕ → List ℕ
  numbers (end a) e at = []
  numbers (number width then) e at = be width e at ∷ numbers (then (be width e at)) e (at + width)
  numbers (run width count then) e at = numbers_at width count e at ++ numbers (then at) e (at + width * count)

  -- the bytes of a record that has these numbers
  unfoldable pub pack : Layout A → List ℕ → ℕ → List ℕ
  pack (end a) xs at = []
  pack (number width then) xs at = bytes width (get_or xs 0 0) ++ pack (then (get_or xs 0 0)) (drop 1 xs) (at + width)
  pack (run width count then) xs at = bytes_each width (take count xs) ++ pack (then at) (drop count xs) (at + width * count)

  -- what a record that has these numbers is read as
  unfoldable pub given : Layout A → List ℕ → ℕ → A
  given (end a) xs at = a at
  given (number width then) xs at = given (then (get_or xs 0 0)) (drop 1 xs) (at + width)
  given (run width count then) xs at = given (then at) (drop count xs) (at + width * count)

-- every number of a list has a byte count's room
abbrev pub Small : ℕ → List ℕ → Type 0
Small width xs = (i : ℕ) → get_or xs i 0 < 256 ^ width

-- the numbers fit the layout: as many as it asks, each no larger than its field
abbrev pub Fits : {A : Type 0} → Layout A → List ℕ → ℕ → Type 0
Fits (end a) xs at = xs ≡ []
Fits (number width then) xs at = (1 ≤ length xs) × (get_or xs 0 0 < 256 ^ width) × Fits (then (get_or xs 0 0)) (drop 1 xs) (at + width)
Fits (run width count then) xs at = (count ≤ length xs) × Small width (take count xs) × Fits (then at) (drop count xs) (at + width * count)
