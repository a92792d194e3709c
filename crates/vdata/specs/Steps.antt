-- What the functions behind the calls take and leave. Assumes nothing.
use Rattle.std.specs.Prelude.{ℕ, zero, suc, ◌+◌, ◌*◌, ◌-◌, ◌^◌, ◌<◌, ◌≤◌, ◌≡◌, ◌⊎◌, List, [], ◌∷◌, length, true, false, leb}
use Rattle.records.specs.Types.{width_of, kind_of}
use Rattle.vhead.specs.declared.field.Numbers.{Numbers}
use Rattle.vhead.specs.declared.head.Head.{Head}
use Rattle.vdata.specs.Patterns.{value_by, value_at, value_bits}

-- what the place of a component of a field in a record is computed from: numbers of a head and its fields, which multiply to less than 49 bits
pub record Reach (h : Head) (f : Numbers) (r c : ℕ) : Type 0 where
  pub before : r * h.record_size ≤ 281474976710656
  pub column : h.records * f.offset ≤ 281474976710656
  pub row : r * f.size ≤ 281474976710656
  pub component : c * width_of f.code ≤ 524288
  pub offset : f.offset < 65536

-- how far the values of a field lie apart from record to record
unfoldable pub step_of : Head → Numbers → ℕ
step_of h f = elim h.interlace [ zero ↦ h.record_size | suc interlace ↦ f.size ]

-- the bits of so many values of a type, the first at a place and each so many bytes after the one before
unfoldable pub bits_from : ℕ → List ℕ → ℕ → ℕ → ℕ → List ℕ
bits_from code v at step zero = []
bits_from code v at step (suc n) = value_bits (value_at code v at) ∷ bits_from code v (at + step) step n

-- a pattern as it is up to the greatest that is no negative number's, and above that in 64 bits of two's complement
unfoldable pub extended : ℕ → ℕ → ℕ
extended most n = elim (leb n most) [ true ↦ n | false ↦ n + (18446744073709551614 - 2 * most) ]

-- the greatest pattern of a type that is no negative number's: the bits of every value are its pattern, so extended
pub record Splits (code most : ℕ) : Type 0 where
  pub room : (n : ℕ) → n < 18446744073709551616 → n < 256 ^ width_of code → most < n → (n ≤ 2 * most + 1) × (most ≤ 2147483647)
  pub bits : (n : ℕ) → n < 18446744073709551616 → n < 256 ^ width_of code → value_bits (value_by (kind_of code) (width_of code) n) ≡ extended most n

-- the widths of types
abbrev pub Fixed : ℕ → Type 0
Fixed width = (width ≡ 1) ⊎ ((width ≡ 2) ⊎ ((width ≡ 4) ⊎ (width ≡ 8)))

-- so many values of a width, the first at a place and each so many bytes after the one before, lie inside so many bytes
abbrev pub AllInside : ℕ → ℕ → ℕ → ℕ → ℕ → Type 0
AllInside first step width count bytes = (i : ℕ) → i < count → first + i * step + width ≤ bytes

-- so many values of a type that there is, laid so, lie inside the bytes v
pub record AllThere (code first step count : ℕ) (v : List ℕ) : Type 0 where
  pub known : 1 ≤ width_of code
  pub inside : AllInside first step (width_of code) count (length v)
