-- Marks as the bits of 64-bit words: mark n is bit n % 64 of word n / 64, and past the last word none is set. Assumes nothing.
use Rattle.std.specs.Prelude.{ℕ, ◌/◌, ◌%◌, ◌^◌, Bool, List, eqb, get_or, set}
use Rattle.std.specs.Int.Bits.{bit_or}

-- bit k of a word: 1 or 0
abbrev pub bit_of : ℕ → ℕ → ℕ
bit_of word k = word / 2 ^ k % 2

unfoldable pub marked : List ℕ → ℕ → Bool
marked marks n = eqb (bit_of (get_or marks (n / 64) 0) (n % 64)) 1

unfoldable pub with_mark : List ℕ → ℕ → List ℕ
with_mark marks n = set marks (n / 64) (bit_or (get_or marks (n / 64) 0) (2 ^ (n % 64)))
