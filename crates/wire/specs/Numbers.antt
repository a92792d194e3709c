-- Numbers in a list of bytes, over the byte order and the width in bytes, and bytes put in place. Assumes nothing.
use Rattle.std.specs.Prelude.{ℕ, zero, suc, ◌+◌, ◌*◌, ◌/◌, ◌%◌, ◌^◌, ◌<◌, ◌≡◌, List, [], ◌∷◌, ◌++◌, get_or, take, drop}
use Rattle.std.proofs.lemmas.List.Edits.{sets}
use Rattle.wire.specs.declared.ByteOrder.{ByteOrder}
use Rattle.wire.specs.declared.ByteOrder.TheVariants.{BigEndian, LittleEndian}

-- of a number's bytes, from a place on: where the high ones start beside so many low ones, and where the low ones start beside so many high ones
abbrev pub high_at : ByteOrder → ℕ → ℕ → ℕ
high_at BigEndian low at = at
high_at LittleEndian low at = at + low

abbrev pub low_at : ByteOrder → ℕ → ℕ → ℕ
low_at BigEndian high at = at + high
low_at LittleEndian high at = at

-- the number in the k bytes of s from at on; a byte past the end counts 0
unfoldable pub number_in : ByteOrder → ℕ → List ℕ → ℕ → ℕ
number_in order zero s at = 0
number_in order (suc k) s at = number_in order k s (high_at order 1 at) * 256 + get_or s (low_at order k at) 0

-- high bytes and low ones beside each other
abbrev pub beside : ByteOrder → List ℕ → List ℕ → List ℕ
beside BigEndian high low = high ++ low
beside LittleEndian high low = low ++ high

-- x in k bytes; what does not fit into them is dropped
unfoldable pub bytes_in : ByteOrder → ℕ → ℕ → List ℕ
bytes_in order zero x = []
bytes_in order (suc k) x = beside order (bytes_in order k (x / 256)) (x % 256 ∷ [])

-- most significant byte first, as every number stands but the values of little-endian types; and least significant byte first
abbrev pub be : ℕ → List ℕ → ℕ → ℕ
be = number_in BigEndian

abbrev pub le : ℕ → List ℕ → ℕ → ℕ
le = number_in LittleEndian

abbrev pub bytes : ℕ → ℕ → List ℕ
bytes = bytes_in BigEndian

-- s with vs in the place of as many bytes from at on, stored one by one; what would fall past the end is dropped
unfoldable pub put : List ℕ → ℕ → List ℕ → List ℕ
put s at vs = sets s at vs

-- every element is a byte
abbrev pub Bytes : List ℕ → Type 0
Bytes s = (i : ℕ) → get_or s i 0 < 256

-- r is the number in k bytes at a place
pub record ReadsIn (order : ByteOrder) (k : ℕ) (s : List ℕ) (at r : ℕ) : Type 0 where
  pub is : r ≡ number_in order k s at
  pub small : r < 256 ^ k

abbrev pub Reads : ℕ → List ℕ → ℕ → ℕ → Type 0
Reads = ReadsIn BigEndian

-- the k bytes of s from at on
unfoldable pub part : List ℕ → ℕ → ℕ → List ℕ
part s at k = take k (drop at s)
