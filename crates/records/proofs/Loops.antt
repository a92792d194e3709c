-- Loops between a record's bytes and a lent list, over the type of a number: what is still to be done gives the whole. Assumes nothing.
use Prim.Native.Nat.{ℕ, ◌+◌, ◌*◌, ◌-◌, ◌<◌, ◌≤◌}
use native.Mathlib.Nat.{add-zero, mul-zero, mul-suc, sub-zero}
use native.Mathlib.Numerals.{add-one}
use native.Mathlib.Omega.{arith}
use mathlib.Core.Path.{◌≡◌, ap, ◌∙◌}
use mathlib.Core.List.{List, [], map}
use lib.ListN.{length, get_or, drop, set}
use lib.Seq.{sets, drop-cons, drop-length}
use Rattle.wire.specs.Numbers.{be, bytes, put}
use Rattle.wire.proofs.Numbers.{length_bytes, put_put}
use Rattle.wire.specs.Layouts.{numbers_at, bytes_each}
use Rattle.wire.proofs.Layouts.{numbers_at_next}

-- ---- From bytes to a list

module _ {X : Type 0} (of : ℕ → X) (width count : ℕ) (e : List ℕ) (at : ℕ) where
  -- the numbers from the i-th on
  abbrev pub to_take : ℕ → List X
  to_take i = map of (numbers_at width (count - i) e (at + width * i))

  -- what the list comes to, once they are taken too
  abbrev pub taking : List X → ℕ → List X
  taking list i = sets list i (to_take i)

  pub takes : (list : List X) (i : ℕ) → i < count → (x : X) → x ≡ of (be width e (at + width * i)) → taking (set list i x) (i + 1) ≡ taking list i
  takes list i h x is = rw (numbers_at_next width count e at i h, is, add-one i)

  pub taken : (list : List X) (i : ℕ) → count ≤ i → taking list i ≡ list
  unfolding numbers_at
  taken list i h = let z : count - i ≡ 0 = omega arith in rw z

  pub to_take_all : to_take 0 ≡ map of (numbers_at width count e at)
  to_take_all = rw (sub-zero, mul-zero, add-zero)

-- ---- From a list to bytes

module _ {X : Type 0} (value : X → ℕ) (width : ℕ) (list : List X) (at : ℕ) where
  -- what the buffer comes to, once the numbers from the i-th on are laid too
  abbrev pub laying : List ℕ → ℕ → List ℕ
  laying out i = put out (at + width * i) (bytes_each width (map value (drop i list)))

  pub lays : (out : List ℕ) (i : ℕ) → i < length list → (x : X) → x ≡ get_or list i x
      → laying (put out (at + width * i) (bytes width (value x))) (i + 1) ≡ laying out i
  unfolding bytes_each
  lays out i h x is =
      let own = bytes width (value x) in
      let a : at + width * (i + 1) ≡ at + width * i + length own = rw (add-one, mul-suc, length_bytes) (omega arith) in
      rw (a, put_put out (at + width * i) own _, add-one, drop-cons list i x h, ← is)

  pub laid : (out : List ℕ) (i : ℕ) → i ≡ length list → laying out i ≡ out
  unfolding bytes_each put
  laid out i e = let n : drop i list ≡ [] = ap (λ k. drop k list) e ∙ drop-length list in rw n

  pub laying_all : (out : List ℕ) → laying out 0 ≡ put out at (bytes_each width (map value list))
  laying_all out = rw (mul-zero, add-zero)
