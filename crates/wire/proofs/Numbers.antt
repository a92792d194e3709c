-- The laws of numbers in bytes, each once over the byte order and the width: frame, append, split, put after put, read after write, write after read.
-- Assumes nothing.
use Prim.Native.Nat.{ℕ, zero, suc, ◌+◌, ◌*◌, ◌/◌, ◌%◌, ◌^◌, ◌-◌, ◌<◌, ◌≤◌, min}
use native.Mathlib.Nat.{add-zero, zero-add, add-suc, add_comm, pow-suc, pow-succ', pow-le-pow_right, one-le-pow, mul_assoc, add_assoc, mul-one, div-one, div-div-eq-div-mul, mod-add-div}
use native.Mathlib.Omega.{arith}
use native.Mathlib.Numerals.{add-one}
use mathlib.Core.Path.{◌≡◌, refl, sym, ap, ◌∙◌}
use mathlib.Core.List.{List, [], ◌∷◌, ◌++◌, append_assoc, append-nil, reverse, reverse-cons, reverse-append}
use mathlib.Core.Logic.{◌⊎◌, inl, inr}
use mathlib.Core.Bool.{Bool, true, false}
use lib.Dec.{ltb}
use lib.Pow.{pow-add}
use borrow.Author.Tests.{ltb-true, ltb-false}
use lib.ListN.{length, get_or, take, drop, set, take-append-drop, length-append, length-set, length-drop, length-reverse, drop_of_length-le, get_or-eq_default, get_or-append}
use lib.Seq.{sets, length-sets, sets-eq, set_out, set-append_left, get_or-append-add, get_or-append_seam, get_or-set_same, get_or-set_other, get_or-drop, take-suc, take-append-le, drop-append-le, drop-append-add, take_all, take-nil, length-take-le, take-add, drop-drop, drop-cons}
use Rattle.wire.specs.Numbers.{high_at, low_at, number_in, beside, bytes_in, be, le, bytes, put, part, Bytes, ReadsIn, Reads}
use Rattle.wire.specs.declared.ByteOrder.{ByteOrder}
use Rattle.wire.specs.declared.ByteOrder.TheVariants.{BigEndian, LittleEndian}

-- the bytes of s and t from a up to e are the same
abbrev pub Same : List ℕ → List ℕ → ℕ → ℕ → Type 0
Same s t a e = (i : ℕ) → a ≤ i → i < e → get_or t i 0 ≡ get_or s i 0

-- v stands in t from a on
abbrev pub Holds : List ℕ → ℕ → List ℕ → Type 0
Holds t a v = (i : ℕ) → i < length v → get_or t (a + i) 0 ≡ get_or v i 0

-- ---- Reading

-- the lowest of k + 1 bytes and the k others lie among them
inside : (order : ByteOrder) (k at : ℕ)
    → (at ≤ low_at order k at) × (low_at order k at < at + suc k) × (at ≤ high_at order 1 at) × (high_at order 1 at + k ≤ at + suc k)
inside BigEndian k at = (omega arith, omega arith, omega arith, omega arith)
inside LittleEndian k at = (omega arith, omega arith, omega arith, omega arith)

-- high and low bytes by what stands before all
high_after : (order : ByteOrder) (low n at : ℕ) → high_at order low (n + at) ≡ n + high_at order low at
high_after BigEndian low n at = omega arith
high_after LittleEndian low n at = omega arith

low_after : (order : ByteOrder) (high n at : ℕ) → low_at order high (n + at) ≡ n + low_at order high at
low_after BigEndian high n at = omega arith
low_after LittleEndian high n at = omega arith

-- low bytes beside low bytes, and high ones beside them
pub high_none : (order : ByteOrder) (at : ℕ) → high_at order 0 at ≡ at
high_none BigEndian at = omega arith
high_none LittleEndian at = omega arith

pub high_high : (order : ByteOrder) (a b low at : ℕ) → low ≡ a + b → high_at order a (high_at order b at) ≡ high_at order low at
high_high BigEndian a b low at e = omega arith
high_high LittleEndian a b low at e = omega arith

low_low : (order : ByteOrder) (high low at : ℕ) → low_at order (high + low) at ≡ low_at order low (low_at order high at)
low_low BigEndian high low at = omega arith
low_low LittleEndian high low at = omega arith

high_low : (order : ByteOrder) (high at : ℕ) → high_at order 1 (low_at order high at) ≡ low_at order high (high_at order 1 at)
high_low BigEndian high at = omega arith
high_low LittleEndian high at = omega arith

module _ (order : ByteOrder) where
  pub number_past : (k : ℕ) (s : List ℕ) (at : ℕ) → length s ≤ at → number_in order k s at ≡ 0
  unfolding number_in
  number_past zero s at h = refl
  number_past (suc k) s at h =
      let w = inside order k at in
      let e : get_or s (low_at order k at) 0 ≡ 0 = get_or-eq_default s 0 {n = low_at order k at} (omega (arith, w.0)) in
      let i : number_in order k s (high_at order 1 at) ≡ 0 = number_past k s (high_at order 1 at) (omega (arith, w.2)) in
      rw (i, e)

  pub number_same : (k : ℕ) (s t : List ℕ) (at : ℕ) → Same s t at (at + k) → number_in order k t at ≡ number_in order k s at
  unfolding number_in
  number_same zero s t at h = refl
  number_same (suc k) s t at h =
      let w = inside order k at in
      let e : number_in order k t (high_at order 1 at) ≡ number_in order k s (high_at order 1 at) =
      number_same k s t (high_at order 1 at) (λ i l u. h i (omega (arith, w.2)) (omega (arith, w.3))) in
      rw (e, h (low_at order k at) w.0 w.1)

  pub number_append_left : (k : ℕ) (s t : List ℕ) (at : ℕ) → at + k ≤ length s → number_in order k (s ++ t) at ≡ number_in order k s at
  number_append_left k s t at h = number_same k s (s ++ t) at (λ i l u. get_or-append s t 0 i (omega arith))

  pub number_append_right : (k : ℕ) (s t : List ℕ) (at : ℕ) → number_in order k (s ++ t) (length s + at) ≡ number_in order k t at
  unfolding number_in
  number_append_right zero s t at = refl
  number_append_right (suc k) s t at =
      let e : number_in order k (s ++ t) (length s + high_at order 1 at) ≡ number_in order k t (high_at order 1 at) = number_append_right k s t (high_at order 1 at) in
      rw (high_after order 1 (length s) at, low_after order k (length s) at, e, get_or-append-add s t (low_at order k at) 0)

  -- high bytes and low ones
  pub number_split : (high low : ℕ) (s : List ℕ) (at : ℕ)
      → number_in order (high + low) s at ≡ number_in order high s (high_at order low at) * 256 ^ low + number_in order low s (low_at order high at)
  unfolding number_in
  number_split high zero s at = rw (add-zero, high_none order at) (sym (rw (mul-one, add-zero)))
  number_split high (suc low) s at =
      let n = number_in order high s (high_at order (suc low) at) in
      let i : number_in order (high + low) s (high_at order 1 at) ≡ n * 256 ^ low + number_in order low s (low_at order high (high_at order 1 at)) =
      rw (← high_high order low 1 (suc low) at (omega arith)) (number_split high low s (high_at order 1 at)) in
      let m : n * (256 ^ low * 256) ≡ n * 256 ^ low * 256 = sym (mul_assoc n (256 ^ low) 256) in
      rw (add-suc, i, pow-suc 256 low, m, low_low order high low at, high_low order high at) (omega arith)

  pub number_small : (k : ℕ) (s : List ℕ) (at : ℕ) → Bytes s → number_in order k s at < 256 ^ k
  unfolding number_in
  number_small zero s at h = omega arith
  number_small (suc k) s at h =
      let i : number_in order k s (high_at order 1 at) < 256 ^ k = number_small k s (high_at order 1 at) h in
      rw pow-suc (omega (arith, h (low_at order k at)))

-- ---- Parts of bytes are bytes

pub bytes_take : (n : ℕ) (s : List ℕ) → Bytes s → Bytes (take n s)
bytes_take zero [] b i = b i
bytes_take zero (x ∷ s) b i = omega arith
bytes_take (suc n) [] b i = b i
bytes_take (suc n) (x ∷ s) b zero = b 0
bytes_take (suc n) (x ∷ s) b (suc i) = bytes_take n s (λ j. b (suc j)) i

pub bytes_drop : (n : ℕ) (s : List ℕ) → Bytes s → Bytes (drop n s)
bytes_drop n s b i = rw get_or-drop (b (n + i))

pub bytes_part : (s : List ℕ) (at k : ℕ) → Bytes s → Bytes (part s at k)
unfolding part
bytes_part s at k b = bytes_take k (drop at s) (bytes_drop at s b)

-- ---- Bytes of a number

length_beside : (order : ByteOrder) (high low : List ℕ) → length (beside order high low) ≡ length high + length low
length_beside BigEndian high low = length-append high low
length_beside LittleEndian high low = length-append low high ∙ add_comm (length low) (length high)

beside_beside : (order : ByteOrder) (high mid low : List ℕ) → beside order (beside order high mid) low ≡ beside order high (beside order mid low)
beside_beside BigEndian high mid low = append_assoc high mid low
beside_beside LittleEndian high mid low = sym (append_assoc low mid high)

module _ (order : ByteOrder) where
  pub length_bytes : (k x : ℕ) → length (bytes_in order k x) ≡ k
  unfolding bytes_in
  length_bytes zero x = refl
  length_bytes (suc k) x = rw (length_beside order (bytes_in order k (x / 256)) (x % 256 ∷ []), length_bytes k (x / 256)) (add-one k)

  pub bytes_split : (high low x : ℕ) → bytes_in order (high + low) x ≡ beside order (bytes_in order high (x / 256 ^ low)) (bytes_in order low x)
  unfolding bytes_in
  bytes_split high zero x = rw (add-zero, div-one) (sym (none order (bytes_in order high x)))
    where
      none : (order : ByteOrder) (s : List ℕ) → beside order s [] ≡ s
      none BigEndian s = append-nil s
      none LittleEndian s = refl
  bytes_split high (suc low) x =
      rw (add-suc, bytes_split high low (x / 256), div-div-eq-div-mul, pow-succ')
      (beside_beside order (bytes_in order high (x / (256 * 256 ^ low))) (bytes_in order low (x / 256)) (x % 256 ∷ []))

  -- what does not fit is dropped
  pub bytes_low : (k x y more : ℕ) → x ≡ y + 256 ^ k * more → bytes_in order k x ≡ bytes_in order k y
  unfolding bytes_in
  bytes_low zero x y more e = refl
  bytes_low (suc k) x y more e =
      let whole : 256 ^ suc k * more ≡ 256 * (256 ^ k * more) = ap (λ p. p * more) (pow-succ' 256 k) ∙ mul_assoc 256 (256 ^ k) more in
      let low : x % 256 ≡ y % 256 = omega arith in
      let high : x / 256 ≡ y / 256 + 256 ^ k * more = omega arith in
      rw (low, bytes_low k (x / 256) (y / 256) more high)

  pub bytes_mod : (k x : ℕ) → bytes_in order k (x % 256 ^ k) ≡ bytes_in order k x
  bytes_mod k x = sym (bytes_low k x (x % 256 ^ k) (x / 256 ^ k) (sym (mod-add-div x (256 ^ k))))

-- ---- Putting bytes in place

pub length_put : (s : List ℕ) (at : ℕ) (vs : List ℕ) → length (put s at vs) ≡ length s
unfolding put
length_put s at vs = length-sets s at vs

pub put_past : (s : List ℕ) (at : ℕ) (vs : List ℕ) → length s ≤ at → put s at vs ≡ s
unfolding put
put_past s at [] h = refl
put_past s at (v ∷ vs) h =
    let e : set s at v ≡ s = set_out s at v h in
    rw e (put_past s (suc at) vs (omega arith))

pub put_split : (s : List ℕ) (at : ℕ) (vs : List ℕ) → at + length vs ≤ length s → put s at vs ≡ take at s ++ vs ++ drop (at + length vs) s
unfolding put
put_split s at vs h = sets-eq vs s at h

-- put after put, side by side
pub put_put : (s : List ℕ) (at : ℕ) (vs ws : List ℕ) → put (put s at vs) (at + length vs) ws ≡ put s at (vs ++ ws)
unfolding put
put_put s at [] ws = rw add-zero
put_put s at (v ∷ vs) ws =
    let e : at + suc (length vs) ≡ suc at + length vs = omega arith in
    rw e (put_put (set s at v) (suc at) vs ws)

pub put_append : (s t : List ℕ) (at : ℕ) (vs : List ℕ) → at + length vs ≤ length s → put (s ++ t) at vs ≡ put s at vs ++ t
unfolding put
put_append s t at [] h = refl
put_append s t at (v ∷ vs) h =
    rw (set-append_left s t at v (omega arith)) (put_append (set s at v) t (suc at) vs (rw length-set (omega arith)))

pub put_kept : (s : List ℕ) (at : ℕ) (vs : List ℕ) (i : ℕ) → (i < at) ⊎ (at + length vs ≤ i) → get_or (put s at vs) i 0 ≡ get_or s i 0
unfolding put
put_kept s at [] i h = refl
put_kept s at (v ∷ vs) i (inl h) =
    put_kept (set s at v) (suc at) vs i (inl (omega arith)) ∙ get_or-set_other s at i v 0 (λ e. omega arith)
put_kept s at (v ∷ vs) i (inr h) =
    put_kept (set s at v) (suc at) vs i (inr (omega arith)) ∙ get_or-set_other s at i v 0 (λ e. omega arith)

pub put_holds : (s : List ℕ) (at : ℕ) (vs : List ℕ) → at + length vs ≤ length s → Holds (put s at vs) at vs
unfolding put
put_holds s at [] h i l = absurd (omega arith)
put_holds s at (v ∷ vs) h zero l =
    rw add-zero (put_kept (set s at v) (suc at) vs at (inl (omega arith)) ∙ get_or-set_same s at v 0 (omega arith))
put_holds s at (v ∷ vs) h (suc i) l =
    let e : at + suc i ≡ suc at + i = omega arith in
    rw e (put_holds (set s at v) (suc at) vs (rw length-set (omega arith)) i (omega arith))

-- frame: a number apart from what was put reads as before
pub number_apart : (order : ByteOrder) (k : ℕ) (s : List ℕ) (at : ℕ) (vs : List ℕ) (a : ℕ) → (a + k ≤ at) ⊎ (at + length vs ≤ a)
    → number_in order k (put s at vs) a ≡ number_in order k s a
number_apart order k s at vs a (inl h) = number_same order k s (put s at vs) a (λ i l u. put_kept s at vs i (inl (omega arith)))
number_apart order k s at vs a (inr h) = number_same order k s (put s at vs) a (λ i l u. put_kept s at vs i (inr (omega arith)))

-- ---- Parts

-- a part, then the part after it
pub part_add : (e : List ℕ) (at m n : ℕ) → part e at (m + n) ≡ part e at m ++ part e (at + m) n
unfolding part
part_add e at m n = take-add m n (drop at e) ∙ ap (λ l. take m (drop at e) ++ take n l) (drop-drop m at e)

part_none : (s : List ℕ) (at : ℕ) → part s at 0 ≡ []
unfolding part
part_none s at = refl

part_one : (s : List ℕ) (at : ℕ) → at < length s → part s at 1 ≡ get_or s at 0 ∷ []
unfolding part
part_one s at h = rw (drop-cons s at 0 h)

pub length_part : (s : List ℕ) (at n : ℕ) → at + n ≤ length s → length (part s at n) ≡ n
unfolding part
length_part s at n h = length-take-le n (drop at s) (rw length-drop (omega arith))

-- of two lists, one after the other, a part that lies in the first one or starts in the second
pub part_first : (s t : List ℕ) (at n : ℕ) → at + n ≤ length s → part (s ++ t) at n ≡ part s at n
unfolding part
part_first s t at n h =
    ap (take n) (drop-append-le at s t (omega arith)) ∙ take-append-le n (drop at s) t (omega (arith, length-drop at s))

pub part_second : (s t : List ℕ) (at n a : ℕ) → at ≡ length s + a → part (s ++ t) at n ≡ part t a n
unfolding part
part_second s t at n a e = ap (λ k. take n (drop k (s ++ t))) e ∙ ap (take n) (drop-append-add s t a)

-- a part by a start and an end that reach no further than the list
pub part_clipped : (s : List ℕ) (at n a k : ℕ) → a ≡ min at (length s) → k ≡ min n (length s - a) → take (a + k - a) (drop a s) ≡ part s at n
unfolding part
part_clipped s at n a k e f = go (ltb at (length s)) refl
  where
    width : a + k - a ≡ k
    width = omega arith

    go : (b : Bool) → ltb at (length s) ≡ b → take (a + k - a) (drop a s) ≡ take n (drop at s)
    go false l =
        let h : length s ≤ at = ltb-false _ _ l in
        let i : length s ≤ a = omega arith in
        rw (drop_of_length-le s {i = at} h, drop_of_length-le s {i = a} i) (take-nil (a + k - a) ∙ sym (take-nil n))
    go true l =
        let h : at < length s = ltb-true _ _ l in
        let i : a ≡ at = omega arith in
        rw (width, i) (upto (ltb n (length s - at)) refl (ap (λ x. min n (length s - x)) i))
      where
        upto : (b : Bool) → ltb n (length s - at) ≡ b → min n (length s - a) ≡ min n (length s - at) → take k (drop at s) ≡ take n (drop at s)
        upto true q j = let l : n < length s - at = ltb-true _ _ q in let m : k ≡ n = omega arith in ap (λ x. take x (drop at s)) m
        upto false q j =
            let g : length s - at ≤ n = ltb-false _ _ q in
            let m : length (drop at s) ≡ length s - at = length-drop at s in
            take_all k (drop at s) (omega arith) ∙ sym (take_all n (drop at s) (omega arith))

-- ---- Read after write, write after read

-- bytes that stand beside each other, each by itself
holds_beside : (order : ByteOrder) (t : List ℕ) (a : ℕ) (high low : List ℕ) → Holds t a (beside order high low)
    → Holds t (high_at order (length low) a) high × Holds t (low_at order (length high) a) low
holds_beside BigEndian t a high low h = (
  (λ i l. h i (omega (arith, length-append high low)) ∙ get_or-append high low 0 i l),
  (λ i l. rw (add_assoc a (length high) i) (h (length high + i) (omega (arith, length-append high low)) ∙ get_or-append-add high low i 0)),
)
holds_beside LittleEndian t a high low h = (
  (λ i l. rw (add_assoc a (length low) i) (h (length low + i) (omega (arith, length-append low high)) ∙ get_or-append-add low high i 0)),
  (λ i l. h i (omega (arith, length-append low high)) ∙ get_or-append low high 0 i l),
)

module _ (order : ByteOrder) where
  pub number_holds : (k : ℕ) (t : List ℕ) (a x : ℕ) → x < 256 ^ k → Holds t a (bytes_in order k x) → number_in order k t a ≡ x
  unfolding number_in bytes_in
  number_holds zero t a x b h = omega arith
  number_holds (suc k) t a x b h =
      let w : x < 256 ^ k * 256 = rw pow-suc at b in
      let both = holds_beside order t a (bytes_in order k (x / 256)) (x % 256 ∷ []) h in
      let high : number_in order k t (high_at order 1 a) ≡ x / 256 = number_holds k t (high_at order 1 a) (x / 256) (omega arith) both.0 in
      let n : length (bytes_in order k (x / 256)) ≡ k = length_bytes order k (x / 256) in
      let low : get_or t (low_at order k a) 0 ≡ x % 256 = ap (λ j. get_or t j 0) (sym (add-zero (low_at order k a))) ∙ (rw n at both.1) 0 (omega arith) in
      omega arith

  pub number_put : (k : ℕ) (s : List ℕ) (at x : ℕ) → x < 256 ^ k → at + k ≤ length s → number_in order k (put s at (bytes_in order k x)) at ≡ x
  number_put k s at x b h =
      number_holds k (put s at (bytes_in order k x)) at x b (put_holds s at (bytes_in order k x) (rw length_bytes h))

-- a part of high bytes and low ones
part_beside : (order : ByteOrder) (high low : ℕ) (s : List ℕ) (at : ℕ)
    → part s at (high + low) ≡ beside order (part s (high_at order low at) high) (part s (low_at order high at) low)
part_beside BigEndian high low s at = part_add s at high low
part_beside LittleEndian high low s at = rw (add_comm high low) (part_add s at low high)

pub bytes_of_number : (order : ByteOrder) (k : ℕ) (s : List ℕ) (at : ℕ) → Bytes s → at + k ≤ length s → bytes_in order k (number_in order k s at) ≡ part s at k
unfolding number_in bytes_in
bytes_of_number order zero s at b h = sym (part_none s at)
bytes_of_number order (suc k) s at b h =
    let w = inside order k at in
    let n = number_in order k s (high_at order 1 at) in
    let g = get_or s (low_at order k at) 0 in
    let q : (n * 256 + g) / 256 ≡ n = omega (arith, b (low_at order k at)) in
    let r : (n * 256 + g) % 256 ≡ g = omega (arith, b (low_at order k at)) in
    let own : part s (low_at order k at) 1 ≡ g ∷ [] = part_one s (low_at order k at) (omega (arith, w.1)) in
    rw (q, r, bytes_of_number order k s (high_at order 1 at) b (omega (arith, w.3)), ← own) (sym (part_beside order k 1 s at) ∙ ap (part s at) (add-one k))

-- ---- Bytes by themselves, and reversed

pub number_part : (order : ByteOrder) (k : ℕ) (s : List ℕ) (from n at : ℕ) → at + k ≤ n → from + n ≤ length s
    → number_in order k (part s from n) at ≡ number_in order k s (from + at)
unfolding part
number_part order k s from n at l h =
    let before : length (take from s) ≡ from = length-take-le from s (omega arith) in
    let own : length (take n (drop from s)) ≡ n = length-take-le n (drop from s) (rw length-drop (omega arith)) in
    sym (number_append_left order k (take n (drop from s)) (drop n (drop from s)) at (omega arith))
    ∙ ap (λ t. number_in order k t at) (take-append-drop n (drop from s))
    ∙ sym (number_append_right order k (take from s) (drop from s) at)
    ∙ ap (λ t. number_in order k t (length (take from s) + at)) (take-append-drop from s)
    ∙ ap (λ j. number_in order k s (j + at)) before

-- a little-endian number is the big-endian number of the reversed bytes
number_mirrored : (s : List ℕ) → le (length s) s 0 ≡ be (length s) (reverse s) 0
unfolding number_in
number_mirrored [] = refl
number_mirrored (x ∷ s) =
    let k = length s in
    let n : length (reverse s) ≡ k = length-reverse s in
    let first : le k (x ∷ s) 1 ≡ le k s 0 = number_append_right LittleEndian k (x ∷ []) s 0 in
    let front : be k (reverse s ++ (x ∷ [])) 0 ≡ be k (reverse s) 0 = number_append_left BigEndian k (reverse s) (x ∷ []) 0 (omega arith) in
    let last : get_or (reverse s ++ (x ∷ [])) k 0 ≡ x = ap (λ j. get_or (reverse s ++ (x ∷ [])) j 0) (sym n) ∙ get_or-append_seam (reverse s) x [] 0 in
    rw (reverse-cons x s, zero-add k, first, front, last, number_mirrored s)

pub number_reversed : (k : ℕ) (s : List ℕ) (at : ℕ) → at + k ≤ length s → le k s at ≡ be k (reverse (part s at k)) 0
number_reversed k s at h =
    let n : length (part s at k) ≡ k = length_part s at k h in
    ap (le k s) (sym (add-zero at)) ∙ sym (number_part LittleEndian k s at k 0 (omega arith) h) ∙ rw n at (number_mirrored (part s at k))

-- and so are its bytes
pub bytes_reversed : (k x : ℕ) → bytes_in LittleEndian k x ≡ reverse (bytes k x)
unfolding bytes_in
bytes_reversed zero x = refl
bytes_reversed (suc k) x = rw (reverse-append (bytes_in BigEndian k (x / 256)) (x % 256 ∷ []), bytes_reversed k (x / 256))

-- ---- In the form in which the functions use them

module _ (order : ByteOrder) where
  pub reads_past : (k : ℕ) (s : List ℕ) (at : ℕ) → length s ≤ at → ReadsIn order k s at 0
  reads_past k s at h = record { is = sym (number_past order k s at h); small = one-le-pow k 256 (omega arith) }

  pub reads_none : (s : List ℕ) (at : ℕ) → ReadsIn order 0 s at 0
  unfolding number_in
  reads_none s at = record { is = refl; small = omega arith }

pub number_one : (order : ByteOrder) (s : List ℕ) (at : ℕ) → number_in order 1 s at ≡ get_or s at 0
unfolding number_in
number_one BigEndian s at = rw add-zero (omega arith)
number_one LittleEndian s at = omega arith

-- a number of four bytes or fewer, byte by byte
pub be_two : (s : List ℕ) (at : ℕ) → be 2 s at ≡ get_or s at 0 * 256 + get_or s (at + 1) 0
be_two s at = number_split BigEndian 1 1 s at ∙ rw (number_one BigEndian s at, number_one BigEndian s (at + 1))

pub be_four : (s : List ℕ) (at : ℕ) → be 4 s at ≡ get_or s at 0 * 16777216 + get_or s (at + 1) 0 * 65536 + get_or s (at + 2) 0 * 256 + get_or s (at + 3) 0
be_four s at =
    let e : at + 2 + 1 ≡ at + 3 = omega arith in
    let n : be 4 s at ≡ be 2 s at * 65536 + be 2 s (at + 2) = number_split BigEndian 2 2 s at in
    let l : be 2 s (at + 2) ≡ get_or s (at + 2) 0 * 256 + get_or s (at + 3) 0 = rw (← e) (be_two s (at + 2)) in
    omega (arith, be_two s at)

pub le_two : (s : List ℕ) (at : ℕ) → le 2 s at ≡ get_or s (at + 1) 0 * 256 + get_or s at 0
le_two s at = number_split LittleEndian 1 1 s at ∙ rw (number_one LittleEndian s (at + 1), number_one LittleEndian s at)

pub le_four : (s : List ℕ) (at : ℕ) → le 4 s at ≡ get_or s (at + 3) 0 * 16777216 + get_or s (at + 2) 0 * 65536 + get_or s (at + 1) 0 * 256 + get_or s at 0
le_four s at =
    let e : at + 2 + 1 ≡ at + 3 = omega arith in
    let n : le 4 s at ≡ le 2 s (at + 2) * 65536 + le 2 s at = number_split LittleEndian 2 2 s at in
    let h : le 2 s (at + 2) ≡ get_or s (at + 3) 0 * 256 + get_or s (at + 2) 0 = rw (← e) (le_two s (at + 2)) in
    omega (arith, le_two s at)

-- a byte is its number in either order
pub reads_one : (order : ByteOrder) (s : List ℕ) (at n : ℕ) → Reads 1 s at n → ReadsIn order 1 s at n
reads_one order s at n r = record { is = r.is ∙ number_one BigEndian s at ∙ sym (number_one order s at); small = r.small }

-- what was read in an order and a width that are those asked for
pub reads_asked : (order own : ByteOrder) → order ≡ own → (width k : ℕ) → width ≡ k → k ≤ 8 → (s : List ℕ) (at n : ℕ) → ReadsIn own k s at n
    → ReadsIn order (min width 8) s at n
reads_asked order own o width k w l s at n r =
    let m : min width 8 ≡ k = omega arith in
    rw (o, m) r

pub reads_byte : (order : ByteOrder) (s : List ℕ) (at b : ℕ) → b ≡ get_or s at 0 → Bytes s → ReadsIn order 1 s at b
reads_byte order s at b e h = record { is = e ∙ sym (number_one order s at); small = omega (arith, h at) }

-- one byte more, below those that were read
pub reads_more : (order : ByteOrder) (k : ℕ) (s : List ℕ) (at n b : ℕ) → ReadsIn order k s (high_at order 1 at) n → Reads 1 s (low_at order k at) b
    → ReadsIn order (k + 1) s at (n * 256 + b)
unfolding number_in
reads_more order k s at n b r q =
    let low : b ≡ get_or s (low_at order k at) 0 = q.is ∙ number_one BigEndian s (low_at order k at) in
    rw add-one (record { is = rw (r.is, low); small = rw pow-suc (omega (arith, r.small, q.small)) })

-- one step of reading so many bytes, from the highest on
pub reads_next : (order : ByteOrder) (count i : ℕ) (s : List ℕ) (at n b : ℕ) → i < count → ReadsIn order i s (high_at order (count - i) at) n
    → Reads 1 s (low_at order i (high_at order (count - 1 - i) at)) b → ReadsIn order (i + 1) s (high_at order (count - (i + 1)) at) (n * 256 + b)
reads_next order count i s at n b l r q =
    let e : count - (i + 1) ≡ count - 1 - i = omega arith in
    let h = high_high order 1 (count - 1 - i) (count - i) at (omega arith) in
    rw e (reads_more order i s (high_at order (count - 1 - i) at) n b (rw (← h) at r) q)

pub byte_room : (k n b : ℕ) → k < 8 → n < 256 ^ k → b < 256 → n * 256 + b < 2 ^ 64
byte_room k n b h m l =
    let p : 256 ^ suc k ≤ 2 ^ 64 = pow-le-pow_right {n = 256} (omega arith) {i = suc k} {j = 8} h in
    let q : 256 ^ k * 256 ≤ 2 ^ 64 = rw pow-suc at p in
    omega arith

-- ---- Putting bytes, one by one

-- the byte of a number that stands above so many others
byte_above : (k low x : ℕ) → get_or (bytes (k + 1 + low) x) k 0 ≡ x / 256 ^ low % 256
unfolding bytes_in
byte_above k low x =
    let high = bytes k (x / 256 ^ low / 256) in
    let n : k ≡ length high = sym (length_bytes BigEndian k (x / 256 ^ low / 256)) in
    rw (bytes_split BigEndian (k + 1) low x, add-one, append_assoc) (ap (λ j. get_or (high ++ (x / 256 ^ low % 256 ∷ bytes low x)) j 0) n ∙ get_or-append_seam high (x / 256 ^ low % 256) (bytes low x) 0)

power_of_bytes : (k : ℕ) → 2 ^ (8 * k) ≡ 256 ^ k
power_of_bytes zero = refl
power_of_bytes (suc k) =
    let e : 8 * suc k ≡ 8 + 8 * k = omega arith in
    rw (e, pow-add 2 8 (8 * k), power_of_bytes k) (sym (pow-succ' 256 k))

pub byte_of : (k x i : ℕ) → i < k → get_or (bytes k x) i 0 ≡ x / 2 ^ (8 * (k - 1 - i)) % 256
byte_of k x i h =
    let low = k - 1 - i in
    let n : i + 1 + low ≡ k = omega arith in
    rw (power_of_bytes low) (ap (λ m. get_or (bytes m x) i 0) (sym n) ∙ byte_above i low x)

module _ (s : List ℕ) (at : ℕ) (vs t : List ℕ) where
  -- one byte more
  pub put_more : (i v : ℕ) → t ≡ put s at (take i vs) → i < length vs → v ≡ get_or vs i 0 → set t (at + i) v ≡ put s at (take (i + 1) vs)
  unfolding put
  put_more i v o h w =
      let n : length (take i vs) ≡ i = length-take-le i vs (omega arith) in
      let e : take (i + 1) vs ≡ take i vs ++ (v ∷ []) = rw (w, add-one, take-suc vs i 0 h) in
      ap (λ l. set l (at + i) v) o ∙ ap (λ k. set (sets s at (take i vs)) (at + k) v) (sym n) ∙ put_put s at (take i vs) (v ∷ []) ∙ ap (put s at) (sym e)

  -- as many bytes as there is room for
  pub put_all : (i : ℕ) → t ≡ put s at (take i vs) → i ≡ min (length vs) (length s - at) → t ≡ put s at vs
  put_all i o r = o ∙ go (ltb i (length vs)) refl
    where
      go : (b : Bool) → ltb i (length vs) ≡ b → put s at (take i vs) ≡ put s at vs
      go true e =
          let l : i < length vs = ltb-true _ _ e in
          let n : length (take i vs) ≡ i = length-take-le i vs (omega arith) in
          let p : put (put s at (take i vs)) (at + length (take i vs)) (drop i vs) ≡ put s at (take i vs) = put_past (put s at (take i vs)) _ _ (rw length_put (omega arith)) in
          sym p ∙ put_put s at (take i vs) (drop i vs) ∙ ap (put s at) (take-append-drop i vs)
      go false e = ap (put s at) (take_all i vs (ltb-false _ _ e))

-- bytes put at the front
pub put_front : (s vs : List ℕ) → length vs ≤ length s → put s 0 vs ≡ vs ++ drop (length vs) s
put_front s vs h = put_split s 0 vs (omega arith) ∙ ap (λ n. vs ++ drop n s) (zero-add (length vs))

-- what is put into no bytes leaves them: a walk that only judges
pub put_nowhere : (out vs after : List ℕ) → after ≡ put [] 0 vs → after ++ out ≡ out
put_nowhere out vs after e = ap (λ l. l ++ out) (e ∙ put_past [] 0 vs (omega arith))
