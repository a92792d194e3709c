-- The laws of marks: which ones are set once one is set. Assumes nothing.
use Prim.Native.Nat.{ℕ, zero, suc, ◌+◌, ◌*◌, ◌-◌, ◌/◌, ◌%◌, ◌^◌, ◌≤◌, ◌<◌}
use native.Mathlib.Nat.{div_self, div-eq_of_lt}
use native.Mathlib.Omega.{arith}
use mathlib.Core.Path.{◌≡◌, refl, ap, ◌∙◌}
use mathlib.Core.List.{List}
use mathlib.Core.Bool.{Bool, true, false}
use borrow.Author.Tests.{eqb-true, eqb-false, eq-eqb, ltb-true, ltb-false}
use lib.Bits.{bit_or, or_shr, or_mod, or_comm, or_zero_r}
use lib.Dec.{eqb, ltb}
use lib.Pow.{pow_pos, pow-lt, shl-shr, pow-add}
use lib.ListN.{length, get_or, replicate, length-set, get_or-eq_default}
use lib.Seq.{get_or-set_same, get_or-set_other, set_out}
use Rattle.marks.specs.Marks.{bit_of, marked, with_mark}

-- ---- Bits

one_or : (x y : ℕ) → x ≡ 1 → y < 2 → bit_or x y ≡ 1
one_or x zero e h = rw e refl
one_or x (suc zero) e h = rw e refl
one_or x (suc (suc y)) e h = absurd (omega arith)

bit_of_or : (a b k : ℕ) → bit_of (bit_or a b) k ≡ bit_or (bit_of a k) (bit_of b k)
bit_of_or a b k = ap (λ x. x % 2) (or_shr a b k) ∙ or_mod (a / 2 ^ k) (b / 2 ^ k) 1

bit_kept : (a b k : ℕ) → bit_of a k ≡ 1 → bit_of (bit_or a b) k ≡ 1
bit_kept a b k e = bit_of_or a b k ∙ one_or (bit_of a k) (bit_of b k) e (omega arith)

bit_own : (a k : ℕ) → bit_of (bit_or a (2 ^ k)) k ≡ 1
bit_own a k = rw (or_comm a (2 ^ k)) (bit_kept (2 ^ k) a k (ap (λ x. x % 2) (div_self (pow_pos k))))

-- a power of two has no bit but its own
above : (k d : ℕ) → bit_of (2 ^ (suc d + k)) k ≡ 0
above k d =
    let high : 2 ^ (suc d + k) / 2 ^ k ≡ 2 ^ suc d = ap (λ x. x / 2 ^ k) (pow-add 2 (suc d) k) ∙ shl-shr (2 ^ suc d) k in
    rw high (omega arith)

power_bit : (j k : ℕ) → (k ≡ j → ⊥) → bit_of (2 ^ j) k ≡ 0
power_bit j k other = go (ltb j k) refl
  where
    go : (t : Bool) → ltb j k ≡ t → bit_of (2 ^ j) k ≡ 0
    go true e = let low : 2 ^ j / 2 ^ k ≡ 0 = div-eq_of_lt (pow-lt (ltb-true j k e)) in rw low refl
    go false e =
        let rest : j ≡ suc (j - suc k) + k = omega (arith, other, ltb-false j k e) in
        rw rest (above k (j - suc k))

bit_other : (a j k : ℕ) → (k ≡ j → ⊥) → bit_of (bit_or a (2 ^ j)) k ≡ bit_of a k
bit_other a j k other = bit_of_or a (2 ^ j) k ∙ rw (power_bit j k other) (or_zero_r (bit_of a k))

zero_bit : (k : ℕ) → bit_of 0 k ≡ 0
zero_bit k = let low : 0 / 2 ^ k ≡ 0 = div-eq_of_lt (pow_pos k) in rw low refl

-- ---- Marks

pub mark_length : (marks : List ℕ) (n : ℕ) → length (with_mark marks n) ≡ length marks
unfolding with_mark
mark_length marks n = length-set marks _ _

pub none_outside : (marks : List ℕ) (n : ℕ) → length marks ≤ n / 64 → marked marks n ≡ false
unfolding marked
none_outside marks n h = rw (get_or-eq_default marks 0 h, zero_bit (n % 64)) refl

-- past the last word nothing happens
pub mark_outside : (marks : List ℕ) (n : ℕ) → length marks ≤ n / 64 → with_mark marks n ≡ marks
unfolding with_mark
mark_outside marks n h = set_out marks (n / 64) _ h

module _ (marks : List ℕ) (n : ℕ) where
  own_word : n / 64 < length marks → get_or (with_mark marks n) (n / 64) 0 ≡ bit_or (get_or marks (n / 64) 0) (2 ^ (n % 64))
  unfolding with_mark
  own_word h = get_or-set_same marks (n / 64) _ 0 h

  other_word : (w : ℕ) → (w ≡ n / 64 → ⊥) → get_or (with_mark marks n) w 0 ≡ get_or marks w 0
  unfolding with_mark
  other_word w other = get_or-set_other marks (n / 64) w _ 0 other

  -- the mark that is set is set then
  pub own_mark : n < 64 * length marks → marked (with_mark marks n) n ≡ true
  unfolding marked
  own_mark h = rw (own_word (omega arith)) (eq-eqb _ 1 (bit_own (get_or marks (n / 64) 0) (n % 64)))

  beside : (k : ℕ) → (k ≡ n → ⊥) → k / 64 ≡ n / 64 → (t : Bool) → ltb (n / 64) (length marks) ≡ t → marked (with_mark marks n) k ≡ marked marks k
  unfolding marked
  beside k other e true h =
      rw (e, own_word (ltb-true _ _ h), bit_other (get_or marks (n / 64) 0) (n % 64) (k % 64) (omega (arith, other)))
  beside k other e false h = rw (mark_outside marks n (ltb-false _ _ h))

  apart : (k : ℕ) → (k ≡ n → ⊥) → (t : Bool) → eqb (k / 64) (n / 64) ≡ t → marked (with_mark marks n) k ≡ marked marks k
  unfolding marked
  apart k other true e = beside k other (eqb-true _ _ e) (ltb (n / 64) (length marks)) refl
  apart k other false e = rw (other_word (k / 64) (eqb-false _ _ e))

  -- every other mark stays as it was
  pub other_mark : (k : ℕ) → (k ≡ n → ⊥) → marked (with_mark marks n) k ≡ marked marks k
  other_mark k other = apart k other (eqb (k / 64) (n / 64)) refl

  own_stays : (t : Bool) → ltb (n / 64) (length marks) ≡ t → marked marks n ≡ true → marked (with_mark marks n) n ≡ true
  own_stays true h e = own_mark (omega (arith, ltb-true (n / 64) (length marks) h))
  own_stays false h e = rw (mark_outside marks n (ltb-false _ _ h)) e

  stays : (k : ℕ) (t : Bool) → eqb k n ≡ t → marked marks k ≡ true → marked (with_mark marks n) k ≡ true
  stays k true same e =
      let is : k ≡ n = eqb-true k n same in
      rw is (own_stays (ltb (n / 64) (length marks)) refl (rw is at e))
  stays k false other e = other_mark k (eqb-false k n other) ∙ e

  -- a mark that was set stays set
  pub mark_kept : (k : ℕ) → marked marks k ≡ true → marked (with_mark marks n) k ≡ true
  mark_kept k = stays k (eqb k n) refl

-- ---- None set

zero_word : (words w : ℕ) → ◌≡◌ {A = ℕ} (get_or (replicate words 0) w 0) 0
zero_word zero w = refl
zero_word (suc words) zero = refl
zero_word (suc words) (suc w) = zero_word words w

-- no mark is set in words of 0
pub no_mark : (words n : ℕ) → marked (replicate words 0) n ≡ false
unfolding marked
no_mark words n = rw (zero_word words (n / 64), zero_bit (n % 64)) refl
