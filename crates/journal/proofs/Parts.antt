-- What stands where in a list of bytes, and what is read there, after bytes were appended to it or put in place. Assumes nothing.
use Prim.Native.Nat.{ℕ, suc, ◌+◌, ◌-◌, ◌^◌, ◌≤◌, ◌<◌}
use mathlib.Core.Path.{◌≡◌, sym, ap, ◌∙◌}
use mathlib.Core.Logic.{inl, inr}
use mathlib.Core.List.{List, ◌++◌}
use native.Mathlib.Omega.{arith}
use lib.ListN.{length, get_or, take, drop, length-append, take-append-drop, get_or-append}
use lib.Seq.{get_or-append-add, get_or-take, get_or-drop, ext_get_or, length-take-le}
use lib.Dec.{ltb}
use borrow.Author.Tests.{ltb-true, ltb-false}
use Rattle.wire.specs.Numbers.{be, bytes, put, part}
use Rattle.wire.specs.declared.ByteOrder.TheVariants.{BigEndian}
use Rattle.wire.proofs.Numbers.{Same, Holds, length_put, length_part, put_append, put_kept, put_holds, number_holds}
use Rattle.answer.proofs.Tests.{test}

-- ---- What stands at a place

pub holds_left : (t : List ℕ) (a : ℕ) (v w : List ℕ) → Holds t a (v ++ w) → Holds t a v
holds_left t a v w h i l = h i (rw length-append (omega arith)) ∙ get_or-append v w 0 i l

pub holds_right : (t : List ℕ) (a n : ℕ) (v w : List ℕ) → length v ≡ n → Holds t a (v ++ w) → Holds t (a + n) w
holds_right t a n v w e h i l =
    let k : a + n + i ≡ a + (length v + i) = omega arith in
    rw k (h (length v + i) (rw length-append (omega arith)) ∙ get_or-append-add v w i 0)

-- what is appended stands behind
pub holds_appended : (x y : List ℕ) (n : ℕ) → length x ≡ n → Holds (x ++ y) n y
holds_appended x y n e i l = rw (← e) (get_or-append-add x y i 0)

-- what stood there stands there still
pub holds_append : (t x : List ℕ) (a : ℕ) (v : List ℕ) → a + length v ≤ length t → Holds t a v → Holds (t ++ x) a v
holds_append t x a v n h i l = get_or-append t x 0 (a + i) (omega arith) ∙ h i l

-- the last number of a list that stands there
pub be_last : (k : ℕ) (t : List ℕ) (a n : ℕ) (v : List ℕ) (x : ℕ) → length v ≡ n → x < 256 ^ k → Holds t a (v ++ bytes k x) → be k t (a + n) ≡ x
be_last k t a n v x e b h = number_holds BigEndian k t (a + n) x b (holds_right t a n v (bytes k x) e h)

-- ---- The same bytes in two lists

pub same_append : (s t x : List ℕ) (a e : ℕ) → e ≤ length t → Same s t a e → Same s (t ++ x) a e
same_append s t x a e n h i l u = get_or-append t x 0 i (omega arith) ∙ h i l u

same_join : (s t : List ℕ) (a b e : ℕ) → Same s t a b → Same s t b e → Same s t a e
same_join s t a b e x y i l u = elim (test (ltb i b)) [ inl q ↦ x i l (ltb-true i b q) | inr q ↦ y i (ltb-false i b q) u ]

-- ---- A part

part_at : (t : List ℕ) (a k i : ℕ) → i < k → get_or (part t a k) i 0 ≡ get_or t (a + i) 0
unfolding part
part_at t a k i l = get_or-take k (drop a t) i 0 l ∙ get_or-drop a t i 0

-- what stands there is what is taken from there
pub part_held : (t : List ℕ) (a k : ℕ) (v : List ℕ) → a + k ≤ length t → length v ≡ k → Holds t a v → part t a k ≡ v
part_held t a k v b e h =
    let n : length (part t a k) ≡ k = length_part t a k b in
    ext_get_or 0 (part t a k) v (n ∙ sym e) (λ i l. part_at t a k i (omega arith) ∙ h i (omega arith))

pub part_same : (s t : List ℕ) (a k : ℕ) → a + k ≤ length s → length s ≤ length t → Same s t a (a + k) → part t a k ≡ part s a k
part_same s t a k b n h =
    part_held t a k (part s a k) (omega arith) (length_part s a k b)
    (λ i l. let u : i < k = omega (arith, length_part s a k b) in h (a + i) (omega arith) (omega arith) ∙ sym (part_at s a k i u))

-- ---- Putting in place

pub put_before : (s : List ℕ) (at : ℕ) (vs : List ℕ) → Same s (put s at vs) 0 at
put_before s at vs i l u = put_kept s at vs i (inl u)

pub put_after : (s : List ℕ) (at : ℕ) (vs : List ℕ) (e : ℕ) → Same s (put s at vs) (at + length vs) e
put_after s at vs e i l u = put_kept s at vs i (inr l)

-- a part of s put into a list of its length that is s around it
pub put_back : (s t : List ℕ) (p k : ℕ) → p + k ≤ length s → length t ≡ length s → Same s t 0 p → Same s t (p + k) (length s)
    → put t p (part s p k) ≡ s
put_back s t p k b n low high =
    let v = part s p k in
    let u = put t p v in
    let lv : length v ≡ k = length_part s p k b in
    let lu : length u ≡ length s = length_put t p v ∙ n in
    let here : Same s u p (p + k) =
    λ i l m.
    let j : p + (i - p) ≡ i = omega arith in
    let w : get_or u (p + (i - p)) 0 ≡ get_or s (p + (i - p)) 0 =
    put_holds t p v (omega arith) (i - p) (omega arith) ∙ part_at s p k (i - p) (omega arith) in
    rw j at w in
    let all : Same s u 0 (length s) =
    same_join s u 0 p (length s) (λ i l m. put_before t p v i l m ∙ low i l m)
    (same_join s u p (p + k) (length s) here (λ i l m. put_after t p v (length s) i (omega arith) m ∙ high i l m)) in
    ext_get_or 0 u s lu (λ i l. all i (omega arith) (omega arith))

-- what stood at a place is put back over what was put there
pub put_undone : (l : List ℕ) (at k : ℕ) (vs : List ℕ) → at + k ≤ length l → length vs ≡ k → put (put l at vs) at (part l at k) ≡ l
put_undone l at k vs h n =
    put_back l (put l at vs) at k h (length_put l at vs) (put_before l at vs) (λ i lo hi. put_after l at vs (suc i) i (omega arith) (omega arith))

-- a change inside the first m bytes is a change of those
pub put_inside : (l : List ℕ) (m at : ℕ) (vs : List ℕ) → m ≤ length l → at + length vs ≤ m → put l at vs ≡ put (take m l) at vs ++ drop m l
put_inside l m at vs fits inside =
    let long : length (take m l) ≡ m = length-take-le m l fits in
    ap (λ x. put x at vs) (sym (take-append-drop m l)) ∙ put_append (take m l) (drop m l) at vs (omega arith)

pub part_front : (l : List ℕ) (n at k : ℕ) → n ≤ length l → at + k ≤ n → part (take n l) at k ≡ part l at k
part_front l n at k fits inside =
    let long : length (take n l) ≡ n = length-take-le n l fits in
    sym (part_same (take n l) l at k (omega arith) (omega arith) (λ i lo hi. sym (get_or-take n l i 0 (omega arith))))
