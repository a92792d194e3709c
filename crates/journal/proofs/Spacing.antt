-- Where the blocks and slots of an image that opens lie: blocks apart, slots inside blocks, apart from each other and clear of block headers.
-- Assumes nothing.
use Prim.Native.Nat.{ℕ, zero, suc, ◌+◌, ◌*◌, ◌≤◌}
use mathlib.Core.Path.{◌≡◌, refl}
use mathlib.Core.Logic.{◌⊎◌, inl, inr}
use mathlib.Core.List.{List, [], ◌∷◌}
use native.Mathlib.Omega.{arith}
use lib.ListN.{length}
use Rattle.directory.specs.Blocks.{slot_count, block_end}
use Rattle.directory.specs.Slots.{rows, slot_places}
use Rattle.answer.specs.Search.{In, Pairwise}
use Rattle.directory.specs.Rules.{Apart}
use Rattle.answer.proofs.Tests.{in_append, same?, pairwise_append, pairwise_in}
use Rattle.journal.specs.Trailers.{slot_size}
use Rattle.directory.proofs.Rules.{BlocksKept}

-- ---- Every two of a list without repetition

pub pairwise_all : (R : ℕ → ℕ → Type 0) (l : List ℕ) → Pairwise (λ x y. x ≡ y → ⊥) l
    → ((x y : ℕ) → In x l → In y l → (x ≡ y → ⊥) → R x y) → Pairwise R l
pairwise_all R [] d h = tt
pairwise_all R (z ∷ l) d h = ((λ y i. h z y (inl refl) (inr i) (d.0 y i)), pairwise_all R l d.1 (λ x y i j. h x y (inr i) (inr j)))

pub pairwise_map : (R S : ℕ → ℕ → Type 0) (l : List ℕ) → ((x y : ℕ) → In x l → In y l → R x y → S x y) → Pairwise R l → Pairwise S l
pairwise_map R S [] f h = tt
pairwise_map R S (z ∷ l) f h = ((λ y i. f z y (inl refl) (inr i) (h.0 y i)), pairwise_map R S l (λ x y i j. f x y (inr i) (inr j)) h.1)

-- ---- Slots inside their blocks

rows_in : (p k q : ℕ) → In q (rows p k) → (p ≤ q) × (q + slot_size ≤ p + slot_size * k)
unfolding rows
rows_in p zero q i = absurd i
rows_in p (suc k) q (inl e) = omega arith
rows_in p (suc k) q (inr i) = let r = rows_in (p + slot_size) k q i in omega arith

-- the block that a slot lies in
pub slot_block : (s bs : List ℕ) (q : ℕ) → In q (slot_places s bs) → (b : ℕ) × In b bs × (b + 6 ≤ q) × (q + slot_size ≤ block_end s b)
unfolding slot_places
slot_block s [] q i = absurd i
slot_block s (b ∷ bs) q i =
    elim (in_append q (rows (b + 6) (slot_count s b)) (slot_places s bs) i) [
      | inl j ↦ let r = rows_in (b + 6) (slot_count s b) q j in (b, inl refl, r.0, r.1)
      | inr j ↦ let r = slot_block s bs q j in (r.0, inr r.1, r.2, r.3)
    ]

-- ---- Slots apart

-- two slots share no byte
abbrev pub Spaced : ℕ → ℕ → Type 0
Spaced p q = (p + slot_size ≤ q) ⊎ (q + slot_size ≤ p)

spaced_rows : (p k : ℕ) → Pairwise Spaced (rows p k)
unfolding rows
spaced_rows p zero = tt
spaced_rows p (suc k) = ((λ q i. inl (rows_in (p + slot_size) k q i).0), spaced_rows (p + slot_size) k)

slots_spaced : (s bs : List ℕ) → Pairwise (λ b c. Apart b (block_end s b) c (block_end s c)) bs → Pairwise Spaced (slot_places s bs)
unfolding slot_places
slots_spaced s [] h = tt
slots_spaced s (b ∷ bs) h =
    let own = rows (b + 6) (slot_count s b) in
    (pairwise_append Spaced own (slot_places s bs)).1 (
      spaced_rows (b + 6) (slot_count s b),
      slots_spaced s bs h.1,
      λ p q i j.
          let r = rows_in (b + 6) (slot_count s b) p i in
          let t = slot_block s bs q j in
          elim (h.0 t.0 t.1) [ inl l ↦ inl (omega arith) | inr l ↦ inr (omega arith) ],
    )

-- ---- In an image whose blocks keep the rules

module _ (s bs : List ℕ) (k : BlocksKept s bs) where
  pub blocks_two : (b c : ℕ) → In b bs → In c bs → (b ≡ c) ⊎ Apart b (block_end s b) c (block_end s c)
  blocks_two b c i j =
      elim (same? b c) [
        | inl e ↦ inl e
        | inr n ↦
            inr (pairwise_in (λ x y. Apart x (block_end s x) y (block_end s y)) (λ x y h. elim h [ inl l ↦ inr l | inr l ↦ inl l ])
            bs k.apart b c i j n)
      ]

  pub blocks_distinct : Pairwise (λ b c. b ≡ c → ⊥) bs
  blocks_distinct =
      pairwise_map (λ b c. Apart b (block_end s b) c (block_end s c)) (λ b c. b ≡ c → ⊥) bs
      (λ b c i j h e. elim h [ inl l ↦ omega arith | inr l ↦ omega arith ]) k.apart

  pub slot_inside : (p : ℕ) → In p (slot_places s bs) → (10 ≤ p) × (p + slot_size ≤ length s)
  slot_inside p i =
      let t = slot_block s bs p i in
      omega (arith, k.inside t.0 t.1, k.after_header t.0 t.1)

  pub slots_two : (p q : ℕ) → In p (slot_places s bs) → In q (slot_places s bs) → (p ≡ q → ⊥) → Spaced p q
  slots_two = pairwise_in Spaced (λ x y h. elim h [ inl l ↦ inr l | inr l ↦ inl l ]) (slot_places s bs) (slots_spaced s bs k.apart)

  pub slots_distinct : Pairwise (λ p q. p ≡ q → ⊥) (slot_places s bs)
  slots_distinct =
      pairwise_map Spaced (λ p q. p ≡ q → ⊥) (slot_places s bs)
      (λ p q i j h e. elim h [ inl l ↦ omega arith | inr l ↦ omega arith ]) (slots_spaced s bs k.apart)

  -- a slot is clear of every block's header
  pub header_clear : (p b : ℕ) → In p (slot_places s bs) → In b bs → (b + 6 ≤ p) ⊎ (p + slot_size ≤ b)
  header_clear p b i j =
      let t = slot_block s bs p i in
      elim (blocks_two b t.0 j t.1) [
        | inl e ↦ inl (omega arith)
        | inr r ↦ elim r [ inl l ↦ inl (omega arith) | inr l ↦ inr (omega arith) ]
      ]
