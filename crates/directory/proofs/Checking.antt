-- The rules of slots, slot by slot and block by block: what the rest of the slots answers is the answer. Assumes nothing.
use Prim.Native.Nat.{ℕ, suc, ◌+◌, ◌*◌, ◌-◌, ◌≤◌, ◌<◌, ◌%◌}
use native.Mathlib.Omega.{arith}
use mathlib.Core.Path.{◌≡◌, refl, sym, ap, ◌∙◌}
use mathlib.Core.Logic.{◌⊎◌, inl, inr}
use mathlib.Core.List.{List, [], ◌∷◌, ◌++◌}
use mathlib.Core.Bool.{true, false, or-false}
use lib.ListN.{length}
use Rattle.answer.specs.Answer.{Answer, grant, refuse}
use Rattle.answer.specs.Links.{link_after}
use Rattle.answer.specs.Search.{any}
use Rattle.marks.specs.Marks.{marked}
use Rattle.directory.specs.Blocks.{slot_count, next_block}
use Rattle.directory.specs.Slots.{tag_at, base_tag, clash, element_fault, slot_fault, rows}
use Rattle.directory.specs.Opening.{slots_from}
use Rattle.directory.specs.Rules.{Live}
use Rattle.directory.specs.Links.{slots_after, block_after, blocks_after}
use Rattle.directory.specs.Steps.Keys.{Keyed, mark_at}
use Rattle.directory.specs.Steps.Doubts.{slot_at, earlier_of, Sound, Undoubted}
use Rattle.directory.specs.Steps.Checks.{Reached}
use Rattle.directory.specs.declared.key.Key.{Key}
use Rattle.answer.proofs.Links.{link_next, link_none}
use Rattle.answer.proofs.Tests.{or_either, or_clear, not_both}
use Rattle.answer.proofs.Search.{any_nil}
use Rattle.directory.proofs.Slots.{live_is, live_no}
use Rattle.directory.proofs.Opening.{slot_fault_lem, slot_twice, slot_none, slots_free, slots_refuse, slots_live}
use Rattle.directory.proofs.Keys.{rows_end}
use Rattle.directory.proofs.Earlier.{earlier_next, earlier_block, earlier_none, any_append}

-- ---- The slots of some blocks

slots_step : (s : List ℕ) (k b : ℕ) → 0 < k → slots_after s k b ≡ rows (b + 6) (slot_count s b) ++ slots_after s (k - 1) (next_block s b)
unfolding slots_after
slots_step s k b h = let e : k ≡ suc (k - 1) = omega arith in ap (λ n. slots_after s n b) e

slots_zero : (s : List ℕ) (k b : ℕ) → k ≤ 0 → slots_after s k b ≡ []
unfolding slots_after
slots_zero s k b h = let e : k ≡ 0 = omega arith in ap (λ n. slots_after s n b) e

-- ---- From slot to slot

-- the slots from slot i of block k on
abbrev rest_of : List ℕ → ℕ → ℕ → ℕ → List ℕ
rest_of s blocks k i = rows (slot_at s k i) (slot_count s (block_after s k 4) - i) ++ slots_after s (blocks - (k + 1)) (block_after s (k + 1) 4)

-- what all slots answer
abbrev whole : List ℕ → ℕ → Answer
whole s blocks = slots_from s (blocks_after s blocks 4) [] (slots_after s blocks 4) 0

pub record Going (s : List ℕ) (blocks k i live : ℕ) : Type 0 where
  pub answers : slots_from s (blocks_after s blocks 4) (earlier_of s k i) (rest_of s blocks k i) live ≡ whole s blocks
  pub few : live ≤ 65536 * k + i

pub going_start : (s : List ℕ) (blocks k live : ℕ) → k < blocks → Reached s blocks k live → Going s blocks k 0 live
going_start s blocks k live more w =
    let b = block_after s k 4 in
    let first : b + 6 ≡ slot_at s k 0 = omega arith in
    let all : slot_count s b ≡ slot_count s b - 0 = omega arith in
    let n : blocks - k - 1 ≡ blocks - (k + 1) = omega arith in
    let rest : slots_after s (blocks - k) b ≡ rest_of s blocks k 0 =
    slots_step s (blocks - k) b (omega arith)
    ∙ ap (λ x. rows x (slot_count s b) ++ slots_after s (blocks - k - 1) (next_block s b)) first
    ∙ ap (λ x. rows (slot_at s k 0) x ++ slots_after s (blocks - k - 1) (next_block s b)) all
    ∙ ap (λ x. rows (slot_at s k 0) (slot_count s b - 0) ++ slots_after s x (next_block s b)) n
    ∙ ap (λ x. rows (slot_at s k 0) (slot_count s b - 0) ++ slots_after s (blocks - (k + 1)) x) (sym (link_next (next_block s) k 4)) in
    record { answers = rw (earlier_none s k, ← rest) w.answers; few = omega (arith, w.few) }

module _ (s : List ℕ) (blocks k i live : ℕ) (w : Going s blocks k i live) where
  pub going_done : slot_count s (block_after s k 4) < 65536 → i ≡ slot_count s (block_after s k 4) → Reached s blocks (k + 1) live
  unfolding rows
  going_done small e =
      let none : slot_count s (block_after s k 4) - i ≡ 0 = omega arith in
      let earlier : earlier_of s k i ≡ slots_after s (k + 1) 4 = ap (earlier_of s k) e ∙ sym (earlier_block s k) ∙ earlier_none s (k + 1) in
      record { answers = rw (← earlier) (rw none at w.answers); few = omega (arith, w.few) }

  module _ (p : ℕ) (is : p ≡ slot_at s k i) (more : i < slot_count s (block_after s k 4)) where
    rest : rest_of s blocks k i ≡ p ∷ rest_of s blocks k (i + 1)
    unfolding rows
    rest =
        let n : slot_count s (block_after s k 4) - i ≡ suc (slot_count s (block_after s k 4) - (i + 1)) = omega arith in
        let next : slot_at s k i + 12 ≡ slot_at s k (i + 1) = omega arith in
        ap (λ x. rows (slot_at s k i) x ++ slots_after s (blocks - (k + 1)) (block_after s (k + 1) 4)) n
        ∙ ap (λ x. slot_at s k i ∷ (rows x (slot_count s (block_after s k 4) - (i + 1)) ++ slots_after s (blocks - (k + 1)) (block_after s (k + 1) 4))) next
        ∙ ap (λ x. x ∷ rest_of s blocks k (i + 1)) (sym is)

    step : slots_from s (blocks_after s blocks 4) (earlier_of s k i) (p ∷ rest_of s blocks k (i + 1)) live ≡ whole s blocks
    step = rw (← rest) w.answers

    onward : (n : ℕ) → n ≤ live + 1 → slots_from s (blocks_after s blocks 4) (earlier_of s k i ++ (p ∷ [])) (rest_of s blocks k (i + 1)) n ≡ whole s blocks
        → Going s blocks k (i + 1) n
    onward n le e =
        let earlier : earlier_of s k (i + 1) ≡ earlier_of s k i ++ (p ∷ []) = earlier_next s k i ∙ ap (λ x. earlier_of s k i ++ (x ∷ [])) (sym is) in
        record { answers = rw earlier e; few = omega (arith, w.few) }

    pub going_free : tag_at s p ≡ 1 → Going s blocks k (i + 1) live
    going_free h = onward live (omega arith) (sym (slots_free s _ (earlier_of s k i) p _ live (live_no s p h)) ∙ step)

    module _ (alive : Live s p) where
      bad : (n : ℕ) → (n ≡ 0 → ⊥) → slot_fault s (blocks_after s blocks 4) (earlier_of s k i) p ≡ n → whole s blocks ≡ refuse 3 n p
      bad n z h = sym step ∙ slots_refuse s _ (earlier_of s k i) p _ live ((live_is s p).1 alive) n z h

      pub going_element : (n : ℕ) → (n ≡ 0 → ⊥) → n ≡ element_fault s (blocks_after s blocks 4) p 0 → whole s blocks ≡ refuse 3 n p
      going_element n z e = bad n z (slot_fault_lem s _ (earlier_of s k i) p (λ q. z (e ∙ q)) ∙ sym e)

      module _ (element : element_fault s (blocks_after s blocks 4) p 0 ≡ 0) where
        pub going_twice : any (clash s p) (earlier_of s k i) ≡ true → whole s blocks ≡ refuse 3 10 p
        going_twice h = bad 10 (λ z. omega arith) (slot_twice s _ (earlier_of s k i) p element h)

        pub going_good : any (clash s p) (earlier_of s k i) ≡ false → Going s blocks k (i + 1) (live + 1)
        going_good h =
            onward (live + 1) (omega arith)
            (sym (slots_live s _ (earlier_of s k i) p _ live ((live_is s p).1 alive) (slot_none s _ (earlier_of s k i) p element h)) ∙ step)

-- ---- The search for an earlier slot that clashes

-- what is still to be searched of the blocks before decides
pub record Searching (s : List ℕ) (k i p earlier left : ℕ) : Type 0 where
  pub upto : left ≤ k
  pub low : earlier < 4294967296
  pub at : 0 < left → block_after s (k - left) 4 ≡ earlier
  pub decides : any (clash s p) (earlier_of s k i) ≡ any (clash s p) (slots_after s left earlier)

module _ (s : List ℕ) (k i p : ℕ) where
  pub search_all : (n : ℕ) → n ≡ k → any (clash s p) (rows (block_after s k 4 + 6) i) ≡ false → Searching s k i p 4 n
  search_all n all own =
      record {
        upto = omega arith;
        low = omega arith;
        at = λ h. link_none (next_block s) (k - n) 4 (omega arith);
        decides = any_append (clash s p) (slots_after s k 4) (rows (block_after s k 4 + 6) i) ∙ rw (own, all) (or-false (any (clash s p) (slots_after s k 4)));
      }

  search_none : any (clash s p) (earlier_of s k i) ≡ false → Searching s k i p 4 0
  search_none alone =
      record { upto = omega arith; low = omega arith; at = λ h. absurd (omega arith); decides = alone ∙ sym (ap (any (clash s p)) (slots_zero s 0 4 (omega arith)) ∙ any_nil (clash s p)) }

  own_part : any (clash s p) (earlier_of s k i) ≡ false → any (clash s p) (rows (block_after s k 4 + 6) i) ≡ false
  own_part alone = (or_clear (any (clash s p) (slots_after s k 4)) _ (sym (any_append (clash s p) (slots_after s k 4) (rows (block_after s k 4 + 6) i)) ∙ alone)).1

  pub own_hit : any (clash s p) (rows (block_after s k 4 + 6) i) ≡ true → any (clash s p) (earlier_of s k i) ≡ true
  own_hit h = any_append (clash s p) (slots_after s k 4) (rows (block_after s k 4 + 6) i) ∙ or_either (any (clash s p) (slots_after s k 4)) _ (inr h)

  module _ (earlier left : ℕ) (w : Searching s k i p earlier left) where
    pub search_end : left ≤ 0 → any (clash s p) (earlier_of s k i) ≡ false
    search_end h = w.decides ∙ ap (any (clash s p)) (slots_zero s left earlier h) ∙ any_nil (clash s p)

    module _ (more : 0 < left) where
      parts : any (clash s p) (slots_after s left earlier) ≡ any (clash s p) (rows (earlier + 6) (slot_count s earlier) ++ slots_after s (left - 1) (next_block s earlier))
      parts = ap (any (clash s p)) (slots_step s left earlier more)

      pub search_hit : any (clash s p) (rows (earlier + 6) (slot_count s earlier)) ≡ true → any (clash s p) (earlier_of s k i) ≡ true
      search_hit h = w.decides ∙ parts ∙ any_append (clash s p) _ _ ∙ or_either _ _ (inl h)

      pub search_next : any (clash s p) (rows (earlier + 6) (slot_count s earlier)) ≡ false → next_block s earlier < 4294967296
          → (n : ℕ) → n ≡ left - 1 → Searching s k i p (next_block s earlier) n
      search_next h low n less =
          let m : k - n ≡ k - left + 1 = omega (arith, w.upto) in
          record {
            upto = omega (arith, w.upto);
            low = low;
            at = λ q. rw m (link_next (next_block s) (k - left) 4 ∙ ap (next_block s) (w.at more));
            decides = w.decides ∙ parts ∙ any_append (clash s p) (rows (earlier + 6) (slot_count s earlier)) (slots_after s (left - 1) (next_block s earlier)) ∙ rw (h, less) refl;
          }

-- ---- Where there is no doubt

module _ (s doubts : List ℕ) (blocks k i p : ℕ) (is : p ≡ slot_at s k i) (few : k < blocks) (more : i < slot_count s (block_after s k 4)) (sound : Sound s blocks doubts)
    (alive : Live s p) (key : Key) (w : Keyed s p key) where
  undoubted : (key.kind ≡ 107 → ⊥) → Undoubted doubts key → any (clash s p) (earlier_of s k i) ≡ false
  undoubted plain sure =
      let lone : base_tag (tag_at s p) ≡ 107 → ⊥ = λ e. plain (w.kind ∙ e) in
      let clear : marked doubts (mark_at s p % 512) ≡ false = rw (w.kind, w.reference) at sure in
      rw is (sound k few i more (rw is at alive) (rw is at lone) (rw is at clear))

  -- the slots of the same block
  pub own_clear : (n : ℕ) → (n ≡ i) ⊎ ((n ≡ 0) × (key.kind ≡ 107 → ⊥) × Undoubted doubts key)
      → any (clash s p) (rows (block_after s k 4 + 6) n) ≡ false → any (clash s p) (rows (block_after s k 4 + 6) i) ≡ false
  own_clear n (inl e) h = rw e at h
  own_clear n (inr q) h = own_part s k i p (undoubted q.1 q.2)

  pub search_start : (n : ℕ) → (n ≡ k) ⊎ ((n ≡ 0) × (key.kind ≡ 107 → ⊥) × Undoubted doubts key)
      → any (clash s p) (rows (block_after s k 4 + 6) i) ≡ false → Searching s k i p 4 n
  search_start n (inl e) h = search_all s k i p n e h
  search_start n (inr q) h = rw q.0 (search_none s k i p (undoubted q.1 q.2))

  -- a hit among fewer slots of the same block
  pub own_found : (n : ℕ) → (n ≡ i) ⊎ ((n ≡ 0) × (key.kind ≡ 107 → ⊥) × Undoubted doubts key)
      → any (clash s p) (rows (block_after s k 4 + 6) n) ≡ true → any (clash s p) (earlier_of s k i) ≡ true
  own_found n (inl e) h = own_hit s k i p (rw e at h)
  own_found n (inr q) h = absurd (not_both _ (rows_end (clash s p) (block_after s k 4 + 6) n (omega (arith, q.0))) h)

-- ---- All blocks

pub reached_start : (s : List ℕ) (blocks : ℕ) → Reached s blocks 0 0
unfolding slots_after link_after
reached_start s blocks = let n : blocks - 0 ≡ blocks = omega arith in record { answers = rw n refl; few = omega arith }

pub reached_all : (s : List ℕ) (blocks live : ℕ) → Reached s blocks blocks live
    → whole s blocks ≡ grant (length (blocks_after s blocks 4) ∷ length (slots_after s blocks 4) ∷ live ∷ [])
unfolding slots_from
reached_all s blocks live w =
    sym w.answers ∙ ap (λ l. slots_from s (blocks_after s blocks 4) (slots_after s blocks 4) l live) (slots_zero s (blocks - blocks) (block_after s blocks 4) (omega arith))
