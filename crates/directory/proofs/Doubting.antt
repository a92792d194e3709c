-- Slots that clash with none before them: those above the highest reference of their bucket, and those whose mark was not set. Assumes nothing.
use Prim.Native.Nat.{ℕ, ◌+◌, ◌/◌, ◌%◌, ◌<◌, ◌≤◌}
use native.Mathlib.Nat.{not-suc-le-zero}
use native.Mathlib.Omega.{arith}
use mathlib.Core.Path.{◌≡◌, refl, sym, ap, ◌∙◌}
use mathlib.Core.Logic.{inl, inr}
use mathlib.Core.List.{List}
use mathlib.Core.Bool.{true, false, false≢true}
use lib.ListN.{length, get_or, set, length-set}
use lib.Seq.{get_or-set_same, get_or-set_other}
use borrow.Author.Count.{below_more}
use Rattle.answer.specs.Links.{link_after}
use Rattle.answer.specs.Search.{any, In}
use Rattle.marks.specs.Marks.{marked, with_mark}
use Rattle.directory.specs.Blocks.{slot_count}
use Rattle.directory.specs.Slots.{tag_at, ref_at, base_tag, clash}
use Rattle.directory.specs.Rules.{Live}
use Rattle.directory.specs.Links.{block_after}
use Rattle.directory.specs.Steps.Keys.{Keyed, mark_by, mark_at}
use Rattle.directory.specs.Steps.Doubts.{slot_at, earlier_of, Alone, Spares, SparesAll, Keeps, highest_for, Raised, Below, Calm, SuspectedAt, Suspected, Seen, Clear, NotedAt, Noted, Settled, Sound, Unsuspected}
use Rattle.directory.specs.declared.key.Key.{Key}
use Rattle.answer.proofs.Tests.{same?, test, fails, not_both}
use Rattle.answer.proofs.Search.{any_none}
use Rattle.marks.proofs.Marks.{mark_length, own_mark, mark_kept}
use Rattle.directory.proofs.Slots.{clash_free, clash_other, clash_apart}
use Rattle.directory.proofs.Earlier.{earlier_in, earlier_block, earlier_first}

mark_small : (kind reference : ℕ) → mark_by kind reference < 65536
unfolding mark_by
mark_small kind reference = omega arith

-- ---- A slot that is like none before it

-- no live slot of a list has its base tag and its reference
like_none : (s l : List ℕ) (p : ℕ) → (base_tag (tag_at s p) ≡ 107 → ⊥)
    → ((q : ℕ) → In q l → Live s q → base_tag (tag_at s p) ≡ base_tag (tag_at s q) → ref_at s p ≡ ref_at s q → ⊥) → any (clash s p) l ≡ false
like_none s l p plain other =
    (any_none (clash s p) l).1
    (λ q i.
    elim (same? (tag_at s q) 1) [
      | inl e ↦ clash_free s p q e
      | inr live ↦
          elim (same? (base_tag (tag_at s p)) (base_tag (tag_at s q))) [
            | inl e ↦ clash_apart s p q plain (other q i live e)
            | inr n ↦ clash_other s p q n
          ]
    ])

-- ---- Slots of which something is sure, from slot to slot and from block to block

kept_clear : (before after : List ℕ) → Keeps before after → (n : ℕ) → marked after n ≡ false → marked before n ≡ false
kept_clear before after keeps n e = fails (marked before n) (λ h. not_both (marked after n) e (keeps n h))

module _ (s : List ℕ) (Sure : List ℕ → ℕ → Type 0) (weaker : (before after : List ℕ) → Keeps before after → (p : ℕ) → Sure after p → Sure before p) where
  spares_next : (k i : ℕ) (before after : List ℕ) → Keeps before after → Spares s k i (Sure before)
      → (Live s (slot_at s k i) → (base_tag (tag_at s (slot_at s k i)) ≡ 107 → ⊥) → Sure after (slot_at s k i) → Alone s k i) → Spares s k (i + 1) (Sure after)
  spares_next k i before after keeps old new = below_more _ i (λ j h live plain sure. old j h live plain (weaker before after keeps _ sure)) new

  spares_block : (k : ℕ) (before after : List ℕ) → Keeps before after → SparesAll s k (Sure before)
      → Spares s k (slot_count s (block_after s k 4)) (Sure after) → SparesAll s (k + 1) (Sure after)
  spares_block k before after keeps old new = below_more _ k (λ j h i l live plain sure. old j h i l live plain (weaker before after keeps _ sure)) new

-- ---- The highest references

module _ (k : Key) (highest : List ℕ) (long : length highest ≡ 127) where
  pub raised_same : k.reference ≤ get_or highest (k.kind % 127) 0 → Raised k highest highest false
  raised_same le = record { long = long; kept = λ n. omega arith; reached = le; above = λ e. absurd (false≢true e) }

  pub raised_more : get_or highest (k.kind % 127) 0 < k.reference → Raised k highest (set highest (k.kind % 127) k.reference) true
  raised_more lt =
      let new : get_or (set highest (k.kind % 127) k.reference) (k.kind % 127) 0 ≡ k.reference =
      get_or-set_same highest (k.kind % 127) k.reference 0 (omega arith) in
      record {
        long = length-set highest _ _ ∙ long;
        kept = λ n. elim (same? n (k.kind % 127)) [
          | inl e ↦ rw (e, new) (omega arith)
          | inr other ↦ rw (get_or-set_other highest (k.kind % 127) n k.reference 0 other) (omega arith)
        ];
        reached = rw new (omega arith);
        above = λ e. lt;
      }

-- one slot
module _ (s : List ℕ) (p : ℕ) (highest windows : List ℕ) where
  pub suspect_free : length highest ≡ 127 → length windows ≡ 1 → tag_at s p ≡ 1 → SuspectedAt s p highest highest windows windows
  suspect_free long wide e =
      record {
        long = long;
        kept = λ n. omega arith;
        reached = λ live. absurd (live e);
        wide = wide;
        keeps = λ n h. h;
        sure = λ live. absurd (live e);
      }

  module _ (key : Key) (w : Keyed s p key) (after : List ℕ) (wide : length windows ≡ 1) where
    reached : get_or after (key.kind % 127) 0 ≡ highest_for s after p
    reached = ap (λ n. get_or after (n % 127) 0) w.kind

    pub suspect_above : Raised key highest after true → SuspectedAt s p highest after windows windows
    suspect_above r =
        record {
          long = r.long;
          kept = r.kept;
          reached = λ live. rw (w.kind, w.reference) at r.reached;
          wide = wide;
          keeps = λ n h. h;
          sure = λ live calm. rw (w.kind, w.reference) at (r.above refl);
        }

    -- its window is marked
    pub suspect_marked : Raised key highest after false → (mark : ℕ) → mark ≡ mark_by key.kind key.reference → mark < 65536
        → SuspectedAt s p highest after windows (with_mark windows (mark / 2048))
    suspect_marked r mark is low =
        let at_mark : mark ≡ mark_at s p = rw (← w.kind, ← w.reference) is in
        record {
          long = r.long;
          kept = r.kept;
          reached = λ live. rw (w.kind, w.reference) at r.reached;
          wide = mark_length windows _ ∙ wide;
          keeps = mark_kept windows (mark / 2048);
          sure = λ live calm. absurd (not_both (marked (with_mark windows (mark / 2048)) (mark / 2048)) (ap (λ n. marked (with_mark windows (mark / 2048)) (n / 2048)) at_mark ∙ calm) (own_mark windows (mark / 2048) (omega arith)));
        }

-- the slots of a block
pub record Suspecting (s : List ℕ) (k i : ℕ) (highest from windows : List ℕ) : Type 0 where
  pub below : Below s k i highest
  pub wide : length windows ≡ 1
  pub keeps : Keeps from windows
  pub spares : Spares s k i (Calm s windows)

calmer : (s before after : List ℕ) → Keeps before after → (p : ℕ) → Calm s after p → Calm s before p
calmer s before after keeps p = kept_clear before after keeps (mark_at s p / 2048)

pub suspecting_start : (s : List ℕ) (k : ℕ) (highest windows : List ℕ) → Below s k 0 highest → length windows ≡ 1 → Suspecting s k 0 highest windows windows
suspecting_start s k highest windows below wide =
    record { below = below; wide = wide; keeps = λ n h. h; spares = λ i h. absurd (not-suc-le-zero h) }

module _ (s : List ℕ) (k i : ℕ) (highest from windows : List ℕ) (w : Suspecting s k i highest from windows) where
  above_alone : (base_tag (tag_at s (slot_at s k i)) ≡ 107 → ⊥) → highest_for s highest (slot_at s k i) < ref_at s (slot_at s k i) → Alone s k i
  above_alone plain above =
      like_none s (earlier_of s k i) (slot_at s k i) plain
      (λ q h live e r.
      let most = w.below.most q h live in
      let same : highest_for s highest q ≡ highest_for s highest (slot_at s k i) = ap (λ n. get_or highest (n % 127) 0) (sym e) in
      omega arith)

  pub suspecting_next : (p : ℕ) → p ≡ slot_at s k i → (highest_after windows_after : List ℕ) → SuspectedAt s p highest highest_after windows windows_after
      → Suspecting s k (i + 1) highest_after from windows_after
  suspecting_next p is highest_after windows_after noted =
      let q : SuspectedAt s (slot_at s k i) highest highest_after windows windows_after = rw is at noted in
      record {
        below = record {
          long = q.long;
          most = λ x h live. elim (earlier_in s k i x h) [
            | inl j ↦ let old = w.below.most x j live in let kept = q.kept (base_tag (tag_at s x) % 127) in omega arith
            | inr e ↦ rw e (q.reached (rw e at live))
          ];
        };
        wide = q.wide;
        keeps = λ n h. q.keeps n (w.keeps n h);
        spares = spares_next s (Calm s) (calmer s) k i windows windows_after q.keeps w.spares (λ live plain calm. above_alone plain (q.sure live calm));
      }

  pub suspecting_done : i ≡ slot_count s (block_after s k 4) → Suspected s k highest from windows
  suspecting_done e =
      record {
        below = record { long = w.below.long; most = λ q h. w.below.most q (rw (e, ← earlier_block s k) h) };
        wide = w.wide;
        keeps = w.keeps;
        spares = rw e at w.spares;
      }

-- the slots of the blocks so far
pub record Suspects (s : List ℕ) (k b : ℕ) (highest windows : List ℕ) : Type 0 where
  pub at : block_after s k 4 ≡ b
  pub below : Below s k 0 highest
  pub wide : length windows ≡ 1
  pub spares : SparesAll s k (Calm s windows)

pub suspects_start : (s highest windows : List ℕ) → length highest ≡ 127 → length windows ≡ 1 → Suspects s 0 4 highest windows
unfolding link_after
suspects_start s highest windows long wide =
    record {
      at = refl;
      below = record { long = long; most = λ q h. absurd (rw (earlier_first s) at h) };
      wide = wide;
      spares = λ k h. absurd (not-suc-le-zero h);
    }

pub suspects_next : (s : List ℕ) (k b next : ℕ) (highest windows highest_after windows_after : List ℕ) → Suspects s k b highest windows → block_after s (k + 1) 4 ≡ next
    → Suspected s k highest_after windows windows_after → Suspects s (k + 1) next highest_after windows_after
suspects_next s k b next highest windows highest_after windows_after w at q =
    record { at = at; below = q.below; wide = q.wide; spares = spares_block s (Calm s) (calmer s) k windows windows_after q.keeps w.spares q.spares }

-- ---- The marks of a window

-- one slot
module _ (s : List ℕ) (p window : ℕ) (seen doubts : List ℕ) (long : length seen ≡ 32) (wide : length doubts ≡ 8) (Sure : Type 0) where
  pub note_other : (Live s p → mark_at s p / 2048 ≡ window → ⊥) → NotedAt s p window seen seen doubts doubts Sure
  note_other other =
      record {
        long = long;
        kept = λ n h. h;
        reached = λ live e. absurd (other live e);
        wide = wide;
        keeps = λ n h. h;
        sure = λ live clear. absurd (other live clear.0);
      }

  module _ (mark : ℕ) (is : mark ≡ mark_at s p) (low : mark < 65536) where
    pub note_new : marked seen (mark % 2048) ≡ false → NotedAt s p window seen (with_mark seen (mark % 2048)) doubts doubts Sure
    note_new was =
        record {
          long = mark_length seen _ ∙ long;
          kept = mark_kept seen (mark % 2048);
          reached = λ live e. rw (← is) (own_mark seen (mark % 2048) (omega arith));
          wide = wide;
          keeps = λ n h. h;
          sure = λ live clear. inl (rw is at was);
        }

    module _ (was : marked seen (mark % 2048) ≡ true) where
      pub note_sure : Sure → NotedAt s p window seen seen doubts doubts Sure
      note_sure sure =
          record {
            long = long;
            kept = λ n h. h;
            reached = λ live e. rw is at was;
            wide = wide;
            keeps = λ n h. h;
            sure = λ live clear. inr sure;
          }

      pub note_doubted : NotedAt s p window seen seen doubts (with_mark doubts (mark % 512)) Sure
      note_doubted =
          record {
            long = long;
            kept = λ n h. h;
            reached = λ live e. rw is at was;
            wide = mark_length doubts _ ∙ wide;
            keeps = mark_kept doubts (mark % 512);
            sure = λ live clear. absurd (not_both (marked (with_mark doubts (mark % 512)) (mark % 512)) (ap (λ n. marked (with_mark doubts (mark % 512)) (n % 512)) is ∙ clear.1) (own_mark doubts (mark % 512) (omega arith)));
          }

-- the slots of a block
pub record Noting (s : List ℕ) (k i window : ℕ) (seen from doubts : List ℕ) : Type 0 where
  pub sees : Seen s k i window seen
  pub wide : length doubts ≡ 8
  pub keeps : Keeps from doubts
  pub spares : Spares s k i (Clear s window doubts)

clearer : (s : List ℕ) (window : ℕ) (before after : List ℕ) → Keeps before after → (p : ℕ) → Clear s window after p → Clear s window before p
clearer s window before after keeps p clear = (clear.0, kept_clear before after keeps (mark_at s p % 512) clear.1)

pub noting_start : (s : List ℕ) (k window : ℕ) (seen doubts : List ℕ) → Seen s k 0 window seen → length doubts ≡ 8 → Noting s k 0 window seen doubts doubts
noting_start s k window seen doubts sees wide =
    record { sees = sees; wide = wide; keeps = λ n h. h; spares = λ i h. absurd (not-suc-le-zero h) }

module _ (s : List ℕ) (k i window : ℕ) (seen from doubts : List ℕ) (w : Noting s k i window seen from doubts) where
  new_alone : (base_tag (tag_at s (slot_at s k i)) ≡ 107 → ⊥) → mark_at s (slot_at s k i) / 2048 ≡ window → marked seen (mark_at s (slot_at s k i) % 2048) ≡ false → Alone s k i
  new_alone plain here new =
      like_none s (earlier_of s k i) (slot_at s k i) plain
      (λ q h live e r.
      let same : mark_at s (slot_at s k i) ≡ mark_at s q = rw (e, r) refl in
      not_both (marked seen (mark_at s (slot_at s k i) % 2048)) new (rw same (w.sees.set q h live (rw (← same) here))))

  pub noting_next : (p : ℕ) → p ≡ slot_at s k i → (seen_after doubts_after : List ℕ) → NotedAt s p window seen seen_after doubts doubts_after (Alone s k i)
      → Noting s k (i + 1) window seen_after from doubts_after
  noting_next p is seen_after doubts_after noted =
      let q : NotedAt s (slot_at s k i) window seen seen_after doubts doubts_after (Alone s k i) = rw is at noted in
      record {
        sees = record {
          long = q.long;
          set = λ x h live here. elim (earlier_in s k i x h) [
            | inl j ↦ q.kept _ (w.sees.set x j live here)
            | inr e ↦ rw e (q.reached (rw e at live) (rw e at here))
          ];
        };
        wide = q.wide;
        keeps = λ n h. q.keeps n (w.keeps n h);
        spares = spares_next s (Clear s window) (clearer s window) k i doubts doubts_after q.keeps w.spares (λ live plain clear. elim (q.sure live clear) [ inl new ↦ new_alone plain clear.0 new | inr alone ↦ alone ]);
      }

  pub noting_done : i ≡ slot_count s (block_after s k 4) → Noted s k window seen from doubts
  noting_done e =
      record {
        sees = record { long = w.sees.long; set = λ q h. w.sees.set q (rw (e, ← earlier_block s k) h) };
        wide = w.wide;
        keeps = w.keeps;
        spares = rw e at w.spares;
      }

-- the slots of the blocks so far
pub record Notes (s : List ℕ) (k b window : ℕ) (seen from doubts : List ℕ) : Type 0 where
  pub at : block_after s k 4 ≡ b
  pub sees : Seen s k 0 window seen
  pub wide : length doubts ≡ 8
  pub keeps : Keeps from doubts
  pub spares : SparesAll s k (Clear s window doubts)

pub notes_start : (s : List ℕ) (window : ℕ) (seen doubts : List ℕ) → length seen ≡ 32 → length doubts ≡ 8 → Notes s 0 4 window seen doubts doubts
unfolding link_after
notes_start s window seen doubts long wide =
    record {
      at = refl;
      sees = record { long = long; set = λ q h. absurd (rw (earlier_first s) at h) };
      wide = wide;
      keeps = λ n h. h;
      spares = λ k h. absurd (not-suc-le-zero h);
    }

pub notes_next : (s : List ℕ) (k b next window : ℕ) (seen from doubts seen_after doubts_after : List ℕ) → Notes s k b window seen from doubts → block_after s (k + 1) 4 ≡ next
    → Noted s k window seen_after doubts doubts_after → Notes s (k + 1) next window seen_after from doubts_after
notes_next s k b next window seen from doubts seen_after doubts_after w at q =
    record {
      at = at;
      sees = q.sees;
      wide = q.wide;
      keeps = λ n h. q.keeps n (w.keeps n h);
      spares = spares_block s (Clear s window) (clearer s window) k doubts doubts_after q.keeps w.spares q.spares;
    }

-- ---- All windows

-- the windows that are marked are noted, up to one
pub record Noticed (s : List ℕ) (blocks window : ℕ) (windows doubts : List ℕ) : Type 0 where
  pub wide : length doubts ≡ 8
  pub spares : (v : ℕ) → v < window → marked windows v ≡ true → SparesAll s blocks (Clear s v doubts)

pub noticed_start : (s : List ℕ) (blocks : ℕ) (windows doubts : List ℕ) → length doubts ≡ 8 → Noticed s blocks 0 windows doubts
noticed_start s blocks windows doubts wide = record { wide = wide; spares = λ v h. absurd (not-suc-le-zero h) }

module _ (s : List ℕ) (blocks window : ℕ) (windows doubts : List ℕ) (w : Noticed s blocks window windows doubts) where
  pub noticed_skip : marked windows window ≡ false → Noticed s blocks (window + 1) windows doubts
  noticed_skip e = record { wide = w.wide; spares = below_more _ window w.spares (λ h. absurd (not_both (marked windows window) e h)) }

  pub noticed_next : (after : List ℕ) → Settled s blocks window doubts after → Noticed s blocks (window + 1) windows after
  noticed_next after q =
      record {
        wide = q.wide;
        spares = below_more _ window (λ v l h k more i j live plain clear. w.spares v l h k more i j live plain (clearer s v doubts after q.keeps _ clear)) (λ h. q.spares);
      }

  pub noticed_all : 32 ≤ window → Unsuspected s blocks windows → Sound s blocks doubts
  noticed_all full calm k more i h live plain sure =
      let v = mark_at s (slot_at s k i) / 2048 in
      elim (test (marked windows v)) [
        | inl e ↦ w.spares v (omega (arith, mark_small (base_tag (tag_at s (slot_at s k i))) (ref_at s (slot_at s k i)))) e k more i h live plain (refl, sure)
        | inr e ↦ calm.spares k more i h live plain e
      ]
