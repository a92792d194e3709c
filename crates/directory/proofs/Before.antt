-- Opening as it was before request (vii) of document 02, beside opening as it is: what it asked of a slot, and which images open now. Assumes nothing.
use Prim.Native.Nat.{ℕ, ◌+◌, ◌<◌, ◌≤◌}
use native.Mathlib.Omega.{arith}
use mathlib.Core.Path.{◌≡◌, refl, sym, ◌∙◌}
use mathlib.Core.Logic.{◌⊎◌, inl, inr}
use mathlib.Core.List.{List, [], ◌∷◌}
use lib.ListN.{length}
use borrow.Author.Tests.{eq-eqb, ne_eqb}
use Rattle.answer.specs.Search.{In}
use Rattle.answer.specs.Rules.{AllHold, FirstBroken, OnlyBroken}
use Rattle.answer.proofs.Tests.{by_test, same?, in_right}
use Rattle.directory.specs.Blocks.{walked}
use Rattle.directory.specs.Slots.{tag_at, offset_at, length_at, base_tag, size_at, slot_places}
use Rattle.directory.specs.Rules.{Live, Unstored, IsStored}
use Rattle.directory.specs.Faults.{slot_rules, WholeChain, Faulty}
use Rattle.directory.specs.Before.{size_before, rules_before, OpenedBefore, RefusedBefore, UnstoredAlone}
use Rattle.directory.proofs.Slots.{live_is, unstored_is, size_lone, size_unstored, size_stored}
use Rattle.directory.proofs.Faults.{each_at, each_judged, none_yet, whole_walked, Sound}
use Rattle.directory.proofs.Rules.{blocks_exactly}

-- ---- Sizes

module _ (s : List ℕ) (p : ℕ) where
  other_before : (base_tag (tag_at s p) ≡ 107 → ⊥) → size_before s p ≡ length_at s p
  unfolding size_before
  other_before h = rw (size_before, ne_eqb _ _ h)

  -- an element that is stored had as many bytes as it has
  pub stored_size : IsStored s p → size_at s p ≡ size_before s p
  unfolding size_before
  stored_size h =
      elim (same? (base_tag (tag_at s p)) 107) [
        | inl e ↦ size_lone s p e ∙ sym (rw (size_before, eq-eqb _ _ e))
        | inr z ↦ size_stored s p z h ∙ sym (other_before z)
      ]

  unstored_size : Unstored s p → size_before s p ≡ 4294967295
  unstored_size u = other_before u.not_lone ∙ u.length

-- ---- A slot

module _ (s bs before : List ℕ) (p : ℕ) (short : length s ≤ 2147483647) where
  -- one that is not stored yet ended past the image
  past_end : Unstored s p → (0 < size_before s p → offset_at s p + size_before s p ≤ length s) → ⊥
  past_end u h =
      let n = unstored_size s p u in
      let inside = h (omega (arith, n)) in omega (arith, n, u.offset)

  kept_stored : AllHold (rules_before s bs before p) → IsStored s p
  kept_stored a u = past_end u a.1.0

  kept_now : AllHold (rules_before s bs before p) → AllHold (slot_rules s bs before p)
  kept_now a = rw (stored_size s p (kept_stored a)) a

  kept_then : IsStored s p → AllHold (slot_rules s bs before p) → AllHold (rules_before s bs before p)
  kept_then h a = rw (stored_size s p h) at a

  -- by 8 alone, and that is judged no more
  only_outside : (chain : WholeChain s bs) → Unstored s p → AllHold (slot_rules s bs before p) → OnlyBroken 8 (rules_before s bs before p)
  only_outside chain u (tag, (inside, (off, (alone, end)))) =
      let blocks = (blocks_exactly s bs).0 chain.2 in (
        (λ e. absurd (omega arith)),
        (λ z. tag),
        (
          (λ e. past_end u),
          (λ z. absurd (z refl)),
          (
            (λ e. absurd (omega arith)),
            (λ z y. (omega (arith, u.offset), λ b i. inr (omega (arith, u.offset, blocks.inside b i)))),
            ((λ e. absurd (omega arith)), (λ z. alone), tt),
          ),
        ),
      )

  only_now : Unstored s p → OnlyBroken 8 (rules_before s bs before p) → AllHold (slot_rules s bs before p)
  only_now u (t, tag, (o, outside, (d, directory, (c, alone, end)))) =
      let none : 0 < size_at s p → ⊥ = λ z. omega (arith, size_unstored s p u) in
      (tag (λ e. omega arith), ((λ z. absurd (none z)), ((λ z. absurd (none z)), (alone (λ e. omega arith), tt))))

  -- what was the first fault is so still, but for that one
  first_now : (n q : ℕ) → FirstBroken (rules_before s bs before p) n q → FirstBroken (slot_rules s bs before p) n q ⊎ ((n ≡ 8) × Unstored s p)
  first_now n q b =
      elim (by_test _ _ (unstored_is s p)) [
        | inr h ↦ inl (rw (stored_size s p h) b)
        | inl u ↦ elim b [
          | inl x ↦ inl (inl x)
          | inr (tag, inl x) ↦ inr (x.0, u)
          | inr (tag, inr (inside, x)) ↦ absurd (past_end u inside)
        ]
      ]

-- ---- Slots in order

-- every live slot is stored, or there is one that is not
stored? : (s ps : List ℕ) → ((p : ℕ) → In p ps → Live s p → IsStored s p) ⊎ ((p : ℕ) × In p ps × Live s p × Unstored s p)
stored? s ps =
    elim (each_judged (λ before p. Live s p → IsStored s p) (λ before p. Live s p × Unstored s p) judge [] ps (none_yet (λ before p. Live s p → IsStored s p))) [
      | inl all ↦ inl (λ p i. (each_at (λ before p. Live s p → IsStored s p) ps p all i).1)
      | inr f ↦ inr (f.1, rw f.3 (in_right f.1 f.0 (f.1 ∷ f.2) (inl refl)), f.5.0, f.5.1)
    ]
  where
    judge : (before : List ℕ) (p : ℕ) → (Live s p → IsStored s p) ⊎ (Live s p × Unstored s p)
    judge before p =
        elim (by_test _ _ (live_is s p)) [
          | inr z ↦ inl (λ l. absurd (z l))
          | inl l ↦ elim (by_test _ _ (unstored_is s p)) [ inl u ↦ inr (l, u) | inr h ↦ inl (λ m. h) ]
        ]

-- ---- Opening

module _ (s bs : List ℕ) where
  pub before_sound : OpenedBefore s bs → Sound s bs
  before_sound (h, w, all) = (h, w, λ earlier p after e l. kept_now s bs earlier p h.0 (all earlier p after e l))

  pub before_stored : OpenedBefore s bs → (p : ℕ) → In p (slot_places s bs) → Live s p → IsStored s p
  before_stored (h, w, all) p i l =
      let a = each_at (λ earlier q. Live s q → AllHold (rules_before s bs earlier q)) (slot_places s bs) p all i in kept_stored s bs a.0 p h.0 (a.1 l)

  sound_before : Sound s bs → ((p : ℕ) → In p (slot_places s bs) → Live s p → IsStored s p) → OpenedBefore s bs
  sound_before (h, w, all) stored =
      (h, w, λ earlier p after e l. kept_then s bs earlier p h.0 (stored p (rw e (in_right p earlier (p ∷ after) (inl refl))) l) (all earlier p after e l))

  sound_alone : Sound s bs → ((p : ℕ) × In p (slot_places s bs) × Live s p × Unstored s p) → UnstoredAlone s bs
  sound_alone (h, w, all) (p, i, l, u) =
      record {
        header = h;
        chain = w;
        slots = λ earlier q after e m. elim (by_test _ _ (unstored_is s q)) [
          | inl v ↦ inr (v, only_outside s bs earlier q h.0 w v (all earlier q after e m))
          | inr z ↦ inl (kept_then s bs earlier q h.0 z (all earlier q after e m))
        ];
        slot = p;
        there = i;
        live = l;
        unstored = u;
      }

  pub alone_sound : UnstoredAlone s bs → Sound s bs
  alone_sound a = (
    a.header,
    a.chain,
    λ earlier p after e l. elim (a.slots earlier p after e l) [
      | inl k ↦ kept_now s bs earlier p a.header.0 k
      | inr k ↦ only_now s bs earlier p a.header.0 k.0 k.1
    ],
  )

  -- blocks of a whole chain stand in one way
  one_chain : (cs : List ℕ) → WholeChain s bs → WholeChain s cs → bs ≡ cs
  one_chain cs w v = let e : walked bs ≡ walked cs = sym (whole_walked s bs w) ∙ whole_walked s cs v in cc

  pub alone_refused : UnstoredAlone s bs → (cs : List ℕ) → OpenedBefore s cs → ⊥
  alone_refused a cs o =
      let e = one_chain cs a.chain o.1 in
      before_stored (rw e o) a.slot a.there a.live a.unstored

-- an image that opens opened before, or its only faults were 8 at slots whose element is not stored yet
pub sound_judged : (s bs : List ℕ) → Sound s bs → OpenedBefore s bs ⊎ UnstoredAlone s bs
sound_judged s bs h = elim (stored? s (slot_places s bs)) [ inl all ↦ inl (sound_before s bs h all) | inr f ↦ inr (sound_alone s bs h f) ]

-- what was refused is refused alike, but where 8 was answered at such a slot
pub refused_now : (s : List ℕ) (n p : ℕ) → RefusedBefore s n p → Faulty s n p ⊎ ((n ≡ 8) × Unstored s p)
refused_now s n p (inl b) = inl (inl b)
refused_now s n p (inr (h, inl a)) = inl (inr (h, inl a))
refused_now s n p (inr (h, inr (bs, w, (earlier, after, e, all, l, b)))) =
    elim (first_now s bs earlier p h.0 n p b) [
      | inr x ↦ inr x
      | inl x ↦ inl (inr (h, inr (bs, w, (earlier, after, e, (λ before q rest i m. kept_now s bs before q h.0 (all before q rest i m)), l, x))))
    ]
