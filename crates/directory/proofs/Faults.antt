-- Opening and its rules in their order: where all hold it grants, and else the first that is broken gives the number and the place.
-- Assumes nothing.
use Prim.Native.Nat.{ℕ, zero, suc, ◌+◌, ◌-◌, ◌<◌, ◌≤◌}
use mathlib.Core.Path.{◌≡◌, refl, sym, ap, ◌∙◌}
use mathlib.Core.Logic.{◌↔◌, ◌⊎◌, inl, inr}
use mathlib.Core.List.{List, [], ◌∷◌, ◌++◌, append-nil}
use mathlib.Core.Bool.{Bool, true, false, ◌&&◌, ◌||◌, and-false}
use native.Mathlib.Nat.{suc-ne-zero, add-zero, zero-add}
use native.Mathlib.Omega.{arith}
use lib.ListN.{length, get_or, length-append}
use lib.Seq.{append_snoc}
use lib.Dec.{leb, ltb, eqb}
use borrow.Author.Tests.{ltb-true, ltb-false, leb-true, eqb-true, eqb-false, lt-ltb, le-ltb, le-leb, eq-eqb, ne_eqb}
use Rattle.answer.specs.Answer.{grant, refuse}
use Rattle.answer.specs.Search.{any, keep, In}
use Rattle.answer.specs.Rules.{AllHold, FirstBroken}
use Rattle.directory.specs.Limits.{most_bytes, lone_tag, extended_free}
use Rattle.directory.specs.Blocks.{next_block, block_end, meets, meets_block, on_directory, block_fault, Chain, walked, broken, chain_from, chain}
use Rattle.directory.specs.Slots.{tag_at, ref_at, offset_at, base_tag, element_end, slot_places, live_at, clash, element_fault, slot_fault}
use Rattle.directory.specs.Opening.{slots_from, open_chain, headed, open_of}
use Rattle.directory.specs.Rules.{Apart, Linked, Live, Clashing}
use Rattle.directory.specs.Faults.{header_rules, block_rules, slot_rules, Each, BlocksHold, SlotsHold, Leads, WholeChain, AtBlock, Faulty}
use Rattle.answer.proofs.Tests.{and_split, and_both, and_fails, or_split, or_either, or_clear, or_neither, test, not_is, by_test, not_both, fails, same?, in_parted}
use Rattle.answer.proofs.Search.{any_none, keep_takes, keep_skips}
use Rattle.answer.proofs.Rules.{Goes, goes_done, goes_rule, judged, Tells, tells_done, tells_must, tells_judged, broken_below}
use Rattle.directory.proofs.Blocks.{slots_snoc, chain_breaks, chain_ends, chain_goes}
use Rattle.directory.proofs.Slots.{live_is}
use Rattle.directory.proofs.Opening.{headed_is, open_long, open_other, open_chain_lem, slots_free, slots_live, slots_refuse}

-- ---- Bytes apart

pub meets_none : (a e b f : ℕ) → (meets a e b f ≡ false) ↔ Apart a e b f
unfolding meets
meets_none a e b f = (
  (λ h. elim (and_fails (ltb a f) (ltb b e) h) [ inl q ↦ inr (ltb-false a f q) | inr q ↦ inl (ltb-false b e q) ]),
  (λ h. elim h [ inl l ↦ rw (le-ltb b e l) (and-false (ltb a f)) | inr l ↦ rw (le-ltb a f l) ]),
)

-- bytes touch neither the header nor a block
pub off_directory : (s bs : List ℕ) (a e : ℕ) → 0 < e
    → (on_directory s bs a e ≡ false) ↔ ((4 ≤ a) × ((b : ℕ) → In b bs → Apart a e b (block_end s b)))
unfolding on_directory meets_block
off_directory s bs a e z =
    let blocks = any_none (meets_block s a e) bs in (
      (λ h. let c = or_clear (meets a e 0 4) (any (meets_block s a e) bs) h in (
        elim ((meets_none a e 0 4).0 c.0) [ inl l ↦ omega arith | inr l ↦ l ],
        λ b i. (meets_none a e b (block_end s b)).0 (blocks.0 c.1 b i),
      )),
      (λ h. or_neither (meets a e 0 4) (any (meets_block s a e) bs) ((meets_none a e 0 4).1 (inr h.0))
          (blocks.1 (λ b i. (meets_none a e b (block_end s b)).1 (h.1 b i)))),
    )

-- ---- A block

-- rule 4
not_in : (b : ℕ) (l : List ℕ) → (any (eqb b) l ≡ false) ↔ (In b l → ⊥)
not_in b l =
    let none = any_none (eqb b) l in
    ((λ e i. eqb-false b b (none.0 e b i) refl), (λ h. none.1 (λ c i. ne_eqb b c (λ q. h (rw q i)))))

abbrev pub BlockHolds : List ℕ → List ℕ → ℕ → Type 0
BlockHolds s before b = AllHold (block_rules s before b)

-- its fault is the number of the first rule that it breaks
block_tells : (s before : List ℕ) (b : ℕ) → Tells (block_rules s before b) b (block_fault s before (length (slot_places s before)) b)
unfolding block_fault
block_tells s before b =
    tells_must b _ _ _ _ _ (not_is _ _ (not_in b before))
    (tells_must b _ _ _ _ _ (ltb-true _ _, lt-ltb _ _)
    (tells_must b _ _ _ _ _ (leb-true _ _, le-leb _ _)
    (tells_must b _ _ _ _ _ (leb-true _ _, le-leb _ _)
    (tells_must b _ _ _ _ _ (leb-true _ _, le-leb _ _)
    (tells_must b _ _ _ _ _ (not_is _ _ (off_directory s before b (block_end s b) (omega arith)))
    (tells_done b))))))

-- ---- A slot

-- rule 7
good_tag : (s : List ℕ) (p : ℕ)
    → (eqb (base_tag (tag_at s p)) 0 || eqb (tag_at s p) extended_free ≡ false) ↔ ((base_tag (tag_at s p) ≡ 0 → ⊥) × (tag_at s p ≡ 16385 → ⊥))
good_tag s p =
    let zero_tag = eqb (base_tag (tag_at s p)) 0 in
    let free = eqb (tag_at s p) extended_free in (
      (λ e. let h = or_clear zero_tag free e in (eqb-false _ _ h.0, eqb-false _ _ h.1)),
      (λ h. or_neither zero_tag free (ne_eqb _ _ h.0) (ne_eqb _ _ h.1)),
    )

-- rules 8 and 9 are those of an element that has bytes
if_sized : (n : ℕ) (b : Bool) (Holds : Type 0) → (0 < n → (b ≡ true) ↔ Holds) → (eqb n 0 || b ≡ true) ↔ (0 < n → Holds)
if_sized n b Holds t = (
  (λ h z. elim (or_split (eqb n 0) b h) [ inl e ↦ absurd (omega (arith, eqb-true n 0 e)) | inr e ↦ (t z).0 e ]),
  (λ h. elim (same? n 0) [ inl e ↦ rw (eq-eqb n 0 e) | inr e ↦ let z : 0 < n = omega arith in or_either (eqb n 0) b (inr ((t z).1 (h z))) ]),
)

-- rule 10
clash_none : (s : List ℕ) (p q : ℕ) → (clash s p q ≡ false) ↔ (Live s q → Clashing s p q → ⊥)
unfolding clash
clash_none s p q =
    let same = eqb (base_tag (tag_at s p)) (base_tag (tag_at s q)) in
    let lone = eqb (base_tag (tag_at s p)) lone_tag in
    let paired = eqb (ref_at s p) (ref_at s q) in (
      (λ e l c.
          let both = or_either lone paired (elim c.1 [ inl k ↦ inl (eq-eqb _ _ k) | inr k ↦ inr (eq-eqb _ _ k) ]) in
          not_both (clash s p q) e
          (and_both (live_at s q && same) (lone || paired) (and_both (live_at s q) same ((live_is s q).1 l) (eq-eqb _ _ c.0)) both)),
      (λ h. fails (clash s p q) (λ e.
          let a = and_split (live_at s q && same) (lone || paired) e in
          let b = and_split (live_at s q) same a.0 in
          h ((live_is s q).0 b.0) (
            eqb-true _ _ b.1,
            elim (or_split lone paired a.1) [ inl k ↦ inl (eqb-true _ _ k) | inr k ↦ inr (eqb-true _ _ k) ],
          ))),
    )

alone : (s earlier : List ℕ) (p : ℕ) → (any (clash s p) earlier ≡ false) ↔ ((q : ℕ) → In q earlier → Live s q → Clashing s p q → ⊥)
alone s earlier p =
    let none = any_none (clash s p) earlier in
    ((λ e q i. (clash_none s p q).0 (none.0 e q i)), (λ h. none.1 (λ q i. (clash_none s p q).1 (h q i))))

-- it is free or keeps the rules
abbrev pub SlotHolds : List ℕ → List ℕ → List ℕ → ℕ → Type 0
SlotHolds s bs before p = Live s p → AllHold (slot_rules s bs before p)

-- its fault, where it is live, is the number of the first rule that it breaks
slot_tells : (s bs earlier : List ℕ) (p : ℕ) → Tells (slot_rules s bs earlier p) p (slot_fault s bs earlier p)
unfolding slot_fault element_fault
slot_tells s bs earlier p =
    tells_must p _ _ _ _ _ (not_is _ _ (good_tag s p))
    (tells_must p _ _ _ _ _ (if_sized _ _ _ (λ z. (leb-true _ _, le-leb _ _)))
    (tells_must p _ _ _ _ _ (if_sized _ _ _ (λ z. not_is _ _ (off_directory s bs (offset_at s p) (element_end s p) (omega arith))))
    (tells_must p _ _ _ _ _ (not_is _ _ (alone s earlier p))
    (tells_done p))))

-- ---- Each of a list, after those before it

pub none_yet : (Holds : List ℕ → ℕ → Type 0) → Each Holds []
none_yet Holds before x after e = absurd (omega (arith, length-append before (x ∷ after), ap length e))

-- a list with one more at its end, parted around one of it: the last one, or one before
parted : (l : List ℕ) (x : ℕ) (before : List ℕ) (y : ℕ) (after : List ℕ) → l ++ (x ∷ []) ≡ before ++ (y ∷ after)
    → ((before ≡ l) × (y ≡ x)) ⊎ ((rest : List ℕ) × (l ≡ before ++ (y ∷ rest)))
parted [] x [] y after e = inl (refl, cc)
parted [] x (z ∷ before) y after e =
    let q : before ++ (y ∷ after) ≡ [] = cc in absurd (omega (arith, length-append before (y ∷ after), ap length q))
parted (w ∷ l) x [] y after e = inr (l, cc)
parted (w ∷ l) x (z ∷ before) y after e =
    let same : z ≡ w = cc in
    elim (parted l x before y after (cc)) [ inl h ↦ inl (rw (same, h.0), h.1) | inr h ↦ inr (h.0, rw (same, h.1)) ]

each_more : (Holds : List ℕ → ℕ → Type 0) (l : List ℕ) (x : ℕ) → Each Holds l → Holds l x → Each Holds (l ++ (x ∷ []))
each_more Holds l x all last before y after e =
    elim (parted l x before y after e) [ inl h ↦ rw (h.0, h.1) last | inr h ↦ all before y h.0 h.1 ]

-- what is kept by each one more holds of the whole list
pub each_keeps : (Holds : List ℕ → ℕ → Type 0) (Kept : List ℕ → Type 0) → ((before : List ℕ) (x : ℕ) → Kept before → Holds before x → Kept (before ++ (x ∷ [])))
    → (before rest : List ℕ) → Kept before → Each Holds (before ++ rest) → Kept (before ++ rest)
each_keeps Holds Kept more before [] k all = rw append-nil k
each_keeps Holds Kept more before (x ∷ rest) k all =
    rw append_snoc at (each_keeps Holds Kept more (before ++ (x ∷ [])) rest (more before x k (all before x rest refl)) (rw append_snoc all))

pub each_at : (Holds : List ℕ → ℕ → Type 0) (l : List ℕ) (x : ℕ) → Each Holds l → In x l → (before : List ℕ) × Holds before x
each_at Holds l x all i = let r = in_parted x l i in (r.0, all r.0 x r.1 r.2)

-- it holds of each, or there is a first of which it fails
pub each_judged : (Holds Fails : List ℕ → ℕ → Type 0) → ((before : List ℕ) (x : ℕ) → Holds before x ⊎ Fails before x) → (before rest : List ℕ) → Each Holds before
    → Each Holds (before ++ rest) ⊎ ((earlier : List ℕ) × (x : ℕ) × (after : List ℕ) × (before ++ rest ≡ earlier ++ (x ∷ after)) × Each Holds earlier × Fails earlier x)
each_judged Holds Fails judge before [] all = inl (rw append-nil all)
each_judged Holds Fails judge before (x ∷ rest) all =
    elim (judge before x) [
      | inl h ↦ rw append_snoc at (each_judged Holds Fails judge (before ++ (x ∷ [])) rest (each_more Holds before x all h))
      | inr f ↦ inr (before, x, rest, refl, all, f)
    ]

-- ---- The chain

leads_more : (s : List ℕ) (b : ℕ) (cs : List ℕ) (at : ℕ) → Leads s b cs at → (next_block s at ≡ 0 → ⊥) → Leads s b (cs ++ (at ∷ [])) (next_block s at)
leads_more s b [] at l z = (l, z, refl)
leads_more s b (c ∷ cs) at l z = (l.0, l.1, leads_more s (next_block s c) cs at l.2 z)

-- where the last block names no next one the links make a chain
leads_linked : (s : List ℕ) (b : ℕ) (cs : List ℕ) (at : ℕ) → Leads s b cs at → next_block s at ≡ 0 → (get_or (cs ++ (at ∷ [])) 0 0 ≡ b) × Linked s (cs ++ (at ∷ []))
leads_linked s b [] at l z = (sym l, z)
leads_linked s b (c ∷ []) at l z = (sym l.0, (l.2, z))
leads_linked s b (c ∷ (d ∷ cs)) at l z = (sym l.0, (l.2.0, (leads_linked s (next_block s c) (d ∷ cs) at l.2 z).1))

-- what walking on from the block at a place comes to, after the blocks before it
abbrev onward : List ℕ → List ℕ → ℕ → Chain
onward s before at = chain_from s (256 - length before) before (length (slot_places s before)) at

module _ (s before : List ℕ) (at : ℕ) where
  onward_breaks : (n : ℕ) → FirstBroken (block_rules s before at) n at → onward s before at ≡ broken n at
  onward_breaks zero b = absurd (((block_tells s before at).refuses zero at b).1 refl)
  onward_breaks (suc n) b = chain_breaks s before _ at _ n ((block_tells s before at).refuses (suc n) at b).0

  module _ (sound : BlockHolds s before at) where
    -- one block fewer may still be walked
    left : 256 - length before ≡ suc (256 - length (before ++ (at ∷ [])))
    left = omega (arith, length-append before (at ∷ []), sound.1.0)

    onward_ends : next_block s at ≡ 0 → onward s before at ≡ walked (before ++ (at ∷ []))
    onward_ends z = rw left (chain_ends s before _ at _ ((block_tells s before at).grants sound) z)

    onward_goes : (next_block s at ≡ 0 → ⊥) → onward s before at ≡ onward s (before ++ (at ∷ [])) (next_block s at)
    onward_goes z = rw (left, slots_snoc) (chain_goes s before _ at _ ((block_tells s before at).grants sound) z)

-- the walk follows the links through blocks that keep the rules
leads_onward : (s before : List ℕ) (at : ℕ) (cs : List ℕ) (p : ℕ) → Leads s at cs p → BlocksHold s (before ++ cs) → onward s before at ≡ onward s (before ++ cs) p
leads_onward s before at [] p l h = rw (l, append-nil)
leads_onward s before at (c ∷ cs) p l h =
    rw l.0 (onward_goes s before c (h before c cs refl) l.1)
    ∙ leads_onward s (before ++ (c ∷ [])) (next_block s c) cs p l.2 (rw append_snoc h)
    ∙ rw append_snoc

-- and to the end of a chain
linked_onward : (s before : List ℕ) (at : ℕ) (bs : List ℕ) → Linked s (at ∷ bs) → BlocksHold s (before ++ (at ∷ bs)) → onward s before at ≡ walked (before ++ (at ∷ bs))
linked_onward s before at [] l h = onward_ends s before at (h before at [] refl) l
linked_onward s before at (c ∷ bs) l h =
    let more : BlocksHold s (before ++ (at ∷ []) ++ (c ∷ bs)) = rw append_snoc h in
    let (new, (few, (header, (room, (whole, (off, end)))))) = more (before ++ (at ∷ [])) c bs refl in
    let z : next_block s at ≡ 0 → ⊥ = λ e. omega (arith, off.0, l.0) in
    onward_goes s before at (h before at (c ∷ bs) refl) z
    ∙ rw l.0 (linked_onward s (before ++ (at ∷ [])) c bs l.1 more)
    ∙ ap walked (append_snoc before at (c ∷ bs))

chain_onward : (s : List ℕ) → chain s ≡ onward s [] 4
unfolding chain slot_places
chain_onward s = refl

-- a chain that is whole is walked to its end
pub whole_walked : (s bs : List ℕ) → WholeChain s bs → chain s ≡ walked bs
whole_walked s [] w = absurd w.1
whole_walked s (b ∷ bs) w = chain_onward s ∙ rw (← w.0) (linked_onward s [] b bs w.1 w.2)

-- the walk stops at the first fault
block_refused : (s : List ℕ) (n p : ℕ) → AtBlock s n p → chain s ≡ broken n p
block_refused s n p a = chain_onward s ∙ leads_onward s [] 4 a.0 p a.1 a.2 ∙ onward_breaks s a.0 p n a.3

-- after blocks that keep the rules: the chain is whole, or has a first fault
walk_judged : (s : List ℕ) (k : ℕ) (before : List ℕ) (at : ℕ) → length before + k ≡ 256 → Leads s 4 before at → BlocksHold s before
    → ((bs : List ℕ) × WholeChain s bs) ⊎ ((n : ℕ) × (p : ℕ) × AtBlock s n p)
walk_judged s zero before at few l h =
    elim (tells_judged _ _ _ (block_tells s before at)) [
      | inl a ↦ absurd (omega (arith, a.1.0))
      | inr b ↦ inr (b.0, at, (before, l, h, b.1))
    ]
walk_judged s (suc k) before at few l h =
    elim (tells_judged _ _ _ (block_tells s before at)) [
      | inr b ↦ inr (b.0, at, (before, l, h, b.1))
      | inl a ↦
          let more = each_more (BlockHolds s) before at h a in
          elim (same? (next_block s at) 0) [
            | inl z ↦ let e = leads_linked s 4 before at l z in inl (before ++ (at ∷ []), (e.0, e.1, more))
            | inr z ↦ walk_judged s k (before ++ (at ∷ [])) (next_block s at) (omega (arith, length-append before (at ∷ []))) (leads_more s 4 before at l z) more
          ]
    ]

chain_judged : (s : List ℕ) → ((bs : List ℕ) × WholeChain s bs) ⊎ ((n : ℕ) × (p : ℕ) × AtBlock s n p)
chain_judged s = walk_judged s 256 [] 4 refl refl (none_yet (BlockHolds s))

-- ---- The slots

-- slots that keep the rules are passed, and the live ones counted
slots_pass : (s bs earlier cs ps : List ℕ) (live : ℕ) → SlotsHold s bs (earlier ++ cs)
    → slots_from s bs earlier (cs ++ ps) live ≡ slots_from s bs (earlier ++ cs) ps (live + length (keep (live_at s) cs))
unfolding keep
slots_pass s bs earlier [] ps live h = rw (append-nil, add-zero)
slots_pass s bs earlier (c ∷ cs) ps live h =
    let more : SlotsHold s bs (earlier ++ (c ∷ []) ++ cs) = rw append_snoc h in
    elim (test (live_at s c)) [
      | inr l ↦
          slots_free s bs earlier c (cs ++ ps) live l
          ∙ slots_pass s bs (earlier ++ (c ∷ [])) cs ps live more
          ∙ rw (append_snoc, keep_skips (live_at s) c cs l)
      | inl l ↦
          let sound = (slot_tells s bs earlier c).grants (h earlier c cs refl ((live_is s c).0 l)) in
          let n : live + 1 + length (keep (live_at s) cs) ≡ live + suc (length (keep (live_at s) cs)) = omega arith in
          slots_live s bs earlier c (cs ++ ps) live l sound
          ∙ slots_pass s bs (earlier ++ (c ∷ [])) cs ps (live + 1) more
          ∙ rw (append_snoc, keep_takes (live_at s) c cs l, n)
    ]

slots_granted : (s bs ps : List ℕ) → SlotsHold s bs ps → slots_from s bs [] ps 0 ≡ grant (length bs ∷ length ps ∷ length (keep (live_at s) ps) ∷ [])
unfolding slots_from
slots_granted s bs ps h = rw (append-nil, zero-add) at (slots_pass s bs [] ps [] 0 h)

slot_refused : (s bs : List ℕ) (n p : ℕ) (before after : List ℕ) → SlotsHold s bs before → Live s p → FirstBroken (slot_rules s bs before p) n p
    → slots_from s bs [] (before ++ (p ∷ after)) 0 ≡ refuse 3 n p
slot_refused s bs n p before after h l b =
    let fault = (slot_tells s bs before p).refuses n p b in
    slots_pass s bs [] before (p ∷ after) 0 h ∙ slots_refuse s bs before p after _ ((live_is s p).1 l) n fault.1 fault.0

-- a live slot that breaks a rule
abbrev SlotBreaks : List ℕ → List ℕ → List ℕ → ℕ → Type 0
SlotBreaks s bs before p = Live s p × ((n : ℕ) × FirstBroken (slot_rules s bs before p) n p)

slot_judged : (s bs before : List ℕ) (p : ℕ) → SlotHolds s bs before p ⊎ SlotBreaks s bs before p
slot_judged s bs before p =
    elim (by_test _ _ (live_is s p)) [
      | inr l ↦ inl (λ m. absurd (l m))
      | inl l ↦ elim (tells_judged _ _ _ (slot_tells s bs before p)) [ inl a ↦ inl (λ m. a) | inr b ↦ inr (l, b) ]
    ]

-- ---- Opening

-- the length and the first bytes are judged before the chain
header_goes : (s : List ℕ) → Goes (header_rules s) (open_of s ≡ open_chain s (chain s)) (λ n p. (open_of s ≡ refuse 3 n p) × (n ≡ 0 → ⊥))
header_goes s =
    goes_rule _ _ 1 0 _ _ (by_test (leb (length s) most_bytes) _ (leb-true _ _, le-leb _ _)) (λ z. (open_long s (omega arith), suc-ne-zero 0))
    (λ short. goes_rule _ _ 2 0 _ _ (by_test (headed s) _ (headed_is s)) (λ z. (open_other s short (fails _ (λ e. z ((headed_is s).0 e))), suc-ne-zero 1))
    (λ h. goes_done _ _ (open_chain_lem s short ((headed_is s).1 h))))

-- every rule holds, and the blocks stand at the places bs
abbrev pub Sound : List ℕ → List ℕ → Type 0
Sound s bs = AllHold (header_rules s) × WholeChain s bs × SlotsHold s bs (slot_places s bs)

pub sound_opens : (s bs : List ℕ) → Sound s bs
    → open_of s ≡ grant (length bs ∷ length (slot_places s bs) ∷ length (keep (live_at s) (slot_places s bs)) ∷ [])
unfolding open_chain
sound_opens s bs h =
    (header_goes s).grants h.0 ∙ ap (open_chain s) (whole_walked s bs h.1) ∙ slots_granted s bs (slot_places s bs) h.2

pub faulty_refused : (s : List ℕ) (n p : ℕ) → Faulty s n p → (open_of s ≡ refuse 3 n p) × (n ≡ 0 → ⊥)
unfolding open_chain
faulty_refused s n p (inl b) = (header_goes s).refuses n p b
faulty_refused s n p (inr (h, inl a)) = (
  (header_goes s).grants h ∙ ap (open_chain s) (block_refused s n p a),
  ((block_tells s a.0 p).refuses n p a.3).1,
)
faulty_refused s n p (inr (h, inr (bs, w, (before, after, e, sound, l, b)))) = (
  (header_goes s).grants h ∙ ap (open_chain s) (whole_walked s bs w) ∙ rw e (slot_refused s bs n p before after sound l b),
  ((slot_tells s bs before p).refuses n p b).1,
)

-- every rule holds, or one is the first that is broken
pub opening_judged : (s : List ℕ) → ((bs : List ℕ) × Sound s bs) ⊎ ((n : ℕ) × (p : ℕ) × Faulty s n p)
opening_judged s =
    elim (judged (header_rules s) (header_goes s).decided) [
      | inr b ↦ inr (b.0, b.1, inl b.2)
      | inl h ↦ elim (chain_judged s) [
        | inr a ↦ inr (a.0, a.1, inr (h, inl a.2))
        | inl w ↦
            elim (each_judged (SlotHolds s w.0) (SlotBreaks s w.0) (slot_judged s w.0) [] (slot_places s w.0) (none_yet (SlotHolds s w.0))) [
              | inl all ↦ inl (w.0, (h, w.1, all))
              | inr f ↦ inr (f.5.1.0, f.1, inr (h, inr (w.0, w.1, (f.0, f.2, f.3, f.4, f.5.0, f.5.1.1))))
            ]
      ]
    ]

-- ---- Its numbers

faulty_below : (s : List ℕ) (n p : ℕ) → Faulty s n p → n < 11
faulty_below s n p (inl b) = broken_below 11 n p (header_rules s) (omega arith, (omega arith, tt)) b
faulty_below s n p (inr (h, inl a)) =
    broken_below 11 n p (block_rules s a.0 p) (omega arith, (omega arith, (omega arith, (omega arith, (omega arith, (omega arith, tt)))))) a.3
faulty_below s n p (inr (h, inr (bs, w, (before, after, e, sound, l, b)))) =
    broken_below 11 n p (slot_rules s bs before p) (omega arith, (omega arith, (omega arith, (omega arith, tt)))) b

-- opening answers no number past 10
pub open_below : (s : List ℕ) → (open_of s).number < 11
open_below s = elim (opening_judged s) [
  | inl h ↦ let e = ap (λ a. a.number) (sound_opens s h.0 h.1) in omega (arith, e)
  | inr f ↦ let e = ap (λ a. a.number) (faulty_refused s f.0 f.1 f.2).0 in omega (arith, e, faulty_below s f.0 f.1 f.2)
]
