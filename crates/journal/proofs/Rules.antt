-- Edits go by their rules: each is granted exactly if all of them hold, and refused exactly as the first broken one says.
-- Assumes nothing.
use Prim.Native.Nat.{ℕ, ◌+◌, ◌<◌, ◌≤◌}
use mathlib.Core.Path.{◌≡◌, refl, sym, ◌∙◌}
use mathlib.Core.Logic.{◌↔◌, ◌⊎◌, inl, inr}
use mathlib.Core.List.{List, []}
use mathlib.Core.Bool.{Bool, true, false, not, ◌||◌}
use native.Mathlib.Omega.{arith}
use lib.ListN.{length, take, length-append}
use lib.Dec.{leb, ltb}
use borrow.Author.Tests.{leb-true, leb-false, lt-leb, le-ltb, ltb-false, not-true}
use Rattle.wire.proofs.Numbers.{length_put}
use Rattle.answer.specs.declared.refusals.Rule.TheVariants.{TooLong, NoRoom}
use Rattle.answer.specs.Search.{Hit, hit, miss}
use Rattle.answer.specs.Rules.{Rules, done, rule, AllHold, FirstBroken}
use Rattle.answer.proofs.Tests.{test, same?, le?, or_clear, or_neither, on_true, on_false, not_both}
use Rattle.answer.proofs.Search.{first_hit, first_split, first_miss}
use Rattle.answer.proofs.Rules.{Goes, goes_done, goes_rule, exactly}
use Rattle.directory.specs.Blocks.{blocks_of}
use Rattle.directory.specs.Slots.{tag_at, live_at, slots_of}
use Rattle.directory.specs.Opening.{open_of}
use Rattle.directory.specs.Lookup.{find}
use Rattle.directory.specs.Rules.{Live}
use Rattle.directory.specs.Named.{Named}
use Rattle.directory.proofs.Slots.{live_is}
use Rattle.directory.proofs.Named.{found_named, missed_named}
use Rattle.journal.specs.Outcomes.{Outcome, granted, refused, opened_to}
use Rattle.journal.specs.Edits.{free_slot, new_block, slot_edit, block_edit, fitted, bad_tag, tagged, first_free, add_at, add_of, replace_of, remove_of}
use Rattle.journal.specs.EditRules.{FirstFree}
use Rattle.journal.specs.Buffers.{image_in, add_in, replace_in, remove_in}
use Rattle.journal.specs.Trailers.{Author, named, trailer_size}
use Rattle.journal.specs.Rules.{image_rules, EditTag, FreeSlot, NoneFree, HasRoom, AddedFits, add_rules, change_rules, replace_rules, remove_rules}
use Rattle.journal.proofs.Outcomes.{tag_good, tag_bad, refused_granted, passing_stops, opened_to_goes, fault_long, fault_room, fault_none, fitted_there, fitted_fault}
use Rattle.journal.proofs.Trailers.{length_trailer}
use Rattle.journal.proofs.Runs.{length_data, length_block}
use Rattle.journal.proofs.Buffers.{inside}

-- ---- Outcomes by rules

abbrev pub Granted : Outcome → Type 0
Granted o = (t : List ℕ) × (o ≡ granted t)

abbrev pub By : Rules → Outcome → Type 0
By R o = Goes R (Granted o) (λ n p. o ≡ refused n p)

pub outcome_exactly : (R : Rules) (o : Outcome) → By R o → (Granted o ↔ AllHold R) × ((n p : ℕ) → (o ≡ refused n p) ↔ FirstBroken R n p)
outcome_exactly R o g =
    exactly (Granted o) (λ n p. o ≡ refused n p) R g (λ x n p e. refused_granted n p x.0 (sym e ∙ x.1))
    (λ n p m q a b. let e : refused n p ≡ refused m q = sym a ∙ b in (cc, cc))

pub by_same : (R : Rules) (o q : Outcome) → o ≡ q → By R q → By R o
by_same R o q e g = rw e g

pub by_rule : (o : Outcome) (number place : ℕ) (Holds : Type 0) (rest : Rules) → Holds ⊎ (Holds → ⊥) → ((Holds → ⊥) → o ≡ refused number place)
    → (Holds → By rest o) → By (rule number place Holds rest) o
by_rule o number place Holds rest = goes_rule (Granted o) (λ n p. o ≡ refused n p) number place Holds rest

pub by_done : (o : Outcome) (t : List ℕ) → o ≡ granted t → By done o
by_done o t e = goes_done (Granted o) (λ n p. o ≡ refused n p) (t, e)

-- ---- The image in the buffer

module _ (buffer : List ℕ) (n : ℕ) (o : Outcome) (R : Rules) where
  pub by_image : (n ≤ length buffer → (open_of (take n buffer)).number ≡ 0 → By R o) → By (image_rules buffer n R) (image_in buffer n (opened_to (take n buffer) o))
  unfolding image_in opened_to
  by_image rest =
      let s = take n buffer in
      let all = image_in buffer n (opened_to s o) in
      by_rule all 1 0 _ _ (le? n (length buffer)) (λ z. on_false (leb n (length buffer)) _ _ (lt-leb n (length buffer) (omega arith)))
      (λ fits. by_rule all _ _ _ _ (same? (open_of s).number 0) (λ z. inside buffer n _ fits ∙ passing_stops _ _ o z)
      (λ opens. by_same R all o (inside buffer n _ fits ∙ opened_to_goes s o opens) (rest fits opens)))

-- ---- A tag and a file that fit

module _ (buffer : List ℕ) (n tag : ℕ) (o : Outcome) (R : Rules) where
  by_tagged : ((open_of (take n buffer)).number ≡ 0 → By R o)
      → By (image_rules buffer n (rule 7 0 (EditTag tag) R)) (image_in buffer n (tagged (take n buffer) tag o))
  unfolding tagged
  by_tagged rest =
      by_image buffer n (elim (bad_tag tag) [ true ↦ refused 7 0 | false ↦ o ]) _ (λ fits opens. elim (test (bad_tag tag)) [
        | inl bad ↦
            by_rule _ 7 0 (EditTag tag) R (inr (λ g. not_both (bad_tag tag) (tag_bad tag g) bad)) (λ z. on_true (bad_tag tag) _ _ bad)
            (λ g. absurd (not_both (bad_tag tag) (tag_bad tag g) bad))
        | inr good ↦
            by_rule _ 7 0 (EditTag tag) R (inl (tag_good tag good)) (λ z. absurd (z (tag_good tag good)))
            (λ g. by_same R _ o (on_false (bad_tag tag) _ _ good) (rest opens))
      ])

-- a test that says what a fact says
decided : {A B : Type 0} → A ↔ B → B ⊎ (B → ⊥) → A ⊎ (A → ⊥)
decided e (inl b) = inl (e.1 b)
decided e (inr z) = inr (λ a. z (e.0 a))

by_fit : (capacity : ℕ) (file : List ℕ) (size : ℕ) → length file ≡ size → (Short Fits : Type 0) → Short ↔ (size ≤ 2147483647) → Fits ↔ (size ≤ capacity)
    → By (rule 1 0 Short (rule 19 0 Fits done)) (fitted capacity file)
by_fit capacity file size is Short Fits short fits =
    by_rule _ 1 0 Short _ (decided short (le? size 2147483647))
    (λ z. fitted_fault capacity file size is TooLong (sym (fault_long capacity size (over 2147483647 (λ l. z (short.1 l))))))
    (λ a. by_rule _ 19 0 Fits done (decided fits (le? size capacity))
    (λ z. fitted_fault capacity file size is NoRoom (sym (fault_room capacity size (short.0 a) (over capacity (λ l. z (fits.1 l))))))
    (λ b. by_done _ file (fitted_there capacity file size is (fault_none capacity size (short.0 a) (fits.0 b)))))
  where
    over : (most : ℕ) → (size ≤ most → ⊥) → most < size
    over most z = elim (test (leb size most)) [ inl l ↦ absurd (z (leb-true size most l)) | inr l ↦ leb-false size most l ]

-- ---- Replacing and removing

module _ (buffer : List ℕ) (n tag ref size : ℕ) (make : ℕ → List ℕ) (long : (p : ℕ) → length (make p) ≡ length (take n buffer) + size + 36) where
  abbrev found : Hit → Outcome
  found f = elim f [ hit p ↦ fitted (length buffer) (make p) | miss ↦ refused 11 0 ]

  by_change : By (change_rules buffer n tag ref size) (image_in buffer n (tagged (take n buffer) tag (found (find (take n buffer) tag ref))))
  by_change = by_tagged buffer n tag _ _ (λ opens. go (find (take n buffer) tag ref) refl)
    where
      go : (f : Hit) → find (take n buffer) tag ref ≡ f
          → By (rule 11 0 ((p : ℕ) × Named (take n buffer) tag ref p)
          (rule 1 0 (length (take n buffer) + size + 36 ≤ 2147483647) (rule 19 0 (length (take n buffer) + size + 36 ≤ length buffer) done))) (found f)
      go (hit p) e =
          by_rule _ 11 0 _ _ (inl (p, found_named (take n buffer) tag ref p e)) (λ z. absurd (z (p, found_named (take n buffer) tag ref p e)))
          (λ h. by_fit (length buffer) (make p) _ (long p) _ _ ((λ x. x), (λ x. x)) ((λ x. x), (λ x. x)))
      go miss e =
          let none : ((p : ℕ) × Named (take n buffer) tag ref p) → ⊥ = λ h. missed_named (take n buffer) tag ref h.0 e h.1 in
          by_rule _ 11 0 _ _ (inr none) (λ z. refl) (λ h. absurd (none h))

length_slot_edit : (s : List ℕ) (author : Author) (p : ℕ) (slot content : List ℕ) → length (slot_edit s author p slot content) ≡ length s + length content + trailer_size author
unfolding slot_edit
length_slot_edit s author p slot content = simp (length-append, length_put, length_trailer)

length_block_edit : (s : List ℕ) (author : Author) (b : ℕ) (slot content : List ℕ) → length slot ≡ 12
    → length (block_edit s author b (new_block slot) content) ≡ length s + 198 + length content + trailer_size author
unfolding block_edit
length_block_edit s author b slot content n = simp (length-append, length_put, length_trailer, length_block slot n)

module _ (buffer : List ℕ) (n desk tag ref : ℕ) where
  pub replace_by : (content : List ℕ) → By (replace_rules buffer n tag ref content) (replace_in buffer n desk tag ref content)
  unfolding replace_in replace_of
  replace_by content = by_change buffer n tag ref (length content) _ (λ p. length_slot_edit (take n buffer) (named desk) p _ content)

  pub remove_by : By (remove_rules buffer n tag ref) (remove_in buffer n desk tag ref)
  unfolding remove_in remove_of
  remove_by = by_change buffer n tag ref 0 _ (λ p. length_slot_edit (take n buffer) (named desk) p free_slot [])

-- ---- Adding

module _ (s : List ℕ) where
  free_slot_lem : (p : ℕ) → first_free s ≡ hit p → FreeSlot s
  free_slot_lem p e =
      let h = first_hit (λ q. not (live_at s q)) (slots_of s) p e in
      (p, h.0, elim (same? (tag_at s p) 1) [ inl q ↦ q | inr z ↦ absurd (not_both (live_at s p) (not-true _ h.1) ((live_is s p).1 z)) ])

  -- a slot of which the search for a free one said no
  said_live : (p : ℕ) → not (live_at s p) ≡ false → Live s p
  said_live p h = (live_is s p).0 (live (live_at s p) h)
    where
      live : (b : Bool) → not b ≡ false → b ≡ true
      live true h = refl
      live false h = sym h

  pub none_free : first_free s ≡ miss → NoneFree s
  none_free e p i = said_live p (first_miss (λ q. not (live_at s q)) (slots_of s) e p i)

  pub first_free_lem : (p : ℕ) → first_free s ≡ hit p → FirstFree s p
  unfolding free_slot_lem
  first_free_lem p e =
      let x = first_split (λ q. not (live_at s q)) (slots_of s) p e in
      (x.0, x.1, x.2, (free_slot_lem p e).2, λ q i. said_live q (x.3 q i))

  -- where a slot is free, and where none is
  fits_free : FreeSlot s → (size most : ℕ) → AddedFits s size most ↔ (length s + size + 36 ≤ most)
  fits_free f size most = ((λ h. h.0 f), (λ l. ((λ x. l), (λ none. absurd (none f.0 f.1 f.2)))))

  fits_block : NoneFree s → (size most : ℕ) → AddedFits s size most ↔ (length s + 198 + size + 36 ≤ most)
  fits_block none size most = ((λ h. h.1 none), (λ l. ((λ f. absurd (none f.0 f.1 f.2)), (λ x. l))))

module _ (buffer : List ℕ) (n desk tag ref : ℕ) (content : List ℕ) where
  abbrev s : List ℕ
  s = take n buffer

  abbrev fit_rules : Rules
  fit_rules = rule 1 0 (AddedFits s (length content) 2147483647) (rule 19 0 (AddedFits s (length content) (length buffer)) done)

  -- in the first free slot, or in a new block
  add_at_by : (f : Hit) → first_free s ≡ f → By (rule 6 0 (HasRoom s) fit_rules) (add_at s (length buffer) (named desk) tag ref content f)
  unfolding add_at
  add_at_by (hit p) e =
      let free = free_slot_lem s p e in
      by_rule _ 6 0 _ _ (inl (inl free)) (λ z. absurd (z (inl free)))
      (λ h. by_fit (length buffer) _ _ (length_slot_edit s (named desk) p _ content) _ _ (fits_free s free _ _) (fits_free s free _ _))
  add_at_by miss e =
      let none = none_free s e in
      let many = leb 256 (length (blocks_of s)) in
      let full = ltb 4096 (length (slots_of s) + 16) in
      elim (test (many || full)) [
        | inl b ↦
            let no_room : HasRoom s → ⊥ =
            λ h. elim h [
              | inl f ↦ none f.0 f.1 f.2
              | inr r ↦ not_both (many || full) (or_neither many full (lt-leb 256 (length (blocks_of s)) r.0) (le-ltb 4096 (length (slots_of s) + 16) (omega (arith, r.1)))) b
            ] in
            by_rule _ 6 0 _ _ (inr no_room) (λ z. on_true (many || full) _ _ b) (λ h. absurd (no_room h))
        | inr b ↦
            let c = or_clear many full b in
            let room : HasRoom s = inr (leb-false 256 _ c.0, omega (arith, ltb-false 4096 (length (slots_of s) + 16) c.1)) in
            by_rule _ 6 0 _ _ (inl room) (λ z. absurd (z room))
            (λ h. by_same fit_rules _ _ (on_false (many || full) _ _ b)
            (by_fit (length buffer) _ _ (length_block_edit s (named desk) _ _ content (length_data tag ref content _)) _ _ (fits_block s none _ _) (fits_block s none _ _)))
      ]

  pub add_by : By (add_rules buffer n tag ref content) (add_in buffer n desk tag ref content)
  unfolding add_in add_of
  add_by = by_tagged buffer n tag _ _ (λ opens. go (find s tag ref) refl)
    where
      go : (f : Hit) → find s tag ref ≡ f
          → By (rule 18 0 ((p : ℕ) → Named s tag ref p → ⊥) (rule 6 0 (HasRoom s) fit_rules))
          (elim f [ hit p ↦ refused 18 0 | miss ↦ add_at s (length buffer) (named desk) tag ref content (first_free s) ])
      go (hit p) e =
          let there : ((q : ℕ) → Named s tag ref q → ⊥) → ⊥ = λ none. none p (found_named s tag ref p e) in
          by_rule _ 18 0 _ _ (inr there) (λ z. refl) (λ h. absurd (there h))
      go miss e =
          let absent : (q : ℕ) → Named s tag ref q → ⊥ = λ q. missed_named s tag ref q e in
          by_rule _ 18 0 _ _ (inl absent) (λ z. absurd (z absent)) (λ h. add_at_by (first_free s) refl)
