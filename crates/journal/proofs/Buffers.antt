-- The laws of calls on a buffer: what each leaves, from its outcome, and what the edits come to, from what they meet in the image.
-- Assumes nothing.
use Prim.Native.Nat.{ℕ, zero, suc, ◌+◌, ◌<◌, ◌≤◌}
use mathlib.Core.Path.{◌≡◌, refl, sym, ap, subst, ◌∙◌}
use mathlib.Core.Bool.{Bool, true, false, ◌||◌}
use mathlib.Core.List.{List, [], ◌++◌}
use native.Mathlib.Nat.{suc-ne-zero}
use native.Mathlib.Omega.{arith}
use lib.ListN.{length, take, drop}
use lib.Seq.{length-take-le}
use lib.Dec.{leb, ltb}
use borrow.Author.Tests.{le-leb, lt-leb}
use Rattle.std.specs.Prelude.{Option, Some, None, Result, Ok, Err, IsErrAnd}
use Rattle.std.proofs.lemmas.Result.{err_from_is_err_and}
use Rattle.answer.proofs.Answer.{refusal_is}
use Rattle.answer.specs.Refusals.{TOO_LONG, ABSENT, PRESENT, number_of}
use Rattle.answer.specs.Answer.{refuse}
use Rattle.answer.specs.Lent.{laid_over}
use Rattle.answer.specs.Search.{Hit, hit, miss}
use Rattle.answer.specs.declared.Refusal.{Refusal}
use Rattle.answer.specs.declared.refusals.Rule.TheVariants.{TooLong, Present, Absent}
use Rattle.directory.specs.Limits.{most_bytes, most_blocks, most_slots, free_tag}
use Rattle.directory.specs.Blocks.{blocks_of}
use Rattle.directory.specs.Slots.{slots_of}
use Rattle.directory.specs.Links.{last_of}
use Rattle.directory.proofs.Rules.{opens_kept}
use Rattle.directory.specs.Opening.{opened_numbers, open_of}
use Rattle.directory.specs.declared.Counts.{Counts}
use Rattle.directory.specs.Lookup.{find}
use Rattle.journal.specs.Outcomes.{Outcome, granted, refused, opened_to, edited_numbers}
use Rattle.journal.specs.Edits.{block_slots, block_size, new_block, block_edit, tagged, free_slot, data_slot, data_offset, slot_edit, fitted, first_free, add_at, add_of, replace_of, remove_of}
use Rattle.journal.specs.Undos.{undo_to, undo_by, undo_of}
use Rattle.journal.specs.Trailers.{carried_by, Author, named}
use Rattle.journal.specs.declared.change.Form.{Form}
use Rattle.journal.specs.Buffers.{image_in, add_in, replace_in, remove_in, undo_in, Leaves}
use Rattle.journal.specs.Steps.Changes.{OpensIn, Editable, slot_in, new_in}
use Rattle.journal.proofs.Outcomes.{Positive, positive_granted, positive_refused, positive_passing, positive_opened, positive_tagged, opened_stops, tagged_good}

-- ---- What a call leaves, from its outcome

pub laid_kept : (number place : ℕ) (l : List ℕ) → laid_over (refuse 1 number place) [] l ≡ l
unfolding laid_over
laid_kept zero place l = refl
laid_kept (suc number) place l = refl

pub refuses : {o : Outcome} (l : List ℕ) (r : Refusal) → o ≡ refused (number_of r.rule) r.place → Leaves o l l (Err r)
refuses l r e = rw e (record { answers = refusal_is 1 r; leaves = sym (laid_kept (number_of r.rule) r.place l) })

pub grants : {o : Outcome} (l after file : List ℕ) (size : ℕ) → o ≡ granted file → size ≡ length file → after ≡ file ++ drop (length file) l
    → Leaves o l after (Ok size)
unfolding laid_over
grants l after file size e n a = rw e (record { answers = ap (λ k. edited_numbers (Ok k)) n; leaves = a })

-- for another outcome that is equal
pub leaves_same : {o p : Outcome} (l after : List ℕ) (r : Result ℕ Refusal) → o ≡ p → Leaves p l after r → Leaves o l after r
leaves_same l after r e d = rw e d

-- ---- The image in the buffer

pub positive_image : (l : List ℕ) (n : ℕ) (o : Outcome) → Positive o → Positive (image_in l n o)
unfolding image_in
positive_image l n o h = go (leb n (length l))
  where
    go : (b : Bool) → Positive (elim b [ false ↦ refused TOO_LONG 0 | true ↦ o ])
    go false = positive_refused TOO_LONG 0 (suc-ne-zero 0)
    go true = h

pub inside : (l : List ℕ) (n : ℕ) (o : Outcome) → n ≤ length l → image_in l n o ≡ o
unfolding image_in
inside l n o h = rw (image_in, le-leb _ _ h)

pub image_short : (l : List ℕ) (n : ℕ) → n ≤ length l → (open_of (take n l)).number ≡ 0 → n ≤ most_bytes
image_short l n fits opened = omega (arith, (opens_kept (take n l) opened).short, length-take-le n l fits)

pub undo_here : (l : List ℕ) (n desk : ℕ) → n ≤ length l → undo_in l n desk ≡ undo_of (take n l) desk
unfolding undo_in
undo_here l n desk fits = inside l n _ fits

-- ---- Opening it

module _ (l : List ℕ) (n : ℕ) where
  pub opens_outside : length l < n → OpensIn l n (Err (record { rule = TooLong; place = 0 }))
  unfolding image_in
  opens_outside h rest = rw (image_in, lt-leb _ _ h)

  pub opens_inside : n ≤ length l → (o : Result Counts Refusal) → opened_numbers o ≡ open_of (take n l) → OpensIn l n o
  opens_inside fits (Ok c) e = (fits, sym e)
  opens_inside fits (Err r) e = λ rest. inside l n _ fits ∙ opened_stops (take n l) (Err r) e r refl rest

  -- the refusal that a call passes on
  pub closed_in : (o : Result Counts Refusal) → OpensIn l n o → (r : Refusal) → o ≡ Err r → (rest : Outcome)
      → image_in l n (opened_to (take n l) rest) ≡ refused (number_of r.rule) r.place
  closed_in o h r e rest = subst (OpensIn l n) e h rest

-- ---- Edits

-- a refusal whatever comes after, that is passed on
pub edit_stops : (l : List ℕ) (n tag : ℕ) (rest : Outcome) (r : Refusal)
    → ((rest : Outcome) → image_in l n (tagged (take n l) tag rest) ≡ refused (number_of r.rule) r.place)
    → (answer : Result ℕ Refusal) → IsErrAnd answer (λ q. q ≡ r) → Leaves (image_in l n (tagged (take n l) tag rest)) l l answer
edit_stops l n tag rest r stop answer h = let p = err_from_is_err_and answer h in rw (p.1, p.2) (refuses l r (stop rest))

module _ (l : List ℕ) (n desk tag : ℕ) (m : Editable l n tag) (ref : ℕ) where
  here : (rest : Outcome) → image_in l n (tagged (take n l) tag rest) ≡ rest
  here rest = inside l n _ m.fits ∙ tagged_good (take n l) tag m.opens m.good rest

  module _ (p : ℕ) (there : find (take n l) tag ref ≡ hit p) where
    pub add_present : (content : List ℕ) → Leaves (add_in l n desk tag ref content) l l (Err (record { rule = Present; place = 0 }))
    unfolding add_in add_of
    add_present content = refuses l (record { rule = Present; place = 0 }) (here _ ∙ rw there)

    pub replace_there : (content after : List ℕ) (r : Result ℕ Refusal) → Leaves (slot_in l n p desk tag ref content) l after r → Leaves (replace_in l n desk tag ref content) l after r
    unfolding replace_in replace_of
    replace_there content after r d =
        leaves_same {p = slot_in l n p desk tag ref content} l after r
        (here _ ∙ rw there (ap (λ k. fitted (length l) (slot_edit (take n l) (named desk) p (data_slot tag ref content k) content)) (length-take-le n l m.fits))) d

    pub remove_there : (after : List ℕ) (r : Result ℕ Refusal) → Leaves (slot_in l n p desk free_tag 0 []) l after r → Leaves (remove_in l n desk tag ref) l after r
    unfolding remove_in remove_of free_slot data_slot data_offset
    remove_there after r d = leaves_same {p = slot_in l n p desk free_tag 0 []} l after r (here _ ∙ rw there) d

  module _ (none : find (take n l) tag ref ≡ miss) where
    pub add_absent : (content after : List ℕ) (r : Result ℕ Refusal) → Leaves (new_in l n desk tag ref content) l after r → Leaves (add_in l n desk tag ref content) l after r
    unfolding add_in add_of
    add_absent content after r d = leaves_same {p = new_in l n desk tag ref content} l after r (here _ ∙ rw none) d

    pub replace_absent : (content : List ℕ) → Leaves (replace_in l n desk tag ref content) l l (Err (record { rule = Absent; place = 0 }))
    unfolding replace_in replace_of
    replace_absent content = refuses l (record { rule = Absent; place = 0 }) (here _ ∙ rw none)

    pub remove_absent : Leaves (remove_in l n desk tag ref) l l (Err (record { rule = Absent; place = 0 }))
    unfolding remove_in remove_of
    remove_absent = refuses l (record { rule = Absent; place = 0 }) (here _ ∙ rw none)

-- ---- No refusal has the number 0

-- of two outcomes that a test picks
either : (b : Bool) (o q : Outcome) → Positive o → Positive q → Positive (elim b [ true ↦ o | false ↦ q ])
either true o q h k = h
either false o q h k = k

positive_fitted : (capacity : ℕ) (file : List ℕ) → Positive (fitted capacity file)
unfolding fitted
positive_fitted capacity file = positive_passing _ 0 (granted file) (positive_granted file)

positive_at : (s : List ℕ) (capacity : ℕ) (author : Author) (tag ref : ℕ) (content : List ℕ) (w : Hit) → Positive (add_at s capacity author tag ref content w)
unfolding add_at
positive_at s capacity author tag ref content (hit p) = positive_fitted capacity _
positive_at s capacity author tag ref content miss =
    let file = block_edit s author (last_of 4 (blocks_of s)) (new_block (data_slot tag ref content (length s + block_size))) content in
    either (leb most_blocks (length (blocks_of s)) || ltb most_slots (length (slots_of s) + block_slots)) (refused 6 0) (fitted capacity file)
    (positive_refused 6 0 (suc-ne-zero 5)) (positive_fitted capacity file)

module _ (l : List ℕ) (n desk tag ref : ℕ) where
  pub add_positive : (content : List ℕ) → Positive (add_in l n desk tag ref content)
  unfolding add_in add_of
  add_positive content = positive_image l n _ (positive_tagged (take n l) tag _ (go (find (take n l) tag ref)))
    where
      go : (f : Hit) → Positive (elim f [ hit p ↦ refused PRESENT 0 | miss ↦ add_at (take n l) (length l) (named desk) tag ref content (first_free (take n l)) ])
      go (hit p) = positive_refused 18 0 (suc-ne-zero 17)
      go miss = positive_at (take n l) (length l) (named desk) tag ref content (first_free (take n l))

  -- an edit of an element that has to be there
  changed : (make : ℕ → List ℕ) (f : Hit) → Positive (elim f [ hit p ↦ fitted (length l) (make p) | miss ↦ refused ABSENT 0 ])
  changed make (hit p) = positive_fitted (length l) (make p)
  changed make miss = positive_refused 11 0 (suc-ne-zero 10)

  pub replace_positive : (content : List ℕ) → Positive (replace_in l n desk tag ref content)
  unfolding replace_in replace_of
  replace_positive content = positive_image l n _ (positive_tagged (take n l) tag _ (changed _ (find (take n l) tag ref)))

  pub remove_positive : Positive (remove_in l n desk tag ref)
  unfolding remove_in remove_of
  remove_positive = positive_image l n _ (positive_tagged (take n l) tag _ (changed _ (find (take n l) tag ref)))

positive_by : (s : List ℕ) (desk : ℕ) (ending : Option Form) → Positive (undo_by s desk ending)
unfolding undo_by undo_to
positive_by s desk None = positive_refused 20 0 (suc-ne-zero 19)
positive_by s desk (Some form) = positive_passing _ _ _ (positive_granted _)

pub undo_positive : (l : List ℕ) (n desk : ℕ) → Positive (undo_in l n desk)
unfolding undo_in undo_of
undo_positive l n desk = positive_image l n _ (positive_opened (take n l) _ (positive_by (take n l) desk (carried_by (take n l))))
