-- Every call's answer has its shape: place 0 where it is granted, zeros beside number and place where it is refused. Assumes nothing.
use Prim.Native.Nat.{ℕ, zero, suc}
use native.Mathlib.Nat.{suc-ne-zero}
use mathlib.Core.Path.{◌≡◌, refl}
use mathlib.Core.Logic.{inl, inr}
use mathlib.Core.List.{List}
use Rattle.answer.specs.Answer.{Answer, Proper}
use Rattle.answer.specs.Search.{Hit, hit, miss}
use Rattle.answer.proofs.Answer.{refused_is, proper_grant, proper_refuse, proper_unless, proper_room}
use Rattle.wire.specs.Numbers.{part}
use Rattle.directory.specs.Opening.{open_of, opened}
use Rattle.directory.specs.Lookup.{find, hit_answer, find_of}
use Rattle.directory.specs.Descriptors.{list_of}
use Rattle.directory.proofs.Faults.{opening_judged, sound_opens, faulty_refused}
use Rattle.storage.specs.Elements.{element_at, plain_only, located_at, on_plain}
use Rattle.storage.specs.Views.{view_of}
use Rattle.storage.specs.Sizes.{size_of_stored, size_found, size_of}
use Rattle.storage.specs.Choices.{choose_found, choose_of}
use Rattle.storage.specs.declared.element.Element.{Element}
use Rattle.storage.specs.declared.element.Element.TheVariants.{Absent, NotStored, Plain, Extended}
use Rattle.records.specs.Readings.{Sound, sound, refused, on_sound, sound_in, record_at}
use Rattle.std.specs.Prelude.{replicate}
use Rattle.records.specs.Packings.{pack_of}
use Rattle.records.specs.NumberTypes.{number_type_at, number_type_of}
use Rattle.records.specs.Dimensions.{dimension_at, dimension_of}
use Rattle.records.specs.Arrays.{array_at, array_of}
use Rattle.records.proofs.Readings.{sound_positive}
use Rattle.vgroup.specs.Groups.{group_at, group_of}
use Rattle.vgroup.specs.Listings.{listing_at, listing_of}
use Rattle.vhead.specs.Heads.{head_at, head_within}
use Rattle.vdata.specs.Values.{value_after, value_found, value_of}
use Rattle.vdata.specs.Columns.{column_given, column_after, column_found, column_of}
use Rattle.journal.specs.Outcomes.{Outcome, granted, refused, outcome_answer}
use Rattle.journal.specs.Buffers.{add_in, replace_in, remove_in, undo_in}
use Rattle.journal.proofs.Outcomes.{Positive}
use Rattle.journal.proofs.Buffers.{add_positive, replace_positive, remove_positive, undo_positive}

-- ---- Opening and lookup

pub open_proper : (s : List ℕ) → Proper 3 (open_of s)
open_proper s = elim (opening_judged s) [
  | inl h ↦ rw (sound_opens s h.0 h.1) (proper_grant 3 _)
  | inr h ↦ let f = faulty_refused s h.0 h.1 h.2 in rw f.0 (proper_refuse 3 h.0 h.1 f.1)
]

opened_proper : (k : ℕ) (s : List ℕ) (answer : Answer) → Proper k answer → Proper k (opened k s answer)
unfolding opened
opened_proper k s answer h = proper_unless k _ _ answer h

pub find_proper : (s : List ℕ) (tag ref : ℕ) → Proper 1 (find_of s tag ref)
unfolding find_of
find_proper s tag ref = opened_proper 1 s _ (go (find s tag ref))
  where
    go : (f : Hit) → Proper 1 (hit_answer f)
    go (hit p) = proper_grant 1 _
    go miss = proper_refuse 1 11 0 (suc-ne-zero 10)

pub size_proper : (s : List ℕ) (tag ref : ℕ) → Proper 1 (size_of s tag ref)
unfolding size_of size_of_stored
size_proper s tag ref = opened_proper 1 s _ (go (element_at s (find s tag ref)))
  where
    go : (x : Element) → Proper 1 (size_found s x)
    go Absent = proper_refuse 1 11 0 (suc-ne-zero 10)
    go (NotStored p) = proper_refuse 1 29 p (suc-ne-zero 28)
    go (Plain x) = proper_unless 1 _ _ _ (proper_grant 1 _)
    go (Extended p) = proper_unless 1 _ _ _ (proper_grant 1 _)

pub list_proper : (s : List ℕ) (room : ℕ) → Proper 1 (list_of s room)
unfolding list_of
list_proper s room = opened_proper 1 s _ (proper_room 1 _ _ (proper_grant 1 _))

-- ---- Elements

plain_proper : (k : ℕ) (answer : ℕ → ℕ → ℕ → Answer) → ((p offset size : ℕ) → Proper k (answer p offset size)) → (x : Element)
    → Proper k (on_plain k answer (plain_only x))
plain_proper k answer h Absent = proper_refuse k 11 0 (suc-ne-zero 10)
plain_proper k answer h (NotStored p) = proper_refuse k 29 p (suc-ne-zero 28)
plain_proper k answer h (Plain x) = h x.slot x.offset x.length
plain_proper k answer h (Extended p) = proper_refuse k 12 p (suc-ne-zero 11)

pub view_proper : (s : List ℕ) (tag ref : ℕ) → Proper 2 (view_of s tag ref)
unfolding view_of
view_proper s tag ref = opened_proper 2 s _ (plain_proper 2 _ (λ p offset size. proper_grant 2 _) (element_at s (find s tag ref)))

pub choose_proper : (s t : List ℕ) (tag ref : ℕ) → Proper 3 (choose_of s t tag ref)
unfolding choose_of choose_found
choose_proper s t tag ref = opened_proper 3 s _ (opened_proper 3 t _ (go (element_at s (find s tag ref)) (element_at t (find t tag ref))))
  where
    go : (x y : Element) → Proper 3 (choose_found x y)
    go Absent y = plain_proper 3 _ (λ p offset size. proper_grant 3 _) y
    go (NotStored p) y = proper_refuse 3 29 p (suc-ne-zero 28)
    go (Plain x) y = proper_grant 3 _
    go (Extended p) y = proper_refuse 3 12 p (suc-ne-zero 11)

-- ---- Records

record_proper : (k : ℕ) (s : List ℕ) (found : Hit) (fault : List ℕ → ℕ) (answer : ℕ → List ℕ → Answer) → ((at : ℕ) (e : List ℕ) → Proper k (answer at e))
    → Proper k (record_at k s found fault answer)
unfolding record_at
record_proper k s found fault answer h = go (sound_in fault s (located_at s found)) refl
  where
    go : (l : Sound) → sound_in fault s (located_at s found) ≡ l → Proper k (on_sound k (λ p offset size. answer offset (part s offset size)) l)
    go (sound x) is = h x.offset (part s x.offset x.length)
    go (refused n p) is =
        let z = sound_positive fault s (located_at s found) n p is in
        rw (refused_is (replicate k 0) n p z) (proper_refuse k n p z)

pub number_type_proper : (s : List ℕ) (ref : ℕ) → Proper 4 (number_type_of s ref)
unfolding number_type_of number_type_at
number_type_proper s ref = opened_proper 4 s _ (record_proper 4 s _ _ _ (λ at e. proper_grant 4 _))

pub dimension_proper : (s : List ℕ) (tag ref : ℕ) → Proper 8 (dimension_of s tag ref)
unfolding dimension_of dimension_at
dimension_proper s tag ref = opened_proper 8 s _ (record_proper 8 s _ _ _ (λ at e. proper_grant 8 _))

pub array_proper : (s : List ℕ) (ref sizes pairs : ℕ) → Proper 1 (array_of s ref sizes pairs)
unfolding array_of array_at
array_proper s ref sizes pairs = opened_proper 1 s _ (record_proper 1 s _ _ _ (λ at e. proper_room 1 _ _ (proper_grant 1 _)))

pub pack_proper : (fault : ℕ) (bytes : List ℕ) (room : ℕ) → Proper 1 (pack_of fault bytes room)
unfolding pack_of
pack_proper fault bytes room = proper_unless 1 fault 0 _ (proper_room 1 _ _ (proper_grant 1 _))

pub group_proper : (s : List ℕ) (ref room : ℕ) → Proper 9 (group_of s ref room)
unfolding group_of group_at
group_proper s ref room = opened_proper 9 s _ (record_proper 9 s _ _ _ (λ at e. proper_room 9 _ _ (proper_grant 9 _)))

pub listing_proper : (s : List ℕ) (ref room : ℕ) → Proper 1 (listing_of s ref room)
unfolding listing_of listing_at
listing_proper s ref room = opened_proper 1 s _ (proper_unless 1 _ _ _ (proper_grant 1 _))

pub head_proper : (s : List ℕ) (ref room : ℕ) → Proper 12 (head_within s ref room)
unfolding head_within head_at
head_proper s ref room = opened_proper 12 s _ (record_proper 12 s _ _ _ (λ at e. proper_room 12 _ _ (proper_grant 12 _)))

pub value_proper : (s : List ℕ) (ref r i c : ℕ) → Proper 2 (value_of s ref r i c)
unfolding value_of value_found value_after
value_proper s ref r i c =
    opened_proper 2 s _ (record_proper 2 s _ _ _ (λ at e. proper_unless 2 _ 0 _ (record_proper 2 s _ _ _ (λ at v. proper_grant 2 _))))

given_proper : (s e : List ℕ) (values : Hit) (i room n : ℕ) → Proper 2 (column_given s e values i room n)
unfolding column_given
given_proper s e values i room zero = proper_grant 2 _
given_proper s e values i room (suc n) = record_proper 2 s _ _ _ (λ at v. proper_room 2 _ _ (proper_grant 2 _))

pub column_proper : (s : List ℕ) (ref i c room : ℕ) → Proper 2 (column_of s ref i c room)
unfolding column_of column_found column_after
column_proper s ref i c room = opened_proper 2 s _ (record_proper 2 s _ _ _ (λ at e. proper_unless 2 _ 0 _ (given_proper s e _ i room _)))

-- ---- Edits and undo

outcome_proper : (o : Outcome) → Positive o → Proper 1 (outcome_answer o)
outcome_proper (granted file) h = proper_grant 1 _
outcome_proper (refused number place) h = proper_refuse 1 number place (h.told number place refl)

module _ (buffer : List ℕ) (n desk tag ref : ℕ) where
  pub add_proper : (content : List ℕ) → Proper 1 (outcome_answer (add_in buffer n desk tag ref content))
  add_proper content = outcome_proper _ (add_positive buffer n desk tag ref content)

  pub replace_proper : (content : List ℕ) → Proper 1 (outcome_answer (replace_in buffer n desk tag ref content))
  replace_proper content = outcome_proper _ (replace_positive buffer n desk tag ref content)

  pub remove_proper : Proper 1 (outcome_answer (remove_in buffer n desk tag ref))
  remove_proper = outcome_proper _ (remove_positive buffer n desk tag ref)

pub undo_proper : (buffer : List ℕ) (n desk : ℕ) → Proper 1 (outcome_answer (undo_in buffer n desk))
undo_proper buffer n desk = outcome_proper _ (undo_positive buffer n desk)
