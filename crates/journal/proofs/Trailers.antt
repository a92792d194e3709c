-- The laws of trailers, of either form: their fields one by one, read where they were appended, the image that carries one, and old bytes. Assumes
-- nothing.
use Prim.Native.Nat.{ℕ, ◌+◌, ◌-◌, ◌^◌, ◌<◌, ◌≤◌}
use native.Mathlib.Nat.{add_assoc}
use native.Mathlib.Omega.{arith}
use mathlib.Core.Path.{◌≡◌, refl, sym, ap, ◌∙◌}
use mathlib.Core.Logic.{◌↔◌, ◌⊎◌, inl, inr}
use mathlib.Core.List.{List, [], ◌++◌, append_assoc, append-nil}
use mathlib.Core.Bool.{Bool, true, false}
use lib.ListN.{length, get_or, length-append}
use lib.Dec.{leb, eqb}
use borrow.Author.Tests.{le-leb, lt-leb, leb-true, eqb-true, eq-eqb, ne_eqb}
use Rattle.std.specs.Prelude.{Option, Some, None}
use Rattle.wire.specs.Numbers.{be, bytes, put, part, Bytes}
use Rattle.wire.specs.declared.ByteOrder.TheVariants.{BigEndian}
use Rattle.wire.specs.Layouts.{end, number, read, pack, given, numbers, Fits}
use Rattle.wire.proofs.Numbers.{length_bytes, number_small, bytes_of_number, part_add}
use Rattle.wire.proofs.Layouts.{put_field, PackedAt, packed_at}
use Rattle.answer.proofs.Tests.{test, fails, and_both, and_split, on_true, on_false}
use Rattle.directory.specs.Limits.{most_bytes}
use Rattle.journal.specs.Trailers.{form_size, form_closing, least_before, slot_size, link_size, desk_then, trailer, closing_numbers, trailer_numbers, trailer_at, trailer_bytes, carries, carried_by, counts_form, previous_at, previous_of, Author, unnamed, named, form_of, desk_of, trailer_size, past_first, change_at, trailer_of, old_bytes}
use Rattle.journal.specs.History.{IsAuthor}
use Rattle.journal.specs.Steps.Restores.{desk_at}
use Rattle.journal.specs.declared.change.Change.{Change}
use Rattle.journal.specs.declared.change.Form.{Form}
use Rattle.journal.specs.declared.change.Form.TheVariants.{Old, Long}

-- ---- Sizes and fields

pub size_small : (form : Form) → form_size form ≤ 36
size_small Old = omega arith
size_small Long = omega arith

pub trailer_fields : (form : Form) (s : List ℕ) (t : ℕ)
    → trailer_at form s t ≡ record {
      place = be 4 s t;
      altered = be 4 s (t + 4);
      first = be 4 s (t + 8);
      second = be 4 s (t + 12);
      third = be 4 s (t + 16);
      before = be 4 s (t + 20);
      previous = be 4 s (t + 24);
      desk = desk_at form s t;
    }
unfolding trailer_at read desk_at
trailer_fields Old s t = simp add_assoc
trailer_fields Long s t = simp add_assoc

pub place_small : (form : Form) (s : List ℕ) (t : ℕ) → Bytes s → (c : Change) → c ≡ trailer_at form s t → c.place < 4294967296
place_small form s t all c is = rw (ap (λ x. x.place) (is ∙ trailer_fields form s t)) (number_small BigEndian 4 s t all)

pub length_trailer : (form : Form) (c : Change) → length (trailer_bytes form c) ≡ form_size form
unfolding trailer_bytes pack
length_trailer Old c = simp (length-append, length_bytes)
length_trailer Long c = simp (length-append, length_bytes)

put_none : (l : List ℕ) (at : ℕ) → put l at [] ≡ l
unfolding put
put_none l at = refl

-- written one after the other
pub trailer_run : (l : List ℕ) (at : ℕ) (c : Change) {l₁ l₂ l₃ l₄ l₅ l₆ l₇ l₈ l₉ : List ℕ}
    → l₁ ≡ put l at (bytes 4 c.place) → l₂ ≡ put l₁ (at + 4) (bytes 4 c.altered) → l₃ ≡ put l₂ (at + 8) (bytes 4 c.first)
    → l₄ ≡ put l₃ (at + 12) (bytes 4 c.second) → l₅ ≡ put l₄ (at + 16) (bytes 4 c.third) → l₆ ≡ put l₅ (at + 20) (bytes 4 c.before)
    → l₇ ≡ put l₆ (at + 24) (bytes 4 c.previous) → l₈ ≡ put l₇ (at + 28) (bytes 4 c.desk) → l₉ ≡ put l₈ (at + 32) (bytes 4 (form_closing Long))
    → l₉ ≡ put l at (trailer_bytes Long c)
unfolding trailer_bytes pack
trailer_run l at c e₁ e₂ e₃ e₄ e₅ e₆ e₇ e₈ e₉ = rw (e₉, e₈, e₇, e₆, e₅, e₄, e₃, e₂, e₁) (simp (put_field, put_none, add_assoc))

-- ---- The image that carries one

-- of a form
module _ (form : Form) (s : List ℕ) where
  pub carries_short : length s < least_before + form_size form → carries form s ≡ false
  unfolding carries
  carries_short h = rw (carries, lt-leb _ _ h)

  pub carries_long : least_before + form_size form ≤ length s → carries form s ≡ eqb (be 4 s (length s - 4)) (form_closing form)
  unfolding carries
  carries_long h = rw (carries, le-leb _ _ h)

  pub carries_is : (carries form s ≡ true) ↔ ((least_before + form_size form ≤ length s) × (be 4 s (length s - 4) ≡ form_closing form))
  unfolding carries
  carries_is = (
    (λ e. let h = and_split (leb (least_before + form_size form) (length s)) (eqb (be 4 s (length s - 4)) (form_closing form)) e in
        (leb-true _ _ h.0, eqb-true (be 4 s (length s - 4)) (form_closing form) h.1)),
    (λ h. and_both _ _ (le-leb _ _ h.0) (eq-eqb (be 4 s (length s - 4)) (form_closing form) h.1)),
  )

-- the closing bytes of the two forms differ
pub not_both_forms : (n : ℕ) → n ≡ form_closing Old → n ≡ form_closing Long → ⊥
not_both_forms n old long = omega arith

only_old : (s : List ℕ) → carries Old s ≡ true → carries Long s ≡ false
only_old s h = fails (carries Long s) (λ l. not_both_forms _ ((carries_is Old s).0 h).1 ((carries_is Long s).0 l).1)

-- which it is, by both tests
pub ending_long : (s : List ℕ) → carries Long s ≡ true → carried_by s ≡ Some Long
unfolding carried_by
ending_long s h = rw (carried_by, h)

pub ending_old : (s : List ℕ) → carries Long s ≡ false → carries Old s ≡ true → carried_by s ≡ Some Old
unfolding carried_by
ending_old s h g = rw (carried_by, h, g)

pub ending_none : (s : List ℕ) → carries Long s ≡ false → carries Old s ≡ false → carried_by s ≡ None
unfolding carried_by
ending_none s h g = rw (carried_by, h, g)

-- by the one of its form
pub ending_by : (form : Form) (s : List ℕ) → carries form s ≡ true → carried_by s ≡ Some form
ending_by Old s h = ending_old s (only_old s h) h
ending_by Long s h = ending_long s h

-- and what it tells
pub record Ends (s : List ℕ) (ending : Option Form) : Type 0 where
  pub of_form : (form : Form) → ending ≡ Some form → carries form s ≡ true
  pub of_none : ending ≡ None → (form : Form) → carries form s ≡ false

ends : (s : List ℕ) → Ends s (carried_by s)
ends s = elim (test (carries Long s)) [
  | inl h ↦ rw (ending_long s h) (record { of_form = λ form e. rw (← same_form Long form e) h; of_none = λ e. absurd (no_form Long e) })
  | inr h ↦ elim (test (carries Old s)) [
    | inl g ↦ rw (ending_old s h g) (record { of_form = λ form e. rw (← same_form Old form e) g; of_none = λ e. absurd (no_form Old e) })
    | inr g ↦ rw (ending_none s h g) (record { of_form = λ form e. absurd (no_form form (sym e)); of_none = λ e. each h g })
  ]
]
  where
    no_form : (form : Form) → Some form ≡ None → ⊥
    no_form form e = let z : ◌≡◌ {A = ℕ} 0 1 = cc in omega arith

    same_form : (a b : Form) → Some a ≡ Some b → a ≡ b
    same_form a b e = cc

    each : carries Long s ≡ false → carries Old s ≡ false → (form : Form) → carries form s ≡ false
    each h g Old = g
    each h g Long = h

pub ending_carries : (form : Form) (s : List ℕ) → carried_by s ≡ Some form → carries form s ≡ true
ending_carries form s e = (ends s).of_form form e

pub ending_nothing : (s : List ℕ) → carried_by s ≡ None → (form : Form) → carries form s ≡ false
ending_nothing s e = (ends s).of_none e

pub ending_least : (form : Form) (s : List ℕ) → carried_by s ≡ Some form → least_before + form_size form ≤ length s
ending_least form s e = ((carries_is form s).0 (ending_carries form s e)).0

-- ---- The previous trailer

module _ (form : Form) (s : List ℕ) where
  pub previous_none : carried_by s ≡ None → previous_of form s ≡ 0
  unfolding previous_of previous_at
  previous_none e = rw (previous_of, e)

  module _ (there : Form) (e : carried_by s ≡ Some there) where
    pub previous_there : counts_form form there ≡ true → previous_of form s ≡ length s - form_size there
    unfolding previous_of previous_at
    previous_there c = ap (previous_at form (length s)) e ∙ on_true (counts_form form there) _ _ c

    pub previous_other : counts_form form there ≡ false → previous_of form s ≡ 0
    unfolding previous_of previous_at
    previous_other c = ap (previous_at form (length s)) e ∙ on_false (counts_form form there) _ _ c

  previous_le : previous_of form s ≤ length s
  unfolding previous_of previous_at
  previous_le = go (carried_by s)
    where
      go : (e : Option Form) → previous_at form (length s) e ≤ length s
      go None = omega arith
      go (Some there) = elim (counts_form form there) as (λ (b : Bool). elim b [ true ↦ length s - form_size there | false ↦ 0 ] ≤ length s) [ true ↦ omega arith | false ↦ omega arith ]

-- ---- Read where it was appended

past_small : (k x : ℕ) → x < 256 ^ 4 → past_first k x < 256 ^ 4
unfolding past_first
past_small k x h = elim (eqb k slot_size) as (λ (b : Bool). elim b [ true ↦ x | false ↦ 0 ] < 256 ^ 4) [ true ↦ h | false ↦ omega arith ]

-- packed at any place
packed_same : (form : Form) (c : Change) (at : ℕ) → trailer_bytes form c ≡ pack (trailer form) (trailer_numbers form c) at
unfolding trailer_bytes pack
packed_same Old c at = refl
packed_same Long c at = refl

-- the desk of the long form, and the closing bytes
closing_fits : (author : Author) → IsAuthor author → (make : ℕ → ℕ → Change) (at : ℕ)
    → Fits (desk_then (form_of author) (λ desk. number 4 (λ close. end (make desk)))) (closing_numbers (form_of author) (desk_of author)) at
closing_fits unnamed is make at = (omega arith, omega arith, refl)
closing_fits (named desk) is make at = (omega arith, is, (omega arith, omega arith, refl))

closing_at : (form : Form) (c : Change) (t : List ℕ) (at last : ℕ) → numbers (trailer form) t at ≡ trailer_numbers form c → last + 4 ≡ at + form_size form
    → be 4 t last ≡ form_closing form
unfolding numbers
closing_at Old c t at last e h =
    let there : at + 4 + 4 + 4 + 4 + 4 + 4 + 4 ≡ last = omega arith in
    rw there at (ap (λ xs. get_or xs 7 0) e)
closing_at Long c t at last e h =
    let there : at + 4 + 4 + 4 + 4 + 4 + 4 + 4 + 4 ≡ last = omega arith in
    rw there at (ap (λ xs. get_or xs 8 0) e)

module _ (s : List ℕ) (all : Bytes s) (short : length s ≤ most_bytes) (p k : ℕ) (inside : p ≤ length s) (few : k ≤ slot_size) where
  change_fits : (author : Author) → IsAuthor author → (at : ℕ) → Fits (trailer (form_of author)) (trailer_numbers (form_of author) (change_at s author p k)) at
  change_fits author is at = (
    omega arith,
    omega arith,
    (
      omega arith,
      omega arith,
      (
        omega arith,
        number_small BigEndian 4 s p all,
        (
          omega arith,
          past_small k _ (number_small BigEndian 4 s (p + 4) all),
          (
            omega arith,
            past_small k _ (number_small BigEndian 4 s (p + 8) all),
            (
              omega arith,
              omega arith,
              (omega arith, omega (arith, previous_le (form_of author) s), closing_fits author is _ _),
            ),
          ),
        ),
      ),
    ),
  )

  -- behind any bytes
  module _ (author : Author) (is : IsAuthor author) (front : List ℕ) (at : ℕ) (n : length front ≡ at) where
    packed : PackedAt (trailer (form_of author)) (trailer_numbers (form_of author) (change_at s author p k)) (front ++ trailer_of s author p k) at
    packed =
        packed_at (trailer (form_of author)) (trailer_numbers (form_of author) (change_at s author p k)) at (change_fits author is at) front [] _ n
        (ap (λ x. front ++ x) (packed_same (form_of author) (change_at s author p k) at ∙ sym (append-nil _)))

    pub trailer_read : trailer_at (form_of author) (front ++ trailer_of s author p k) at ≡ change_at s author p k
    unfolding trailer_at given
    trailer_read = packed.read_is ∙ go author
      where
        go : (a : Author) → given (trailer (form_of a)) (trailer_numbers (form_of a) (change_at s a p k)) at ≡ change_at s a p k
        go unnamed = refl
        go (named desk) = refl

    pub trailer_ending : 10 ≤ at → carried_by (front ++ trailer_of s author p k) ≡ Some (form_of author)
    trailer_ending ten =
        let t = front ++ trailer_of s author p k in
        let size : length t ≡ at + trailer_size author = length-append front (trailer_of s author p k) ∙ rw (n, length_trailer) in
        ending_by (form_of author) t ((carries_is (form_of author) t).1 (
          omega arith,
          closing_at (form_of author) (change_at s author p k) t at (length t - 4) packed.numbers_are (omega arith),
        ))

-- ---- Old bytes

pub slot_old : (s : List ℕ) (p : ℕ) → Bytes s → p + slot_size ≤ length s → bytes 4 (be 4 s p) ++ bytes 4 (be 4 s (p + 4)) ++ bytes 4 (be 4 s (p + 8)) ≡ part s p slot_size
slot_old s p b h =
    let two : part s p 8 ≡ part s p 4 ++ part s (p + 4) 4 = part_add s p 4 4 in
    let three : part s p 12 ≡ part s p 8 ++ part s (p + 8) 4 = part_add s p 8 4 in
    rw (bytes_of_number BigEndian 4 s p b (omega arith), bytes_of_number BigEndian 4 s (p + 4) b (omega arith), bytes_of_number BigEndian 4 s (p + 8) b (omega arith)) (sym (three ∙ ap (λ x. x ++ part s (p + 8) 4) two))

-- a slot or a next field was altered
abbrev pub Sized : ℕ → Type 0
Sized k = (k ≡ slot_size) ⊎ (k ≡ link_size)

-- what a change of s records is what stands there
pub old_there : (s : List ℕ) (author : Author) (p k : ℕ) → Bytes s → p + k ≤ length s → Sized k → old_bytes (change_at s author p k) ≡ part s p k
unfolding old_bytes past_first
old_there s author p k b h (inl e) = ap (λ x. old_bytes (change_at s author p x)) e ∙ slot_old s p b (omega arith) ∙ ap (part s p) (sym e)
old_there s author p k b h (inr e) = ap (λ x. old_bytes (change_at s author p x)) e ∙ bytes_of_number BigEndian 4 s p b (omega arith) ∙ ap (part s p) (sym e)

pub length_old : (c : Change) → Sized c.altered → length (old_bytes c) ≡ c.altered
unfolding old_bytes
length_old c (inl e) = rw (old_bytes, e) (simp (length-append, length_bytes))
length_old c (inr e) = rw (old_bytes, e) (length_bytes BigEndian 4 c.first)

-- written one after the other
module _ (l : List ℕ) (c : Change) {l₁ : List ℕ} (e₁ : l₁ ≡ put l c.place (bytes 4 c.first)) where
  pub slot_back : {l₂ l₃ : List ℕ} → c.altered ≡ slot_size → l₂ ≡ put l₁ (c.place + 4) (bytes 4 c.second)
      → l₃ ≡ put l₂ (c.place + 8) (bytes 4 c.third) → l₃ ≡ put l c.place (old_bytes c)
  unfolding old_bytes
  slot_back a e₂ e₃ = rw (old_bytes, eq-eqb _ _ a, e₃, e₂, e₁) (simp (append_assoc, put_field, add_assoc))

  pub link_back : (c.altered ≡ slot_size → ⊥) → l₁ ≡ put l c.place (old_bytes c)
  unfolding old_bytes
  link_back a = rw (old_bytes, ne_eqb _ _ a) e₁
