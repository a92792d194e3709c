-- The trailer (an undo record at the end of the file), after document 01, "Edits and the trailer", and document 02 (viii). Assumes nothing.
use Rattle.std.specs.Prelude.{ℕ, ◌+◌, ◌-◌, List, [], ◌∷◌, ◌++◌, Bool, true, false, ◌&&◌, length, leb, eqb, Option, Some, None}
use Rattle.wire.specs.Numbers.{be, bytes}
use Rattle.wire.specs.Layouts.{Layout, end, number, read, pack}
use Rattle.journal.specs.declared.change.Change.{Change}
use Rattle.journal.specs.declared.change.Form.{Form}
use Rattle.journal.specs.declared.change.Form.TheVariants.{Old, Long}

-- ---- Its two forms: the old one, and the long one, which names a desk

abbrev pub form_size : Form → ℕ
form_size Old = 32
form_size Long = 36

-- 42 41 43 4b, and 42 41 43 32
abbrev pub form_closing : Form → ℕ
form_closing Old = 0x4241434b
form_closing Long = 0x42414332

-- the header and an empty block stand before it in the shortest image that carries one
abbrev pub least_before : ℕ
least_before = 10

-- how many bytes of the directory a change alters: a slot, or a next field
abbrev pub slot_size : ℕ
slot_size = 12

abbrev pub link_size : ℕ
link_size = 4

-- ---- Its fields

-- the desk, in the long form; an old trailer is desk 0's
abbrev pub desk_then : Form → (ℕ → Layout Change) → Layout Change
desk_then Old rest = rest 0
desk_then Long rest = number 4 rest

-- place altered, bytes altered, old bytes (12, zero-padded) as three numbers, image length before, place of the previous trailer or 0,
-- desk, closing bytes
abbrev pub trailer : Form → Layout Change
trailer form =
    number 4 (λ place. number 4 (λ altered. number 4 (λ first. number 4 (λ second. number 4 (λ third.
    number 4 (λ before. number 4 (λ previous. desk_then form (λ desk. number 4 (λ close. end (λ past.
    record { place = place; altered = altered; first = first; second = second; third = third; before = before; previous = previous; desk = desk }))))))))))

abbrev pub closing_numbers : Form → ℕ → List ℕ
closing_numbers Old desk = form_closing Old ∷ []
closing_numbers Long desk = desk ∷ form_closing Long ∷ []

abbrev pub trailer_numbers : Form → Change → List ℕ
trailer_numbers form c =
    c.place ∷ c.altered ∷ c.first ∷ c.second ∷ c.third ∷ c.before ∷ c.previous ∷ closing_numbers form c.desk

-- the change that a trailer at t records
unfoldable pub trailer_at : Form → List ℕ → ℕ → Change
trailer_at form s t = read (trailer form) s t

unfoldable pub trailer_bytes : Form → Change → List ℕ
trailer_bytes form c = pack (trailer form) (trailer_numbers form c) 0

-- ---- The trailer of an image

-- it is long enough for a trailer of the form, and ends in its closing bytes
unfoldable pub carries : Form → List ℕ → Bool
carries form s = leb (least_before + form_size form) (length s) && eqb (be 4 s (length s - 4)) (form_closing form)

unfoldable pub carried_by : List ℕ → Option Form
carried_by s =
    elim (carries Long s) [
      | true ↦ Some Long
      | false ↦ elim (carries Old s) [ true ↦ Some Old | false ↦ None ]
    ]

-- an old trailer's previous counts only an old one
abbrev pub counts_form : Form → Form → Bool
counts_form Long there = true
counts_form Old Old = true
counts_form Old Long = false

-- the previous trailer, as a trailer of a form behind n bytes names it: its place, or 0
unfoldable pub previous_at : Form → ℕ → Option Form → ℕ
previous_at form n None = 0
previous_at form n (Some there) = elim (counts_form form there) [ true ↦ n - form_size there | false ↦ 0 ]

unfoldable pub previous_of : Form → List ℕ → ℕ
previous_of form s = previous_at form (length s) (carried_by s)

-- ---- What an edit records

-- whose an edit is: one that named no desk has a trailer of the old form, and counts as desk 0's
pub data Author : Type 0 where
  unnamed : Author
  named : ℕ → Author

abbrev pub form_of : Author → Form
form_of unnamed = Old
form_of (named desk) = Long

abbrev pub desk_of : Author → ℕ
desk_of unnamed = 0
desk_of (named desk) = desk

abbrev pub trailer_size : Author → ℕ
trailer_size author = form_size (form_of author)

-- a number of the old bytes past the first: 0 in a next field
unfoldable pub past_first : ℕ → ℕ → ℕ
past_first altered x = elim (eqb altered slot_size) [ true ↦ x | false ↦ 0 ]

-- what an edit that alters a slot or a next field of s records
abbrev pub change_at : List ℕ → Author → ℕ → ℕ → Change
change_at s author place altered =
    record {
      place = place;
      altered = altered;
      first = be 4 s place;
      second = past_first altered (be 4 s (place + 4));
      third = past_first altered (be 4 s (place + 8));
      before = length s;
      previous = previous_of (form_of author) s;
      desk = desk_of author;
    }

-- the trailer of an edit
abbrev pub trailer_of : List ℕ → Author → ℕ → ℕ → List ℕ
trailer_of s author place altered = trailer_bytes (form_of author) (change_at s author place altered)

-- the old bytes, as many as were altered
unfoldable pub old_bytes : Change → List ℕ
old_bytes c =
    elim (eqb c.altered slot_size) [
      | true ↦ bytes 4 c.first ++ bytes 4 c.second ++ bytes 4 c.third
      | false ↦ bytes 4 c.first
    ]
