-- What undo reads of a trailer, and what it has found out before it puts old bytes back. Assumes nothing.
use Rattle.std.specs.Prelude.{ℕ, ◌+◌, ◌-◌, ◌≤◌, ◌≡◌, List, true, length, take, Some}
use Rattle.wire.specs.Numbers.{be}
use Rattle.directory.specs.Opening.{open_of}
use Rattle.journal.specs.Trailers.{form_size, trailer_at, carried_by, named, change_at}
use Rattle.journal.specs.Undos.{known}
use Rattle.journal.specs.declared.change.Change.{Change}
use Rattle.journal.specs.declared.change.Form.{Form}
use Rattle.journal.specs.declared.change.Form.TheVariants.{Old, Long}

-- the desk of a trailer at t
unfoldable pub desk_at : Form → List ℕ → ℕ → ℕ
desk_at Old s t = 0
desk_at Long s t = be 4 s (t + 28)

-- the image opens and carries a trailer of a form
pub record Trailed (buffer : List ℕ) (n : ℕ) (form : Form) : Type 0 where
  pub fits : n ≤ length buffer
  pub opens : (open_of (take n buffer)).number ≡ 0
  pub ending : carried_by (take n buffer) ≡ Some form

-- which records the change
pub record Carrying (buffer : List ℕ) (n : ℕ) (form : Form) (change : Change) : Type 0 where
  pub trailed : Trailed buffer n form
  pub is : change ≡ trailer_at form (take n buffer) (n - form_size form)

-- its place is known; and the present bytes at that place
pub record Restorable (buffer : List ℕ) (n : ℕ) (form : Form) (present change : Change) : Type 0 where
  pub trail : Carrying buffer n form change
  pub placed : known (take n buffer) (n - form_size form) change ≡ true
  pub desk : ℕ
  pub now : present ≡ change_at (take n buffer) (named desk) change.place change.altered
