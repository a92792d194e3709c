-- What the functions behind the calls take and leave. Assumes nothing.
use Rattle.std.specs.Prelude.{ℕ, ◌*◌, ◌≡◌, List, length, Result, Ok, Err}
use Rattle.wire.specs.Numbers.{put}
use Rattle.wire.specs.Layouts.{read}
use Rattle.answer.specs.declared.Refusal.{Refusal}
use Rattle.answer.specs.Refusals.{number_of}
use Rattle.answer.specs.Search.{Hit}
use Rattle.storage.specs.Elements.{start_of}
use Rattle.records.specs.Readings.{record_bytes}
use Rattle.vgroup.specs.Groups.{group}
use Rattle.vgroup.specs.declared.group.Placed.{Placed}
use Rattle.vgroup.specs.Listings.{Listing}

-- what is read of a group that was found: where its record starts, and all that it is read as
abbrev pub Held : List ℕ → Hit → Result Placed Refusal → Type 0
Held s found (Ok x) = (start_of s found ≡ x.start) × (x.group ≡ read group (record_bytes s found) 0)
Held s found (Err r) = Unit {0}

-- what a walk answers: how many pairs it listed, or why it was refused
abbrev pub Tells : Listing → Result ℕ Refusal → Type 0
Tells l (Ok n) = (l.number ≡ 0) × (2 * n ≡ length l.pairs)
Tells l (Err r) = (l.number ≡ number_of r.rule) × (l.place ≡ r.place)

-- a walk over the members of a group, into a table from a place on
pub record Walks (l : Listing) (at : ℕ) (table after : List ℕ) (r : Result ℕ Refusal) : Type 0 where
  pub tells : Tells l r
  pub leaves : after ≡ put table at l.pairs
