-- The image in a buffer as calls meet it, and what the steps of an edit come to there. Assumes nothing.
use Rattle.std.specs.Prelude.{ℕ, ◌+◌, ◌≤◌, ◌≡◌, List, [], ◌∷◌, false, length, take, Result, Ok, Err}
use Rattle.answer.specs.Answer.{grant}
use Rattle.answer.specs.Search.{hit, miss}
use Rattle.directory.specs.Opening.{open_of}
use Rattle.directory.specs.Lookup.{find}
use Rattle.journal.specs.Outcomes.{Outcome, refused, opened_to}
use Rattle.journal.specs.Trailers.{named}
use Rattle.journal.specs.Edits.{block_size, data_slot, new_block, slot_edit, block_edit, fitted, bad_tag, tagged, first_free, add_at}
use Rattle.answer.specs.Refusals.{number_of}
use Rattle.answer.specs.declared.Refusal.{Refusal}
use Rattle.directory.specs.declared.Counts.{Counts}
use Rattle.journal.specs.Buffers.{image_in}
use Rattle.journal.specs.declared.Target.{Target}
use Rattle.journal.specs.declared.Target.TheVariants.{Present, Absent}

-- the image that is the first n bytes of a buffer opens, or it is refused whatever the call goes on to
abbrev pub OpensIn : List ℕ → ℕ → Result Counts Refusal → Type 0
OpensIn buffer n (Ok c) = (n ≤ length buffer) × (open_of (take n buffer) ≡ grant (c.blocks ∷ c.slots ∷ c.live ∷ []))
OpensIn buffer n (Err r) = (rest : Outcome) → image_in buffer n (opened_to (take n buffer) rest) ≡ refused (number_of r.rule) r.place

-- an image that opens, and a tag that edits take
pub record Editable (buffer : List ℕ) (n tag : ℕ) : Type 0 where
  pub fits : n ≤ length buffer
  pub opens : (open_of (take n buffer)).number ≡ 0
  pub good : bad_tag tag ≡ false

-- what an edit of a tag and a reference meets there: a refusal whatever comes after, the slot, or none
abbrev pub Targets : List ℕ → ℕ → ℕ → ℕ → Result Target Refusal → Type 0
Targets buffer n tag ref (Err r) = (rest : Outcome) → image_in buffer n (tagged (take n buffer) tag rest) ≡ refused (number_of r.rule) r.place
Targets buffer n tag ref (Ok (Present p)) = Editable buffer n tag × (find (take n buffer) tag ref ≡ hit p)
Targets buffer n tag ref (Ok (Absent c)) =
    Editable buffer n tag × (find (take n buffer) tag ref ≡ miss) × (open_of (take n buffer) ≡ grant (c.blocks ∷ c.slots ∷ c.live ∷ []))

-- in such a buffer, for a desk: data behind it for the slot at p, a block behind it linked from the one at b, and a slot
-- for an element that is absent
abbrev pub slot_in : List ℕ → ℕ → ℕ → ℕ → ℕ → ℕ → List ℕ → Outcome
slot_in buffer n p desk tag ref content = fitted (length buffer) (slot_edit (take n buffer) (named desk) p (data_slot tag ref content n) content)

abbrev pub block_in : List ℕ → ℕ → ℕ → ℕ → ℕ → ℕ → List ℕ → Outcome
block_in buffer n b desk tag ref content =
    fitted (length buffer) (block_edit (take n buffer) (named desk) b (new_block (data_slot tag ref content (n + block_size))) content)

abbrev pub new_in : List ℕ → ℕ → ℕ → ℕ → ℕ → List ℕ → Outcome
new_in buffer n desk tag ref content = add_at (take n buffer) (length buffer) (named desk) tag ref content (first_free (take n buffer))
