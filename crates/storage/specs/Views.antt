-- A view of an element: its own part of the image, and where that stands, after document 01, "Reading elements". Assumes nothing.
use Rattle.std.specs.Prelude.{ℕ, List, [], ◌∷◌, get_or, Ok, Err}
use Rattle.answer.specs.Answer.{Answer, grant, refusal}
use Rattle.wire.specs.Numbers.{part}
use Rattle.directory.specs.Opening.{opened}
use Rattle.directory.specs.Lookup.{find}
use Rattle.storage.specs.Elements.{Located, located_at, on_plain}

-- a view answers the offset and the length
abbrev pub viewed_numbers : Located → Answer
viewed_numbers (Ok x) = grant (x.offset ∷ x.length ∷ [])
viewed_numbers (Err r) = refusal 2 r

abbrev pub view_at : Located → Answer
view_at l = on_plain 2 (λ p offset size. grant (offset ∷ size ∷ [])) l

unfoldable pub view_of : List ℕ → ℕ → ℕ → Answer
view_of s tag ref = opened 2 s (view_at (located_at s (find s tag ref)))

-- the bytes that a view's answer names: none where it refuses, since its values are then 0
unfoldable pub bytes_of : List ℕ → Answer → List ℕ
bytes_of s answer = part s (get_or answer.values 0 0) (get_or answer.values 1 0)
