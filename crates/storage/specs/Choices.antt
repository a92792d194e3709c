-- An element's part of one of two images, after document 01, "Reading elements": its today's file is the current image here, its standing
-- file the fallback. Assumes nothing.
use Rattle.std.specs.Prelude.{ℕ, zero, suc, true, false, List, [], ◌∷◌, get_or, Result, Ok, Err}
use Rattle.answer.specs.Answer.{Answer, grant, refusal}
use Rattle.wire.specs.Numbers.{part}
use Rattle.directory.specs.Opening.{opened}
use Rattle.directory.specs.Lookup.{find}
use Rattle.answer.specs.declared.Refusal.{Refusal}
use Rattle.storage.specs.Elements.{Located, element_at, is_absent, plain_only, on_plain}
use Rattle.storage.specs.declared.element.Element.{Element}
use Rattle.storage.specs.declared.choose.Chosen.{Chosen}
use Rattle.storage.specs.declared.choose.Chosen.TheVariants.{Current, Fallback}

-- which image (1 the current one, 2 the fallback), the offset and the length
abbrev pub chosen_numbers : Result Chosen Refusal → Answer
chosen_numbers (Ok (Current x)) = grant (1 ∷ x.offset ∷ x.length ∷ [])
chosen_numbers (Ok (Fallback x)) = grant (2 ∷ x.offset ∷ x.length ∷ [])
chosen_numbers (Err r) = refusal 3 r

-- the part in one image
abbrev pub part_in : ℕ → Located → Answer
part_in which l = on_plain 3 (λ p offset size. grant (which ∷ offset ∷ size ∷ [])) l

-- what the current image has answers, and where it has nothing, what the fallback has
unfoldable pub choose_found : Element → Element → Answer
choose_found current fallback = elim (is_absent current) [ true ↦ part_in 2 (plain_only fallback) | false ↦ part_in 1 (plain_only current) ]

-- both images are opened, the current one first
unfoldable pub choose_of : List ℕ → List ℕ → ℕ → ℕ → Answer
choose_of current fallback tag ref =
    opened 3 current (opened 3 fallback (choose_found (element_at current (find current tag ref)) (element_at fallback (find fallback tag ref))))

-- the bytes that the answer names: none where it refuses
abbrev pub part_of : List ℕ → List ℕ → ℕ → ℕ → ℕ → List ℕ
part_of current fallback zero offset size = []
part_of current fallback (suc zero) offset size = part current offset size
part_of current fallback (suc (suc n)) offset size = part fallback offset size

unfoldable pub chosen_bytes : List ℕ → List ℕ → Answer → List ℕ
chosen_bytes current fallback answer =
    part_of current fallback (get_or answer.values 0 0) (get_or answer.values 1 0) (get_or answer.values 2 0)
