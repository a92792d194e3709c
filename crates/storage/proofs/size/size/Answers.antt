-- `storage::size::size` meets its contract. Assumes nothing.
use mathlib.Core.Path.{◌≡◌, refl, sym, ◌∙◌}
use Rattle.directory.specs.Lookup.{find}
use Rattle.directory.specs.Steps.Opens.{Opens}
use Rattle.directory.proofs.Opens
use Rattle.storage.specs.Elements.{element_at}
use Rattle.storage.specs.Copies.{in_place}
use Rattle.storage.specs.Sizes.{size_of}
use Rattle.storage.proofs.Elements
use Rattle.storage.proofs.Found
use Rattle.storage.proofs.Sizes
use Rattle.storage.proofs.size.size.Goals as goal
use Rattle.storage.proofs.size.size.Goals.{After-find, In-Ok}

-- the image opened, with so many blocks
opens : (c : In-Ok) → Opens c.args.image.now c.in-Ok.counts.blocks
opens c = Opens.accepted_with _ _ c.open-opened.ensures _ c.in-Ok.is

-- what is found there
found : (c : After-find) → let a = c.args in element_at a.image.now (find a.image.now a.tag a.reference) ≡ c.find.result
found c = sym (c.find.ensures ∙ Elements.element_opened _ _ _ _ (Opens.accepted_with _ _ c.open-opened.ensures _ c.in-Ok.is))

pub returns-in_default : goal.returns-in_default
unfolding size_of
returns-in_default c = sym (Opens.refused_is _ _ c.open-opened.ensures 1 _ _ c.unwrap_err.ensures)

pub size_in_blocks-requires : goal.size_in_blocks-requires
size_in_blocks-requires c = Found.extended_low _ (λ i. (c.type_inv.image i).fits) _ _ _ _ c.find.ensures _ c.in-Extended.is

pub returns-in-Absent : goal.returns-in-Absent
returns-in-Absent c =
    rw c.at.ensures
    (sym (Sizes.size_goes _ _ _ (opens (goal.at.returns-in-Absent c).In-Ok).sound _ (found (goal.at.returns-in-Absent c).After-find ∙ c.in-Absent.is)))

pub returns-in-NotStored : goal.returns-in-NotStored
returns-in-NotStored c =
    rw c.at-in-NotStored.ensures
    (sym (Sizes.size_goes _ _ _ (opens (goal.at.returns-in-NotStored c).In-Ok).sound _ (found (goal.at.returns-in-NotStored c).After-find ∙ c.in-NotStored.is)))

pub returns-in-Plain : goal.returns-in-Plain
unfolding in_place
returns-in-Plain c =
    sym (Sizes.size_goes _ _ _ (opens (goal.at.returns-in-Plain c).In-Ok).sound _ (found (goal.at.returns-in-Plain c).After-find ∙ c.in-Plain.is) ∙ Sizes.size_granted _ (in_place _ _ _) refl)

pub returns-in-Extended : goal.returns-in-Extended
returns-in-Extended c =
    c.size_in_blocks.ensures ∙ sym (Sizes.size_goes _ _ _ (opens (goal.at.returns-in-Extended c).In-Ok).sound _ (found (goal.at.returns-in-Extended c).After-find ∙ c.in-Extended.is))
