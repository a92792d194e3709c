-- `storage::copy::copy` meets its contract. Assumes nothing.
use mathlib.Core.Path.{◌≡◌, refl, sym, ap, ◌∙◌}
use Rattle.answer.specs.declared.Refusal.{Refusal}
use Rattle.answer.specs.declared.refusals.Rule.TheVariants.{Absent, NotStored, Small}
use Rattle.answer.proofs.Answer
use Rattle.answer.proofs.Lent
use Rattle.wire.specs.Numbers.{put}
use Rattle.directory.specs.Lookup.{find}
use Rattle.directory.specs.Steps.Opens.{Opens}
use Rattle.directory.proofs.Opens
use Rattle.storage.specs.Elements.{element_at}
use Rattle.storage.specs.Copies.{copy_of}
use Rattle.storage.proofs.Elements
use Rattle.storage.proofs.Found
use Rattle.storage.proofs.Copies
use Rattle.storage.proofs.copy.copy.Goals as goal
use Rattle.storage.proofs.copy.copy.Goals.{After-find, In-Ok}

-- the image opened, with so many blocks
opens : (c : In-Ok) → Opens c.args.image.now c.in-Ok.counts.blocks
opens c = Opens.accepted_with _ _ c.open-opened.ensures _ c.in-Ok.is

-- what is found there
found : (c : After-find) → let a = c.args in element_at a.image.now (find a.image.now a.tag a.reference) ≡ c.find.result
found c = sym (c.find.ensures ∙ Elements.element_opened _ _ _ _ (Opens.accepted_with _ _ c.open-opened.ensures _ c.in-Ok.is))

pub returns-in_default : goal.returns-in_default
unfolding copy_of
returns-in_default c =
    rw c.from.ensures
    (Lent.restated (Answer.carrying_zero 1 _) (Opens.unopened_does _ _ c.open-opened.ensures 2 _ _ _ _ c.unwrap_err.ensures))

pub copy_blocks-requires : goal.copy_blocks-requires
copy_blocks-requires c =
    let low = Found.extended_low _ (λ i. (c.type_inv.image i).fits) _ _ _ _ c.find.ensures _ c.in-Extended.is in
    (opens (goal.at.copy_blocks-requires c).In-Ok, low.0, low.1)

pub returns-in-Absent : goal.returns-in-Absent
returns-in-Absent c =
    let g = goal.at.returns-in-Absent c in
    rw (c.from-in-Absent.ensures, c.at.ensures)
    (Lent.restated (Answer.carrying_zero 1 (record { rule = Absent; place = 0 }))
    (Copies.copied _ _ _ (opens g.In-Ok).sound _ (found g.After-find ∙ c.in-Absent.is) _ _ _ (Lent.refuses _ _ _ 2 (record { rule = Absent; place = 0 }) refl)))

pub returns-in-NotStored : goal.returns-in-NotStored
returns-in-NotStored c =
    let g = goal.at.returns-in-NotStored c in
    let x : Refusal = record { rule = NotStored; place = c.in-NotStored.slot } in
    rw (c.from-in-NotStored.ensures, c.at-in-NotStored.ensures)
    (Lent.restated (Answer.carrying_zero 1 x)
    (Copies.copied _ _ _ (opens g.In-Ok).sound _ (found g.After-find ∙ c.in-NotStored.is) _ _ _ (Lent.refuses _ _ _ 2 x refl)))

pub returns-in-Extended : goal.returns-in-Extended
returns-in-Extended c =
    Copies.copied _ _ _ (opens (goal.at.returns-in-Extended c).In-Ok).sound _ (found (goal.at.returns-in-Extended c).After-find ∙ c.in-Extended.is) _ _ _ c.copy_blocks.ensures

pub returns-then-out-part : goal.returns-then-out-part
returns-then-out-part c =
    let g = goal.at.returns-then-out-part c in
    rw (c.from-then-out-part.ensures, c.at-then-out-part.ensures)
    (Lent.restated (Answer.carrying_zero 1 (record { rule = Small; place = 0 }))
    (Copies.copied _ _ _ (opens g.In-Ok).sound _ (found g.After-find ∙ c.in-Plain.is) _ _ _ (Copies.plain_small _ _ _ _ _ c.if-out-part.true)))

pub returns-else-out-part : goal.returns-else-out-part
returns-else-out-part c =
    let g = goal.at.returns-else-out-part c in
    let f = found g.After-find ∙ c.in-Plain.is in
    let o = (opens g.In-Ok).sound in
    Copies.copied _ _ _ o _ f _ _ _ (Copies.plain_granted _ _ _ _ _ c.if-out-part.false (Elements.found_plain _ _ _ _ _ _ o f).long _ (c.write_bytes.ensures ∙ ap (put _ 0) c.bytes.ensures))
