-- `storage::choose::numbers` meets its contract. Assumes nothing.
use mathlib.Core.Path.{◌≡◌, refl, sym, ap, ◌∙◌}
use Rattle.directory.proofs.Opens
use Rattle.storage.specs.Choices.{part_in, choose_of}
use Rattle.storage.proofs.Elements
use Rattle.storage.proofs.Choices
use Rattle.std.proofs.lemmas.Result.{err_from_is_err_and}
use Rattle.storage.proofs.choose.numbers.Goals as goal
use Rattle.storage.proofs.choose.numbers.Goals.{After-locate, After-plain}

pub returns-in_default : goal.returns-in_default
unfolding choose_of
returns-in_default c = sym (Opens.refused_is _ _ c.open-opened.ensures 3 _ _ c.unwrap_err.ensures)

pub returns-in_default-opened_fallback : goal.returns-in_default-opened_fallback
unfolding choose_of
returns-in_default-opened_fallback c =
    let o = Opens.accepted_with _ _ c.open-opened.ensures _ c.in-Ok.is in
    sym (Opens.opened_goes 3 _ _ o.sound ∙ Opens.refused_is _ _ c.open-opened_fallback.ensures 3 _ _ c.unwrap_err-in_default-opened_fallback.ensures)

-- the fallback's part is the answer
fallback : (c : After-locate) → let a = c.args in choose_of a.current.now a.fallback.now a.tag a.reference ≡ part_in 2 c.locate.result
fallback c =
    let o = Opens.accepted_with _ _ c.open-opened.ensures _ c.in-Ok.is in
    let other = Opens.accepted_with _ _ c.open-opened_fallback.ensures _ c.in-Ok-opened_fallback.is in
    let x = c.find-found.ensures ∙ Elements.element_opened _ _ _ _ o in
    Choices.choose_fallback _ _ _ _ o.sound other.sound _ (sym x) (sym c.is_absent.ensures ∙ c.if-is_absent.true) _ refl ∙ sym (ap (part_in 2) (c.locate.ensures ∙ Elements.located_opened _ _ _ _ other))

-- the current image's is
current : (c : After-plain) → let a = c.args in choose_of a.current.now a.fallback.now a.tag a.reference ≡ part_in 1 c.plain.result
current c =
    let o = Opens.accepted_with _ _ c.open-opened.ensures _ c.in-Ok.is in
    let other = Opens.accepted_with _ _ c.open-opened_fallback.ensures _ c.in-Ok-opened_fallback.is in
    let x = c.find-found.ensures ∙ Elements.element_opened _ _ _ _ o in
    Choices.choose_current _ _ _ _ o.sound other.sound _ (sym x) (sym c.is_absent.ensures ∙ c.if-is_absent.false) ∙ sym (ap (part_in 1) c.plain.ensures)

pub returns-in_err-part : goal.returns-in_err-part
returns-in_err-part c =
    let r = c.from_residual in
    let p = err_from_is_err_and r.result r.ensures.1 in
    rw (p.1, p.2) (sym (fallback (goal.at.returns-in_err-part c).After-locate ∙ ap (part_in 2) c.in_err-part.was))

pub returns-in_err-plain : goal.returns-in_err-plain
returns-in_err-plain c =
    let r = c.from_residual-in_err-plain in
    let p = err_from_is_err_and r.result r.ensures.1 in
    rw (p.1, p.2) (sym (current (goal.at.returns-in_err-plain c).After-plain ∙ ap (part_in 1) c.in_err-plain.was))

pub returns-then-is_absent : goal.returns-then-is_absent
returns-then-is_absent c = sym (fallback (goal.at.returns-then-is_absent c).After-locate ∙ ap (part_in 2) c.in_ok-part.was)

pub returns : goal.returns
returns c = sym (current (goal.at.returns c).After-plain ∙ ap (part_in 1) c.in_ok-plain.was)
