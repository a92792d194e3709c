-- `records::dimension::read` meets its contract. Assumes nothing.
use mathlib.Core.Path.{sym, ◌∙◌}
use Rattle.directory.proofs.Opens
use Rattle.records.specs.Dimensions.{dimension_at, dimension_of}
use Rattle.records.proofs.dimension.read.Goals as goal

pub returns-in_default : goal.returns-in_default
unfolding dimension_of
returns-in_default c = sym (Opens.refused_is _ _ c.open-opened.ensures 8 _ _ c.unwrap_err.ensures)

pub returns : goal.returns
unfolding dimension_of
returns c =
    let a = c.args in
    c.read_in.ensures ∙ Opens.opened_answer 8 _ _ a.tag a.reference (Opens.accepted_with _ _ c.open-opened.ensures _ c.in-Ok.is) (dimension_at a.image.now)
