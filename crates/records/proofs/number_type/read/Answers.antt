-- `records::number_type::read` meets its contract. Assumes nothing.
use mathlib.Core.Path.{sym, ◌∙◌}
use Rattle.directory.proofs.Opens
use Rattle.records.specs.Limits.{number_type_tag}
use Rattle.records.specs.NumberTypes.{number_type_at, number_type_of}
use Rattle.records.proofs.number_type.read.Goals as goal

pub returns-in_default : goal.returns-in_default
unfolding number_type_of
returns-in_default c = sym (Opens.refused_is _ _ c.open-opened.ensures 4 _ _ c.unwrap_err.ensures)

pub returns : goal.returns
unfolding number_type_of
returns c =
    let a = c.args in
    c.read_in.ensures ∙ Opens.opened_answer 4 _ _ number_type_tag a.reference (Opens.accepted_with _ _ c.open-opened.ensures _ c.in-Ok.is) (number_type_at a.image.now)
