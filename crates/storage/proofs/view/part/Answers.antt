-- `storage::view::part` meets its contract. Assumes nothing.
use mathlib.Core.Path.{sym, ap, ◌∙◌}
use Rattle.wire.specs.Numbers.{part}
use Rattle.storage.specs.Views.{viewed_numbers}
use Rattle.storage.proofs.Views
use Rattle.storage.proofs.view.part.Goals as goal

pub returns-in-Ok : goal.returns-in-Ok
returns-in-Ok c = c.bytes.ensures ∙ sym (Views.bytes_granted _ _ _ _ (sym c.numbers.ensures ∙ ap viewed_numbers c.in-Ok.is))

pub returns-in-Err : goal.returns-in-Err
unfolding part
returns-in-Err c = c.part.ensures ∙ sym (Views.bytes_refused _ _ c.in-Err.field-0 (sym c.numbers.ensures ∙ ap viewed_numbers c.in-Err.is))
