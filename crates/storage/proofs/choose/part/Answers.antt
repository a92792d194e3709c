-- `storage::choose::part` meets its contract. Assumes nothing.
use mathlib.Core.Path.{sym, ap, ◌∙◌}
use Rattle.std.specs.Prelude.{Ok}
use Rattle.wire.specs.Numbers.{part}
use Rattle.storage.specs.Choices.{chosen_numbers}
use Rattle.storage.proofs.Choices
use Rattle.storage.proofs.choose.part.Goals as goal

pub returns-in-Ok-Current : goal.returns-in-Ok-Current
returns-in-Ok-Current c =
    let x = c.in-Ok-Current in
    c.bytes.ensures ∙ sym (Choices.bytes_current _ _ _ _ _ (sym c.numbers.ensures ∙ ap chosen_numbers (x.is ∙ ap Ok x.field-0-is)))

pub returns-in-Ok-Fallback : goal.returns-in-Ok-Fallback
returns-in-Ok-Fallback c =
    let x = c.in-Ok-Fallback in
    c.bytes-in-Ok-Fallback.ensures ∙ sym (Choices.bytes_fallback _ _ _ _ _ (sym c.numbers.ensures ∙ ap chosen_numbers (x.is ∙ ap Ok x.field-0-is)))

pub returns-in-Err : goal.returns-in-Err
unfolding part
returns-in-Err c = c.part.ensures ∙ sym (Choices.bytes_neither _ _ _ c.in-Err.field-0 (sym c.numbers.ensures ∙ ap chosen_numbers c.in-Err.is))
