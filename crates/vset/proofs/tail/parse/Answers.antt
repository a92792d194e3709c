-- `vset::tail::parse` meets its contract. Assumes nothing.
use mathlib.Core.Path.{ap, ◌∙◌}
use Rattle.wire.specs.Layouts.{read}
use Rattle.vset.specs.Tails.{tail}
use Rattle.vset.proofs.Tails
use Rattle.vset.proofs.tail.parse.Goals as goal

pub returns : goal.returns
returns c =
    Tails.tail_reads _ _ _ _ _ _ _ _ c.read16-name_length.ensures c.read16-class_length.ensures c.read16.ensures c.read16-2.ensures c.read16-3.ensures c.read16-4.ensures
    ∙ ap (read (tail (λ t. t)) c.args.part.now) c.skip_names-at.ensures.0
