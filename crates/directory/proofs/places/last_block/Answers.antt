-- `directory::places::last_block` meets its contract. Assumes nothing.
use mathlib.Core.Path.{ap, ◌∙◌}
use Rattle.std.specs.Option.{unwrap_or}
use Rattle.directory.proofs.Walks
use Rattle.directory.proofs.places.last_block.Goals as goal

pub returns : goal.returns
returns c =
    let r = c.last.ensures.ran in
    c.unwrap_or.ensures ∙ ap (λ o. unwrap_or o 4) r.2 ∙ Walks.last_comes _ _ _ c.of.ensures r.0 r.1
