-- `directory::chain::seen` meets its contract. Assumes nothing.
use mathlib.Core.Path.{◌∙◌}
use lib.Dec.{eqb}
use Rattle.std.proofs.Common.{rules, tests}
use Rattle.std.proofs.lemmas.Iterator.Search.{any_from_yields_List}
use Rattle.directory.proofs.Walks
use Rattle.directory.proofs.chain.seen.Goals as goal

pub returns : goal.returns
returns c = any_from_yields_List (eqb c.args.at) c.any.new.self _ _ c.any.ensures.ran (Walks.blocks_come _ _ c.of.ensures) (λ x b q k. search (rules, tests)) ∙ Walks.any_list _ _
