-- `directory::places::has_link` meets its contract. Assumes nothing.
use mathlib.Core.Path.{◌∙◌}
use Rattle.std.proofs.Common.{rules, tests}
use Rattle.std.proofs.lemmas.Iterator.Search.{any_from_yields_List}
use Rattle.directory.specs.Rooms.{is_link}
use Rattle.directory.proofs.Walks
use Rattle.directory.proofs.places.has_link.Goals as goal

pub returns : goal.returns
returns c = any_from_yields_List (is_link c.args.place) c.any.new.self _ _ c.any.ensures.ran (Walks.blocks_come _ _ c.of.ensures) (λ x b q k. search (rules, tests)) ∙ Walks.any_list _ _
