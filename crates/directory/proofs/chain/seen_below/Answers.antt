-- `directory::chain::seen_below` meets its contract: a place that is not below top is none of the blocks'. Assumes nothing.
use mathlib.Core.Path.{sym, ◌∙◌}
use borrow.Author.Tests.{le-ltb}
use Rattle.directory.proofs.Blocks
use Rattle.directory.proofs.chain.seen_below.Goals as goal

pub returns-else-at-top : goal.returns-else-at-top
returns-else-at-top c = le-ltb _ _ c.if-at-top.false ∙ sym (Blocks.fresh_above _ _ _ _ c.requires c.if-at-top.false)
