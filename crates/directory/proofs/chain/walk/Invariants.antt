-- `directory::chain::walk` meets its contract. The outer invariant: what is left of the chain is the chain; the inner one: what is still
-- to be followed of the earlier blocks decides. Assumes nothing.
use Prim.Native.Nat.{◌-◌}
use Rattle.directory.specs.Blocks.{meets_block}
use Rattle.directory.proofs.Links
use Rattle.directory.proofs.Blocks
use Rattle.directory.proofs.chain.walk.Given as goal

abbrev pub invariant-loop-passed : goal.invariant-loop-passed
invariant-loop-passed l = Links.Following l.image (meets_block l.image l.at l.end) l.blocks l.b (l._passed-end - l._passed)

abbrev pub invariant-chain : goal.invariant-chain
invariant-chain l = Blocks.Before l.image l.at l.blocks l.slots l.top l.rising

abbrev pub decreases-chain : goal.decreases-chain
decreases-chain l = 256 - l.blocks
