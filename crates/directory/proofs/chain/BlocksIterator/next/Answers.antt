-- `directory::chain::BlocksIterator::next` meets its contract. Assumes nothing.
use Prim.Native.Nat.{◌<◌}
use native.Mathlib.Omega.{arith}
use Rattle.directory.proofs.Links
use Rattle.directory.proofs.chain.BlocksIterator.next.Goals as goal

pub returns-then-self-eq0-clause-steps : goal.returns-then-self-eq0-clause-steps
returns-then-self-eq0-clause-steps c =
    let none = Links.blocks_none c.args.self.now.image.now _ c.args.self.now.at c.if-self-eq0.true in ((none, none), tt)

pub returns-clause-steps : goal.returns-clause-steps
returns-clause-steps c =
    let w = c.args.self.now in
    let low : w.at < 4294967296 = omega arith in
    (rw c.read32.ensures.is (Links.blocks_next w.image.now _ w.at c.if-self-eq0.false), low)
