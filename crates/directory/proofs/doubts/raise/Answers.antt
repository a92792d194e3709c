-- `directory::doubts::raise` meets its contract. Assumes nothing.
use borrow.Author.Tests.{lt-ltb, le-ltb}
use Rattle.directory.proofs.Doubting
use Rattle.directory.proofs.doubts.raise.Goals as goal

pub returns-then-below : goal.returns-then-below
returns-then-below c = rw (lt-ltb _ _ c.if-below.true) (Doubting.raised_more _ _ c.requires.0 c.if-below.true)

pub returns-else-below : goal.returns-else-below
returns-else-below c = rw (le-ltb _ _ c.if-below.false) (Doubting.raised_same _ _ c.requires.0 c.if-below.false)
