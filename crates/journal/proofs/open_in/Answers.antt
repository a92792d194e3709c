-- `journal::open_in` meets its contract. Assumes nothing.
use Rattle.journal.proofs.Buffers
use Rattle.journal.proofs.open_in.Goals as goal

pub returns-then-buffer-n : goal.returns-then-buffer-n
returns-then-buffer-n c = rw c.at.ensures (Buffers.opens_outside _ _ c.if-buffer-n.true)

pub returns : goal.returns
returns c = Buffers.opens_inside _ _ c.if-buffer-n.false c.open.result c.open.ensures
