-- `directory::cursor::Cursor::start` meets its contract. Assumes nothing.
use Rattle.directory.proofs.Cursors
use Rattle.directory.proofs.cursor.Cursor.start.Goals as goal

pub returns : goal.returns
returns c = Cursors.started _ _ _ c.settled.ensures
