-- `journal::add` meets its contract. Assumes nothing.
use Rattle.journal.proofs.Buffers
use Rattle.journal.specs.Edits.{add_of}
use Rattle.journal.specs.Buffers.{add_in}
use Rattle.journal.proofs.add.Goals as goal

pub returns-in_err-meet : goal.returns-in_err-meet
unfolding add_in add_of
returns-in_err-meet c = Buffers.edit_stops _ _ _ _ _ c.in_err-meet.ensures _ c.from_residual.ensures.1

pub returns-in-Present : goal.returns-in-Present
returns-in-Present c =
    let t = rw c.in-Present.is at c.in_ok-meet.ensures in
    rw c.at.ensures (Buffers.add_present _ _ _ _ t.0 _ _ t.1 _)

pub returns-in-Absent : goal.returns-in-Absent
returns-in-Absent c =
    let t = rw c.in-Absent.is at c.in_ok-meet.ensures in
    Buffers.add_absent _ _ _ _ t.0 _ t.1 _ _ c.put_new.result c.put_new.ensures
