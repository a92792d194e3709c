-- `journal::replace` meets its contract. Assumes nothing.
use Rattle.journal.proofs.Buffers
use Rattle.journal.proofs.Adding
use Rattle.journal.specs.Edits.{replace_of}
use Rattle.journal.specs.Buffers.{replace_in}
use Rattle.journal.proofs.replace.Goals as goal

pub put_slot-requires : goal.put_slot-requires
put_slot-requires c =
    let t = rw c.in-Present.is at c.in_ok-p.ensures in
    Adding.target_room _ _ _ _ _ t.0 t.1

pub returns-in_err-p : goal.returns-in_err-p
unfolding replace_in replace_of
returns-in_err-p c = Buffers.edit_stops _ _ _ _ _ c.in_err-p.ensures _ c.from_residual.ensures.1

pub returns-in-Present : goal.returns-in-Present
returns-in-Present c =
    let t = rw c.in-Present.is at c.in_ok-p.ensures in
    Buffers.replace_there _ _ _ _ t.0 _ _ t.1 _ _ c.put_slot.result c.put_slot.ensures

pub returns-in-Absent : goal.returns-in-Absent
returns-in-Absent c =
    let t = rw c.in-Absent.is at c.in_ok-p.ensures in
    rw c.at.ensures (Buffers.replace_absent _ _ _ _ t.0 _ t.1 _)
