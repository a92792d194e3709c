-- `journal::write::write_free_slots` meets its contract. The invariant: i slots are written. Assumes nothing.
use mathlib.Core.Path.{◌≡◌}
use Rattle.wire.specs.Numbers.{put}
use Rattle.journal.specs.Edits.{free_slots}
use Rattle.journal.proofs.write.write_free_slots.Given as goal

abbrev pub invariant-loop-i : goal.invariant-loop-i
invariant-loop-i l = l.buffer ≡ put l.initial.buffer l.at (free_slots l.i)
