-- `directory::listing::put_descriptors` meets its contract. The invariant: what is still to be filled in gives the whole. Assumes nothing.
use lib.Seq.{sets}
use Rattle.answer.specs.Search.{keep}
use Rattle.directory.specs.Slots.{live_at}
use Rattle.directory.specs.Links.{slots_after}
use Rattle.directory.specs.Steps.Walks.{slots_left}
use Rattle.directory.specs.Descriptors.{descriptors}
use Rattle.directory.proofs.Descriptors
use Rattle.directory.proofs.listing.put_descriptors.Given as goal

abbrev pub invariant-loop-p : goal.invariant-loop-p
invariant-loop-p l =
    (goal.iterator-loop-p).can_next l.p-iterator × (goal.iterator-loop-p).is_finite l.p-iterator
    × Descriptors.Filling l.image l.initial.table (sets l.initial.table 0 (descriptors l.image (keep (live_at l.image) (slots_after l.image l.blocks 4)))) l.table (slots_left l.p-iterator) l.i
