-- `storage::linked::Lookups::start` meets its contract. Assumes nothing.
use Rattle.directory.proofs.Resuming.{past_on}
use Rattle.storage.proofs.linked.Lookups.start.Goals as goal

pub invariant_of-result : goal.invariant_of-result
invariant_of-result c = (c.requires, past_on _ _ 0 0)
