-- `storage::linked::Lookups::find` meets its contract. Assumes nothing.
use mathlib.Core.Path.{refl}
use Rattle.directory.proofs.Resuming.{resumed_on}
use Rattle.storage.proofs.Tables
use Rattle.storage.proofs.linked.Lookups.find.Goals as goal

pub invariant_of-self : goal.invariant_of-self
invariant_of-self c = (c.self.invariant.0, resumed_on _ _ _ _ _ c.self.invariant.1 _ c.find_from-found.ensures)

pub invariant_of-self-2 : goal.invariant_of-self-2
invariant_of-self-2 c = (c.self.invariant.0, resumed_on _ _ _ _ _ c.self.invariant.1 _ c.find_from-found.ensures)

pub returns-then-found-eq0 : goal.returns-then-found-eq0
returns-then-found-eq0 c = rw (← c.self.view_is) (Tables.sought_none _ _ _ _ c.self.invariant.0 c.self.invariant.1 _ c.find_from-found.ensures c.if-found-eq0.true, refl)

pub returns : goal.returns
returns c = rw (← c.self.view_is) (Tables.sought_some _ _ _ _ c.self.invariant.0 c.self.invariant.1 _ c.find_from-found.ensures c.if-found-eq0.false, refl)
