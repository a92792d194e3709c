-- `storage::linked::Lookups::reach_table` meets its contract. Assumes nothing.
use mathlib.Core.Path.{sym, ◌∙◌}
use Rattle.storage.proofs.Tables
use Rattle.storage.proofs.linked.Lookups.reach_table.Goals as goal
use Rattle.storage.proofs.linked.Lookups.reach_table.Goals.{then-count-eq-MOST_TABLES-via-then-count-eq-MOST_TABLES, then-count-eq-MOST_TABLES-via-else-count-eq-MOST_TABLES+then-seen}

pub returns-then-count-eq-MOST_TABLES : goal.returns-then-count-eq-MOST_TABLES
returns-then-count-eq-MOST_TABLES c =
    elim c.then-count-eq-MOST_TABLES.branch [
      | then-count-eq-MOST_TABLES-via-then-count-eq-MOST_TABLES w ↦ (Tables.next_many _ _ _ _ w.if-count-eq-MOST_TABLES.true, w.self-is)
      | then-count-eq-MOST_TABLES-via-else-count-eq-MOST_TABLES+then-seen w ↦
          (Tables.next_twice _ _ _ _ w.if-count-eq-MOST_TABLES.false (sym w.seen.ensures.0 ∙ w.if-seen.true), w.self-is ∙ w.seen.ensures.1)
    ]

pub returns : goal.returns
returns c =
    let a = c.args in
    let fresh = Tables.next_fresh a.self.now a.d a.count a.reference c.if-count-eq-MOST_TABLES.false (sym c.seen.ensures.0 ∙ c.if-seen.false) in
    rw fresh (rw c.seen.ensures.1 at c.reach.ensures)
