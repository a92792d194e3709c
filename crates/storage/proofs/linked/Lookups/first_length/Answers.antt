-- `storage::linked::Lookups::first_length` meets its contract. Assumes nothing.
use mathlib.Core.Path.{refl, sym, ◌∙◌}
use lib.ListN.{length}
use borrow.Author.Rules.{rules}
use Rattle.storage.proofs.Tables
use Rattle.storage.proofs.Descriptions
use Rattle.storage.proofs.linked.Lookups.first_length.Goals as goal

pub returns-then-reference-eq0 : goal.returns-then-reference-eq0
returns-then-reference-eq0 c = (sym (Descriptions.first_unwritten _ _ _ (sym c.reference_in-reference.ensures.0 ∙ c.if-reference-eq0.true)), c.reference_in-reference.ensures.1)

pub returns : goal.returns
returns c =
    let w = rw c.reference_in-reference.ensures.1 at c.reach.ensures in
    let n = Tables.read_bytes _ _ _ _ _ w.0 _ _ c.map_or.ensures length (λ x h. search (rules, h)) refl in
    (n ∙ sym (Descriptions.first_own _ _ _ _ c.reference_in-reference.ensures.0 c.if-reference-eq0.false), w.1)
