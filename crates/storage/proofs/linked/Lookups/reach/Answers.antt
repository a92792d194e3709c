-- `storage::linked::Lookups::reach` meets its contract. Assumes nothing.
use native.Mathlib.Omega.{arith}
use mathlib.Core.Path.{◌≡◌, refl, sym, ap, ◌∙◌}
use lib.ListN.{length}
use Rattle.storage.specs.Tables.{linked_at, is_there, linked_bytes}
use Rattle.storage.proofs.Tables
use Rattle.storage.proofs.linked.Lookups.reach.Goals as goal
use Rattle.storage.proofs.linked.Lookups.reach.Goals.{After-content-bytes, After-is_plain}

-- the image is the same after the lookup, and what the reference names stands there at the slot that was found
plain : (c : After-is_plain) → c.is_plain.result ≡ is_there (linked_at c.args.self.now c.args.reference)
plain c =
    let h = rw (c.self.view_is ∙ c.find.ensures.1) at c.is_plain.ensures in
    h ∙ sym (ap is_there (Tables.sought_slot _ _ c.if-reference-eq0.false _ _ c.find.ensures.0 c.in-Some.is))

bytes : (c : After-content-bytes) → c.content-bytes.result.now ≡ linked_bytes c.args.self.now c.args.reference
bytes c =
    let same = c.self.view_is ∙ c.find.ensures.1 in
    let h = rw same at c.is_plain.ensures in
    let b = rw same at c.content-bytes.ensures in
    b ∙ Tables.slot_bytes _ _ _ (Tables.sought_slot _ _ c.if-reference-eq0.false _ _ c.find.ensures.0 c.in-Some.is) (sym h ∙ c.if-not-is_plain.false)

pub returns-then-reference-eq0 : goal.returns-then-reference-eq0
returns-then-reference-eq0 c = (Tables.link_absent _ _ _ _ _ (ap is_there (Tables.linked_zero _ _ c.if-reference-eq0.true)), refl)

pub returns-in_default : goal.returns-in_default
returns-in_default c = (Tables.link_absent _ _ _ _ _ (Tables.sought_gone _ _ c.if-reference-eq0.false _ c.find.ensures.0 c.in_default.is), c.find.ensures.1)

pub returns-then-not-is_plain : goal.returns-then-not-is_plain
returns-then-not-is_plain c =
    (Tables.link_absent _ _ _ _ _ (sym (plain (goal.at.returns-then-not-is_plain c).After-is_plain) ∙ c.if-not-is_plain.true), c.find.ensures.1)

pub content-bytes-requires : goal.content-bytes-requires
content-bytes-requires c = (rw c.in-Some.is at c.find.ensures.0.low, (Tables.plain_at _ _ (sym c.is_plain.ensures ∙ c.if-not-is_plain.false)).0)

pub returns-then-bytes-needed : goal.returns-then-bytes-needed
returns-then-bytes-needed c =
    let g = goal.at.returns-then-bytes-needed c in
    let there = sym (plain g.After-is_plain) ∙ c.if-not-is_plain.false in
    (Tables.link_short _ _ _ _ _ there (omega (arith, ap length (bytes g.After-content-bytes))), c.find.ensures.1)

pub returns : goal.returns
returns c =
    let g = goal.at.returns c in
    let there = sym (plain g.After-is_plain) ∙ c.if-not-is_plain.false in
    let b = bytes g.After-content-bytes in
    ((Tables.link_none _ _ _ _ _ there (omega (arith, ap length b)), b, c.if-bytes-needed.false), c.find.ensures.1)
