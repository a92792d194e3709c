-- `vgroup::listing::nested` and `walk`, which call each other, meet their contracts. The measure is how many groups may still be entered.
-- Assumes nothing.
use native.Mathlib.Omega.{arith}
use Rattle.std.proofs.lemmas.Result.{err_from_is_err_and}
use Rattle.vgroup.proofs.Listings
use Rattle.vgroup.proofs.ListingsFound
use Rattle.vgroup.proofs.listing.+nested_walk.Goals as goal
use Rattle.vgroup.proofs.listing.+nested_walk.Goals.{walk-then-tag-eq-GROUP_TAG+in_ok-pairs, walk-else-tag-eq-GROUP_TAG}

-- ---- The group of a reference

pub nested-returns-then-more-eq0 : goal.nested-returns-then-more-eq0
nested-returns-then-more-eq0 t c =
    rw c.at.ensures (ListingsFound.walks_nothing _ _ _ _ (ListingsFound.nested_deep _ _ _ _ _ c.if-more-eq0.true))

pub nested-returns-in_err-found : goal.nested-returns-in_err-found
nested-returns-in_err-found t c =
    let p = err_from_is_err_and c.from_residual.result c.from_residual.ensures.1 in
    rw (p.1, p.2)
    (ListingsFound.walks_nothing _ _ _ _ (ListingsFound.nested_enters _ _ _ _ _ c.if-more-eq0.false _ (ListingsFound.group_found _ _ _ c.requires.0 _ c.find.ensures _ c.in_err-found.was)))

pub nested-returns : goal.nested-returns
nested-returns t c =
    rw (ListingsFound.nested_enters _ _ _ _ _ c.if-more-eq0.false _ (ListingsFound.group_found _ _ _ c.requires.0 _ c.find.ensures _ c.in_ok-found.was))
    c.walk.ensures

-- ---- The walk over a group's members

pub walk-loop-i-init : goal.walk-loop-i-init
walk-loop-i-init t c = Listings.walk_start _ _ _ _ _ _ _ _ c.read16-count.ensures.is

pub walk-returns-then-pairs-room : goal.walk-returns-then-pairs-room
walk-returns-then-pairs-room t c =
    rw (c.at.ensures, ← c.part-part.ensures) (Listings.walk_full c.loop-i.invariant c.loop-i-test.true c.if-pairs-room.true)

pub walk-returns-in_err-pairs : goal.walk-returns-in_err-pairs
walk-returns-in_err-pairs t c =
    let p = err_from_is_err_and c.from_residual.result c.from_residual.ensures.1 in
    rw (p.1, p.2, ← c.part-part.ensures)
    (Listings.walk_broken (Listings.stepped c.loop-i.invariant c.loop-i-test.true c.if-pairs-room.false c.read16-tag.ensures.is c.read16-reference.ensures.is c.put_pair.ensures) c.if-tag-eq-GROUP_TAG.true c.nested.ensures _ c.in_err-pairs.was)

pub walk-overflow_add-pairs-then-tag-eq-GROUP_TAG : goal.walk-overflow_add-pairs-then-tag-eq-GROUP_TAG
walk-overflow_add-pairs-then-tag-eq-GROUP_TAG t c =
    let w = Listings.stepped c.loop-i.invariant c.loop-i-test.true c.if-pairs-room.false c.read16-tag.ensures.is c.read16-reference.ensures.is c.put_pair.ensures in
    omega (arith, Listings.inner_few w c.if-tag-eq-GROUP_TAG.true c.nested.ensures _ c.in_ok-pairs.was, w.room_left, c.requires.2)

pub walk-loop-i-preserved : goal.walk-loop-i-preserved
walk-loop-i-preserved t c =
    let s = Listings.stepped c.loop-i.invariant c.loop-i-test.true c.if-pairs-room.false c.read16-tag.ensures.is c.read16-reference.ensures.is c.put_pair.ensures in
    elim c.if-tag-eq-GROUP_TAG.branch [
      | walk-then-tag-eq-GROUP_TAG+in_ok-pairs w ↦ rw (w.pairs-is, w.table-is) (Listings.walk_nested s w.if-tag-eq-GROUP_TAG.true w.nested.ensures _ w.in_ok-pairs.was)
      | walk-else-tag-eq-GROUP_TAG w ↦ rw (w.pairs-is, w.table-is) (Listings.walk_other s w.if-tag-eq-GROUP_TAG.false)
    ]

pub walk-returns : goal.walk-returns
walk-returns t c = rw (← c.part-part.ensures) (Listings.walk_ends c.loop-i.invariant c.loop-i-test.false)
