-- `vgroup::listing::list` meets its contract. Assumes nothing.
use Prim.Native.Nat.{ℕ}
use native.Mathlib.Omega.{arith}
use mathlib.Core.List.{List}
use lib.ListN.{length}
use Rattle.std.proofs.lemmas.Result.{err_from_is_err_and}
use Rattle.answer.specs.Answer.{Answer}
use Rattle.answer.specs.Lent.{Does}
use Rattle.directory.specs.Lookup.{find}
use Rattle.directory.specs.Steps.Opens.{Opens}
use Rattle.directory.proofs.Opens
use Rattle.vgroup.specs.Limits.{group_tag}
use Rattle.vgroup.specs.Listings.{listing_at, listing_of, pairs_of}
use Rattle.vgroup.proofs.ListingsFound
use Rattle.vgroup.proofs.ListingsAnswered
use Rattle.vgroup.proofs.listing.list.Goals as goal
use Rattle.vgroup.proofs.listing.list.Goals.{In-Ok}

-- the image opened
opens : (c : In-Ok) → Opens c.args.image.now c.in-Ok.counts.blocks
opens c = Opens.accepted_with _ _ c.open-opened.ensures _ c.in-Ok.is

-- what the call goes on to
goes : (c : In-Ok) (after : List ℕ) (numbers : Answer) → let a = c.args in
    Does (listing_at a.image.now (find a.image.now group_tag a.reference) (length a.table.now)) (pairs_of a.image.now a.reference (length a.table.now)) a.table.now after numbers
    → Does (listing_of a.image.now a.reference (length a.table.now)) (pairs_of a.image.now a.reference (length a.table.now)) a.table.now after numbers
unfolding listing_of
goes c after numbers d = rw (Opens.opened_goes 1 _ _ (opens c).sound) d

pub returns-in_default : goal.returns-in_default
unfolding listing_of
returns-in_default c = Opens.unopened_does _ _ c.open-opened.ensures 1 _ _ _ _ c.unwrap_err.ensures

pub returns-in_err-found : goal.returns-in_err-found
returns-in_err-found c =
    let opened = (goal.at.returns-in_err-found c).In-Ok in
    let p = err_from_is_err_and c.from_residual.result c.from_residual.ensures.1 in
    rw (p.1, p.2)
    (goes opened _ _ (ListingsAnswered.unnamed _ _ _ _ (ListingsFound.group_found _ _ _ (opens opened) _ c.find.ensures _ c.in_err-found.was)))

pub walk-requires : goal.walk-requires
walk-requires c = (opens (goal.at.walk-requires c).In-Ok, omega arith, omega (arith, c.min-room.ensures))

pub returns-in_err-walk : goal.returns-in_err-walk
returns-in_err-walk c =
    let opened = (goal.at.returns-in_err-walk c).In-Ok in
    let p = err_from_is_err_and c.from_residual-in_err-walk.result c.from_residual-in_err-walk.ensures.1 in
    rw (p.1, p.2)
    (goes opened _ _ (ListingsAnswered.judged_refused _ _ _ _ (ListingsFound.group_found _ _ _ (opens opened) _ c.find.ensures _ c.in_ok-found.was) _ c.min-room.ensures _ _ c.walk.ensures _ c.in_err-walk.was))

pub walk-requires-2 : goal.walk-requires-2
walk-requires-2 c = (opens (goal.at.walk-requires-2 c).In-Ok, omega arith, omega (arith, c.min-room.ensures))

pub returns : goal.returns
returns c =
    let opened = (goal.at.returns c).In-Ok in
    goes opened _ _ (ListingsAnswered.listed _ _ _ _ (ListingsFound.group_found _ _ _ (opens opened) _ c.find.ensures _ c.in_ok-found.was) _ c.min-room.ensures _ _ c.walk.ensures _ c.in_ok-walk.was _ _ c.walk-2.ensures)
