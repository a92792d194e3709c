-- `directory::listing::list` meets its contract. Assumes nothing.
use Prim.Native.Nat.{ℕ, ◌*◌, ◌≤◌}
use native.Mathlib.Omega.{arith}
use mathlib.Core.Path.{◌≡◌, sym, ap, ◌∙◌}
use mathlib.Core.List.{List, [], ◌∷◌}
use lib.ListN.{length, get_or}
use Rattle.answer.specs.Answer.{grant}
use Rattle.answer.specs.declared.refusals.Rule.TheVariants.{Small}
use Rattle.directory.specs.Opening.{open_of}
use Rattle.directory.specs.Descriptors.{live_slots, list_of}
use Rattle.answer.proofs.Lent
use Rattle.directory.proofs.Opens
use Rattle.directory.proofs.Claims
use Rattle.directory.proofs.Descriptors
use Rattle.directory.proofs.listing.list.Goals as goal

-- the live slots that opening counts are those that are listed
live_count : (s : List ℕ) (blocks slots live : ℕ) → open_of s ≡ grant (blocks ∷ slots ∷ live ∷ []) → live ≡ length (live_slots s)
unfolding live_slots
live_count s blocks slots live o = ap (λ a. get_or a.values 2 0) (sym o ∙ Claims.counts s (ap (λ a. a.number) o))

pub returns-in_default : goal.returns-in_default
unfolding list_of
returns-in_default c = Opens.unopened_does _ _ c.open-opened.ensures 1 _ _ _ _ c.unwrap_err.ensures

pub returns-then-table-counts : goal.returns-then-table-counts
returns-then-table-counts c =
    let o = Opens.accepted_is _ _ c.open-opened.ensures _ c.in-Ok.is in
    let a = c.args in
    let n = live_count a.image.now _ _ _ o in
    let small = Descriptors.list_small a.image.now a.table.now (ap (λ x. x.number) o) (omega (arith, c.if-table-counts.true)) in
    rw c.at.ensures (Lent.refuses _ _ _ 1 (record { rule = Small; place = 0 }) small)

pub put_descriptors-requires : goal.put_descriptors-requires
unfolding live_slots
put_descriptors-requires c =
    let o = Opens.accepted_is _ _ c.open-opened.ensures _ c.in-Ok.is in
    let n = live_count c.args.image.now _ _ _ o in
    rw (Opens.opened_with _ _ _ _ o).slots (omega (arith, c.if-table-counts.false))

pub returns : goal.returns
unfolding live_slots
returns c =
    let o = Opens.accepted_is _ _ c.open-opened.ensures _ c.in-Ok.is in
    let a = c.args in
    let n = live_count a.image.now _ _ _ o in
    let few : 4 * length (live_slots a.image.now) ≤ length a.table.now = omega (arith, c.if-table-counts.false) in
    rw n (Descriptors.list_granted a.image.now a.table.now (ap (λ x. x.number) o) few _ (rw (Opens.opened_with _ _ _ _ o).slots at c.put_descriptors.ensures))
