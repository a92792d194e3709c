-- `journal::undo` meets its contract. Assumes nothing.
use Prim.Native.Nat.{◌-◌}
use native.Mathlib.Omega.{arith}
use mathlib.Core.Path.{◌≡◌, sym, ap, ◌∙◌}
use mathlib.Core.Bool.{true}
use lib.ListN.{take}
use Rattle.wire.proofs.Numbers.{bytes_take}
use Rattle.directory.proofs.Opens
use borrow.Author.Rules.{rules}
use Rattle.journal.specs.Trailers.{form_size, trailer_at}
use Rattle.journal.specs.Undos.{known}
use Rattle.journal.specs.Steps.Restores.{Trailed, Carrying}
use Rattle.journal.proofs.Trailers
use Rattle.journal.proofs.Buffers
use Rattle.journal.proofs.Restores
use Rattle.journal.proofs.undo.Goals as goal
use Rattle.journal.proofs.undo.Goals.{After-read_trailer-change, After-size_of, Else-not-is_known}

-- the image opens, and it carries a trailer
trailed_at : (c : After-size_of) → let a = c.args in Trailed a.buffer.now a.n c.in-Some.form
trailed_at c =
    let o = c.in-Ok.ensures in
    record { fits = o.0; opens = ap (λ a. a.number) o.1; ending = sym c.carried_by.ensures ∙ c.in-Some.is }

place_at : (c : After-size_of) → let n = c.args.n in n - c.size_of.result ≡ n - form_size c.in-Some.form
place_at c = ap (λ k. c.args.n - k) c.size_of.ensures

carrying_at : (c : After-read_trailer-change) → let a = c.args in Carrying a.buffer.now a.n c.in-Some.form c.read_trailer-change.result
carrying_at c =
    let a = c.args in
    let o = c.in-Ok.ensures in
    record {
      trailed = record { fits = o.0; opens = ap (λ a. a.number) o.1; ending = sym c.carried_by.ensures ∙ c.in-Some.is };
      is = c.read_trailer-change.ensures ∙ ap (trailer_at c.in-Some.form (take a.n a.buffer.now)) (ap (λ k. a.n - k) c.size_of.ensures);
    }

known_at : (c : Else-not-is_known) → let a = c.args in known (take a.n a.buffer.now) (a.n - form_size c.in-Some.form) c.read_trailer-change.result ≡ true
known_at c =
    let a = c.args in
    ap (λ t. known (take a.n a.buffer.now) t c.read_trailer-change.result) (sym (ap (λ k. c.args.n - k) c.size_of.ensures)) ∙ sym c.is_known.ensures ∙ c.if-not-is_known.false

pub returns-in_default : goal.returns-in_default
returns-in_default c = Restores.undo_closed _ _ _ _ (Buffers.closed_in _ _ _ c.open_in-opened.ensures _ c.unwrap_err.ensures)

pub returns-in_default-carried_by : goal.returns-in_default-carried_by
returns-in_default-carried_by c =
    let o = c.in-Ok.ensures in
    rw c.at.ensures (Restores.undo_none _ _ _ o.0 (ap (λ a. a.number) o.1) (sym c.carried_by.ensures ∙ c.in_default-carried_by.is))

pub overflow_sub-t : goal.overflow_sub-t
overflow_sub-t c = let a = c.args in omega (arith, c.size_of.ensures, Restores.image_least a.buffer.now a.n _ (trailed_at (goal.at.overflow_sub-t c).After-size_of))

pub read_trailer-change-requires : goal.read_trailer-change-requires
read_trailer-change-requires c =
    let a = c.args in let w = trailed_at (goal.at.read_trailer-change-requires c).After-size_of in omega (arith, Buffers.image_short a.buffer.now a.n w.fits w.opens)

pub is_known-requires : goal.is_known-requires
is_known-requires c =
    let a = c.args in (
      Opens.opened_with _ _ _ _ c.in-Ok.ensures.1,
      Trailers.place_small _ _ _ (bytes_take a.n a.buffer.now (λ i. search rules)) _ c.read_trailer-change.ensures,
    )

pub returns-then-not-is_known : goal.returns-then-not-is_known
returns-then-not-is_known c =
    let g = goal.at.returns-then-not-is_known c in
    rw c.at-then-not-is_known.ensures
    (Restores.undo_unknown _ _ _ _ (carrying_at g.After-read_trailer-change) _ _ (place_at g.After-size_of) (sym c.is_known.ensures ∙ c.if-not-is_known.true))

pub change_at-present-requires : goal.change_at-present-requires
change_at-present-requires c = Restores.known_low _ _ _ _ (carrying_at (goal.at.change_at-present-requires c).After-read_trailer-change) (known_at (goal.at.change_at-present-requires c).Else-not-is_known)

pub restore-requires : goal.restore-requires
restore-requires c =
    record { trail = carrying_at (goal.at.restore-requires c).After-read_trailer-change; placed = known_at (goal.at.restore-requires c).Else-not-is_known; desk = c.args.desk; now = c.change_at-present.ensures }

pub returns : goal.returns
returns c = Restores.undo_leaves _ _ _ c.in-Ok.ensures.0 _ c.restore.result c.restore.ensures
