-- `storage::linked::Lookups::take_block` meets its contract. Assumes nothing.
use mathlib.Core.Path.{◌≡◌, refl, sym, ◌∙◌}
use mathlib.Core.Bool.{false}
use Rattle.std.proofs.lemmas.Result.{err_from_is_err_and}
use Rattle.storage.specs.Tables.{never_written}
use Rattle.storage.proofs.Tables
use Rattle.storage.proofs.linked.Lookups.take_block.Goals as goal
use Rattle.storage.proofs.linked.Lookups.take_block.Goals.{Else-never_written}

-- it was written
written : (c : Else-never_written) → let a = c.args in never_written a.sparse a.reference ≡ false
written c = sym c.never_written.ensures ∙ c.if-never_written.false

pub returns-then-never_written : goal.returns-then-never_written
returns-then-never_written c = (Tables.gave_zeros _ _ _ _ _ _ (sym c.never_written.ensures ∙ c.if-never_written.true) _ c.write_zeros.ensures, refl)

pub returns-in_err-block : goal.returns-in_err-block
returns-in_err-block c =
    let p = err_from_is_err_and c.from_residual.result c.from_residual.ensures.1 in
    rw (p.1, p.2)
    (Tables.gave_none _ _ _ c.args.count c.args.place _ (written (goal.at.returns-in_err-block c).Else-never_written) _ c.in_err-block.ensures.0, c.in_err-block.ensures.1)

pub returns : goal.returns
returns c =
    let h = c.in_ok-block.ensures in
    (Tables.gave_bytes _ _ _ _ _ _ (written (goal.at.returns c).Else-never_written) _ h.0.0 h.0.1 _ c.write_bytes.ensures, h.1)
