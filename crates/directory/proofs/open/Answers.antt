-- `directory::open` meets its contract. Assumes nothing.
use mathlib.Core.Path.{◌≡◌, sym, ◌∙◌}
use mathlib.Core.Bool.{true}
use Rattle.directory.specs.Opening.{headed}
use Rattle.std.proofs.lemmas.Result.{err_from_is_err_and}
use Rattle.directory.proofs.Links
use Rattle.directory.proofs.Opening
use Rattle.directory.proofs.Opens
use Rattle.directory.proofs.open.Goals as goal
use Rattle.directory.proofs.open.Goals.{Else-not-is_hdf}

head : (c : Else-not-is_hdf) → headed c.args.image.now ≡ true
head c = sym c.is_hdf.ensures ∙ c.if-not-is_hdf.false

pub returns-then-image-gt-MOST_BYTES : goal.returns-then-image-gt-MOST_BYTES
returns-then-image-gt-MOST_BYTES c = rw c.at.ensures (sym (Opening.open_long _ c.if-image-gt-MOST_BYTES.true))

pub returns-then-not-is_hdf : goal.returns-then-not-is_hdf
returns-then-not-is_hdf c = rw c.at-then-not-is_hdf.ensures (sym (Opening.open_other _ c.if-image-gt-MOST_BYTES.false (sym c.is_hdf.ensures ∙ c.if-not-is_hdf.true)))

pub returns-in_err-walk : goal.returns-in_err-walk
returns-in_err-walk c =
    let p = err_from_is_err_and c.from_residual.result c.from_residual.ensures.1 in
    rw (p.1, p.2)
    (Opens.refusal_opens _ _ (Opening.open_broken _ c.if-image-gt-MOST_BYTES.false (head (goal.at.returns-in_err-walk c).Else-not-is_hdf) _ _ c.in_err-walk.ensures))

pub returns : goal.returns
returns c =
    let w = c.in_ok-walk.ensures in
    c.check_slots.ensures ∙ sym (Opening.open_walked _ c.if-image-gt-MOST_BYTES.false (head (goal.at.returns c).Else-not-is_hdf) _ w.0 ∙ rw Links.slots_along)
