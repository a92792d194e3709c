-- `vhead::head::check` meets its contract. Assumes nothing.
use mathlib.Core.Path.{sym, ap, ◌∙◌}
use Rattle.std.proofs.Common.{rules}
use Rattle.std.proofs.iter.Serving.{serving}
use Rattle.vhead.proofs.HeadsRead
use Rattle.vhead.proofs.head.check.Goals as goal

pub check_fields-requires : goal.check_fields-requires
check_fields-requires c =
    let same = ap (λ h. h.fields) c.parse-head.ensures in
    λ k o. (search (rules, serving), (grind serving, (grind serving, c.if-head-gt-MOST_FIELDS.false)))

pub returns : goal.returns
returns c =
    c.check_fields.ensures
    ∙ sym (HeadsRead.head_goes_on _ _ c.parse-head.ensures c.if-part-head.false c.if-head-ne-VERSION.false c.if-head-gt-MOST_HEAD_INTERLACE.false c.if-head-gt-MOST_FIELDS.false)
