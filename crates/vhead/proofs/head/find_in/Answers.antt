-- `vhead::head::find_in` meets its contract. Assumes nothing.
use mathlib.Core.Path.{◌≡◌, sym, ap, ◌∙◌}
use Rattle.std.proofs.lemmas.Result.{err_from_is_err_and}
use Rattle.answer.specs.Refusals.{fault_of}
use Rattle.vhead.specs.Heads.{head_fault}
use Rattle.vhead.proofs.HeadsRead
use Rattle.vhead.proofs.head.find_in.Goals as goal
use Rattle.vhead.proofs.head.find_in.Goals.{In_default}

-- the bytes break no rule
sound : (c : In_default) → head_fault c.part-part.result.now ≡ 0
sound c = sym c.check.ensures ∙ ap fault_of c.in_default.is

pub returns-then-image-gt-MOST_BYTES : goal.returns-then-image-gt-MOST_BYTES
returns-then-image-gt-MOST_BYTES c = rw c.at.ensures (record { answer = (HeadsRead.too_long _ _ _ c.if-image-gt-MOST_BYTES.true).0; held = tt })

pub returns-in_err-found : goal.returns-in_err-found
returns-in_err-found c =
    let p = err_from_is_err_and c.from_residual.result c.from_residual.ensures.1 in
    rw (p.1, p.2) (record { answer = (HeadsRead.unlocated _ _ _ c.if-image-gt-MOST_BYTES.false _ c.locate.ensures _ c.in_err-found.was).0; held = tt })

pub returns-in-Err : goal.returns-in-Err
returns-in-Err c =
    rw c.at-in-Err.ensures
    (record {
      answer = (HeadsRead.broken _ _ _ c.if-image-gt-MOST_BYTES.false _ c.locate.ensures _ c.in_ok-found.was _ c.part-part.ensures _ (sym (ap fault_of c.in-Err.is) ∙ c.check.ensures)).0;
      held = tt;
    })

pub returns-then-room-head : goal.returns-then-room-head
returns-then-room-head c =
    rw c.at-then-room-head.ensures
    (record {
      answer = (HeadsRead.small _ _ _ c.if-image-gt-MOST_BYTES.false _ c.locate.ensures _ c.in_ok-found.was _ c.part-part.ensures (sound (goal.at.returns-then-room-head c).In_default) _ c.parse-head.ensures c.if-room-head.true).0;
      held = tt;
    })

pub returns : goal.returns
returns c =
    let both = HeadsRead.finds _ _ _ c.if-image-gt-MOST_BYTES.false _ c.locate.ensures _ c.in_ok-found.was _ c.part-part.ensures (sound (goal.at.returns c).In_default) _ c.parse-head.ensures c.if-room-head.false in
    record { answer = both.0; held = both.1 }
