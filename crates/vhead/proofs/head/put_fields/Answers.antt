-- `vhead::head::put_fields` meets its contract. The invariant: the fields that are left, put on what is there, give the whole. Assumes nothing.
use mathlib.Core.Path.{sym, ap, ◌∙◌}
use lib.Seq.{sets}
use Rattle.vset.proofs.Columns
use Rattle.vhead.proofs.Heads
use Rattle.vhead.proofs.head.put_fields.Goals as goal

pub loop-i-init : goal.loop-i-init
loop-i-init c = Columns.filling_start _ _ _ _ _ (Heads.rows_from _ _)

pub loop-i-preserved : goal.loop-i-preserved
loop-i-preserved c =
    let f = c.field_at-f.ensures.0 ∙ Heads.field_is _ _ _ c.requires.0 in
    rw f (Columns.filling_four c.loop-i-test.true c.loop-i.invariant (Heads.row_next _ _ _ c.loop-i-test.true))

pub returns : goal.returns
returns c =
    Columns.filling_done c.loop-i.invariant (Heads.row_none _ _ _ c.loop-i-test.false) ∙ ap (λ n. sets c.args.list.now 0 (Heads.all_fields c.args.part.now n)) c.requires.0 ∙ ap (sets c.args.list.now 0) (sym (Heads.fields_are c.args.part.now))
