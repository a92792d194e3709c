-- `vhead::head::check` meets its contract. The fields that are judged are those of the record. Assumes nothing.
use Rattle.vhead.specs.Heads.{head_in, field_at}
use Rattle.vhead.proofs.head.check.Given as goal

abbrev pub ghost-check_fields : goal.ghost-check_fields
ghost-check_fields a = let e = a.field.0.now in field_at e (head_in e)
