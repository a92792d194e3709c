-- `vhead::head::check_pack` meets its contract. The fields that are judged are those of the rows. Assumes nothing.
use Rattle.vhead.specs.Heads.{row_at}
use Rattle.vhead.proofs.head.check_pack.Given as goal

abbrev pub ghost-check_fields : goal.ghost-check_fields
ghost-check_fields a = row_at a.field.0.now
