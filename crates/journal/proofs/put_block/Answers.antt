-- `journal::put_block` meets its contract. Assumes nothing.
use native.Mathlib.Omega.{arith}
use mathlib.Core.Path.{sym, ap, ◌∙◌}
use Rattle.answer.specs.Refusals.{fault_of}
use Rattle.journal.proofs.Outcomes
use Rattle.journal.proofs.Laid
use Rattle.journal.proofs.put_block.Goals as goal

pub returns-in-Err : goal.returns-in-Err
returns-in-Err c =
    rw c.at.ensures (Laid.block_refused _ _ _ c.requires.1 c.requires.2 _ _ _ _ _ (sym (ap fault_of c.in-Err.is) ∙ c.check_fit.ensures))

pub write_trailer-requires : goal.write_trailer-requires
write_trailer-requires c = omega (arith, Outcomes.fits _ _ (sym c.check_fit.ensures ∙ ap fault_of c.in_default.is))

pub returns : goal.returns
returns c =
    Laid.block_granted _ _ _ c.requires.1 c.requires.2 _ _ _ _ _ _
    (sym c.check_fit.ensures ∙ ap fault_of c.in_default.is)
    c.change_at-change.ensures c.offset_of.ensures c.write_block.ensures
    c.write_bytes.ensures c.write_trailer.ensures c.write32.ensures
