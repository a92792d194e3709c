-- `hdf4::vset_calls::hdf4_read_value` meets its contract. Assumes nothing.
use mathlib.Core.Path.{sym, subst}
use Rattle.hdf4.specs.VsetAnswers.{HasBits}
use Rattle.hdf4.proofs.Bits
use Rattle.hdf4.proofs.vset_calls.hdf4_read_value.Goals as goal

pub value_answer-requires : goal.value_answer-requires
value_answer-requires c = subst HasBits (sym (c.read.ensures.exact _ c.in-Ok.is)) (Bits.has_bits _ _ _ _ _)
