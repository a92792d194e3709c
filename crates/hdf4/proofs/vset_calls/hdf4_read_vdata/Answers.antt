-- `hdf4::vset_calls::hdf4_read_vdata` meets its contract. Assumes nothing.
use Rattle.hdf4.proofs.Tables
use Rattle.hdf4.proofs.vset_calls.hdf4_read_vdata.Goals as goal

pub vdata_answer-requires : goal.vdata_answer-requires
vdata_answer-requires c = Tables.names_fit _ _ _ c.read.result c.read.ensures.answer.0.answers
