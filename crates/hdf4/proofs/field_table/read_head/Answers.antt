-- `hdf4::field_table::read_head` meets its contract. Assumes nothing.
use Rattle.hdf4.proofs.Tables
use Rattle.hdf4.proofs.field_table.read_head.Goals as goal

pub vdata_answer-answer-requires : goal.vdata_answer-answer-requires
vdata_answer-answer-requires c = Tables.names_fit _ _ _ c.find-read.result c.find-read.ensures.answer
