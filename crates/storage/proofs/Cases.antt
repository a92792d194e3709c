-- The worked cases: in every row of the table the definitions compute what is expected. Assumes nothing.
use mathlib.Core.Path.{◌≡◌, refl}
use mathlib.Core.List.{List, map}
use Rattle.wire.specs.Numbers.{number_in, bytes_in, put, part}
use Rattle.answer.specs.Search.{must, any, first}
use Rattle.directory.specs.Blocks as blocks
use Rattle.directory.specs.Slots.{rows, slot_places, slots_of, live_at, base_tag, unstored_at, size_at, content_at}
use Rattle.directory.specs.Lookup.{has, find}
use Rattle.storage.specs.Elements.{extended_at, start_at, element_at}
use Rattle.storage.specs.Descriptions.{first_length, description_of, record_length, sparse_fault, full_fault, other_fault, record_fault}
use Rattle.storage.specs.Tables.{linked_at, linked_bytes, link_fault, table_fault, linked_block_fault, block_bytes}
use Rattle.storage.specs.Walks.{share, blocks_from, tables_from, chain_of}
use Rattle.storage.specs.Copies.{in_blocks}
use Rattle.storage.specs.Cases.{stored_numbers, L, M, WorkedRow, worked_cases, sparse_cases, record_cases}

-- every row of a table computes to what it expects
abbrev Agrees : List WorkedRow → Type 0
Agrees cases = map (λ (r : WorkedRow). r.computed) cases ≡ map (λ (r : WorkedRow). r.expected) cases

pub worked_cases_lem : Agrees worked_cases
unfolding number_in bytes_in put part must any first blocks.meets blocks.meets_block blocks.on_directory blocks.block_fault blocks.chain_from blocks.chain blocks.blocks_of rows slot_places slots_of live_at base_tag unstored_at size_at content_at has find extended_at start_at element_at description_of record_length full_fault record_fault linked_at linked_bytes link_fault table_fault linked_block_fault block_bytes share blocks_from tables_from chain_of in_blocks stored_numbers L worked_cases
worked_cases_lem = refl

pub sparse_cases_lem : Agrees sparse_cases
unfolding number_in bytes_in put part must any first blocks.meets blocks.meets_block blocks.on_directory blocks.block_fault blocks.chain_from blocks.chain blocks.blocks_of rows slot_places slots_of live_at base_tag unstored_at size_at content_at has find extended_at start_at element_at first_length description_of record_length sparse_fault record_fault linked_at linked_bytes link_fault table_fault linked_block_fault block_bytes share blocks_from tables_from chain_of in_blocks stored_numbers L M sparse_cases
sparse_cases_lem = refl

pub record_cases_lem : Agrees record_cases
unfolding number_in bytes_in must sparse_fault full_fault other_fault record_fault record_cases
record_cases_lem = refl
