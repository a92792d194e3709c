-- The marked cases of document 01, with the numbers of document 02 (viii), and cases of desks: in every row of a table the definitions compute what the
-- papers say. Assumes nothing.
use mathlib.Core.Path.{◌≡◌, refl}
use mathlib.Core.List.{map}
use Rattle.wire.specs.Numbers.{number_in, bytes_in, put, part}
use Rattle.wire.specs.Layouts.{read, pack}
use Rattle.answer.specs.Lent.{laid_over}
use Rattle.answer.specs.Search.{must, any, first}
use Rattle.directory.specs.Blocks.{meets, meets_block, on_directory, block_fault, chain_from, chain, blocks_of}
use Rattle.directory.specs.Slots.{rows, slot_places, slots_of, live_at, base_tag, unstored_at, size_at, clash, element_fault, slot_fault}
use Rattle.directory.specs.Opening.{slots_from, open_chain, headed, open_of}
use Rattle.directory.specs.Lookup.{has, find}
use Rattle.directory.specs.Links.{last_of}
use Rattle.directory.specs.Cases.{four_bytes, A, Row, opening_cases}
use Rattle.journal.specs.Outcomes.{passing, opened_to}
use Rattle.journal.specs.Trailers.{trailer_at, trailer_bytes, carries, carried_by, previous_at, previous_of, past_first, old_bytes}
use Rattle.journal.specs.Edits.{slot_bytes, free_slot, free_slots, new_block, data_offset, data_slot, slot_edit, block_edit, fit_fault, fitted, bad_tag, tagged, add_at, add_of, replace_of}
use Rattle.journal.specs.Undos.{restored, place_known, known, opens, sound, desk_fault, restored_fault, undo_to, undo_by, undo_of}
use Rattle.journal.specs.Buffers.{image_in, add_in, replace_in, undo_in}
use Rattle.journal.specs.History.{edited, below, decided, pushed, popped, history_after, history_after_all, history_answers, outcome, size_after, left, state_after, state_after_all, answers}
use Rattle.journal.specs.Cases.{added_front, A_added, A_added_twice, marked_cases, A_old, long_above_old, old_above_long, long_above_long, desk_cases}

pub marked_cases_lem : map (λ (r : Row). r.computed) marked_cases ≡ map (λ (r : Row). r.paper) marked_cases
unfolding number_in bytes_in put part read pack must any first meets meets_block on_directory block_fault chain_from chain blocks_of rows slot_places slots_of live_at base_tag unstored_at size_at clash element_fault slot_fault slots_from open_chain headed open_of has find last_of four_bytes A opening_cases passing opened_to trailer_at trailer_bytes carries carried_by previous_at previous_of past_first old_bytes slot_bytes free_slot free_slots new_block data_offset data_slot slot_edit block_edit fit_fault fitted bad_tag tagged add_at add_of restored place_known known opens sound desk_fault restored_fault undo_to undo_by undo_of edited below decided pushed popped history_after history_after_all history_answers laid_over image_in add_in undo_in outcome size_after left state_after state_after_all answers added_front A_added A_added_twice marked_cases
marked_cases_lem = refl

-- cases of desks: trailers of both forms above each other, two desks, images that are too short
pub desk_cases_lem : map (λ (r : Row). r.computed) desk_cases ≡ map (λ (r : Row). r.paper) desk_cases
unfolding number_in bytes_in put part read pack must any first meets meets_block on_directory block_fault chain_from chain blocks_of rows slot_places slots_of live_at base_tag unstored_at size_at clash element_fault slot_fault slots_from open_chain headed open_of has find last_of four_bytes A passing opened_to trailer_at trailer_bytes carries carried_by previous_at previous_of past_first old_bytes slot_bytes free_slot free_slots new_block data_offset data_slot slot_edit block_edit fit_fault fitted bad_tag tagged add_at add_of replace_of restored place_known known opens sound desk_fault restored_fault undo_to undo_by undo_of edited below decided pushed popped history_after history_after_all history_answers laid_over image_in add_in replace_in undo_in outcome size_after left state_after state_after_all answers added_front A_added A_old long_above_old old_above_long long_above_long desk_cases
desk_cases_lem = refl
