-- The marked cases of document 01 as one table, with the numbers of document 02 (viii): 1 to 11 of opening, and 12 to 15, which name one desk
-- throughout, both by the history and by the calls on a buffer; and cases of desks. Assumes
-- nothing.
use Rattle.std.specs.Prelude.{ℕ, ◌-◌, List, [], ◌∷◌, ◌++◌, length, take, drop, replicate}
use Rattle.wire.specs.Numbers.{bytes, put}
use Rattle.answer.specs.Answer.{Answer}
use Rattle.directory.specs.Cases.{four_bytes, A, Row, answer_numbers, opening_cases}
use Rattle.journal.specs.Outcomes.{file_of}
use Rattle.journal.specs.Trailers.{unnamed}
use Rattle.journal.specs.Edits.{free_slots}
use Rattle.journal.specs.History.{Edit, add, replace, Call, edit, undo, Entry, started, edited, history_after_all, history_answers, State, state_after_all, answers}

-- ---- The calls

-- by one desk throughout
abbrev pub one_desk : ℕ
one_desk = 7

-- case 12: adding 40000/5 with byte 2a
abbrev pub first_add : Call
first_add = edit one_desk (add 40000 5 (0x2a ∷ []))

-- case 13: a further one-byte add
abbrev pub further_add : Call
further_add = edit one_desk (add 40000 6 (0x2a ∷ []))

-- cases 14 and 15
abbrev pub undo_one : Call
undo_one = undo one_desk

-- file A with 40000/5 in its second slot (at 22), the byte 2a (at 37), and the trailer (at 38) up to where its forms differ
unfoldable pub added_front : List ℕ
added_front =
    four_bytes
    ++ bytes 2 0x0002
    ++ bytes 4 0x00000000
    ++ bytes 12 0x006400010000002200000003
    ++ bytes 12 0x9c4000050000002500000001
    ++ bytes 3 0x687562
    ++ bytes 1 0x2a
    ++ bytes 4 0x00000016
    ++ bytes 4 0x0000000c
    ++ bytes 12 0x000100000000000000000000
    ++ bytes 4 0x00000025
    ++ bytes 4 0x00000000

unfoldable pub A_added : List ℕ
A_added = added_front ++ bytes 4 one_desk ++ bytes 4 0x42414332

-- the same with a block behind it, linked from the first block (at 6): 16 slots (at 80), 40000/6 in the first and 1, 0, 0, 0 in the others;
-- the byte 2a (at 272), and the trailer (at 273)
unfoldable pub A_added_twice : List ℕ
A_added_twice =
    put A_added 6 (bytes 4 0x0000004a)
    ++ bytes 2 0x0010
    ++ bytes 4 0x00000000
    ++ bytes 12 0x9c4000060000011000000001
    ++ free_slots 15
    ++ bytes 1 0x2a
    ++ bytes 4 0x00000006
    ++ bytes 4 0x00000004
    ++ bytes 12 0
    ++ bytes 4 0x0000004a
    ++ bytes 4 0x00000026
    ++ bytes 4 one_desk
    ++ bytes 4 0x42414332

-- what undo leaves behind A: it writes the old bytes and nothing else
abbrev pub after_undo : List ℕ
after_undo = drop 37 A_added_twice ++ replicate 91 0xff

-- ---- Rows

abbrev pub all_numbers : List Answer → List ℕ
all_numbers [] = []
all_numbers (a ∷ rest) = answer_numbers a ++ all_numbers rest

-- the files of a history, the newest first: each that an edit made as its desk, its length and its bytes, then the start file
abbrev pub stack : List ℕ → List Entry → List ℕ
stack start [] = length start ∷ start
stack start (m ∷ ms) = m.desk ∷ (length m.file ∷ m.file ++ stack start ms)

abbrev pub by_one : List ℕ → Entry
by_one file = record { file = file; desk = one_desk }

-- by the history, in a buffer of so many bytes that begins with A: the answers to some calls, then its files
abbrev pub by_history : ℕ → List Call → List ℕ → List Entry → Row
by_history capacity calls numbers made =
    let h = history_after_all capacity calls (started A) in
    record { computed = all_numbers (history_answers capacity calls (started A)) ++ stack h.start h.made; paper = numbers ++ stack A made }

-- by the calls themselves, in a buffer of A and other bytes: the answers, then the length and the bytes of the file, and the rest of the buffer
abbrev pub by_calls : ℕ → List Call → List ℕ → List ℕ → List ℕ → Row
by_calls capacity calls numbers file rest =
    let m : State = record { buffer = A ++ replicate (capacity - 37) 0xff; size = 37 } in
    let after = state_after_all calls m in
    record { computed = all_numbers (answers calls m) ++ (after.size ∷ after.buffer); paper = numbers ++ (length file ∷ file ++ rest) }

-- ---- Cases

-- 12. Adding 40000/5 with byte 2a to A: 74 bytes
-- 13. A further one-byte add: 309 bytes; with a buffer of 308, 19
-- 14. Two take-backs: A
-- 15. A third: 20
unfoldable pub marked_cases : List Row
marked_cases =
    opening_cases
    -- 12
    ++ (by_history 400 (first_add ∷ []) (0 ∷ 0 ∷ 74 ∷ []) (by_one A_added ∷ [])
    ∷ by_calls 400 (first_add ∷ []) (0 ∷ 0 ∷ 74 ∷ []) A_added (replicate 326 0xff)
    -- 13
    ∷ by_history 400 (first_add ∷ further_add ∷ []) (0 ∷ 0 ∷ 74 ∷ 0 ∷ 0 ∷ 309 ∷ []) (by_one A_added_twice ∷ by_one A_added ∷ [])
    ∷ by_calls 400 (first_add ∷ further_add ∷ []) (0 ∷ 0 ∷ 74 ∷ 0 ∷ 0 ∷ 309 ∷ []) A_added_twice (replicate 91 0xff)
    ∷ by_history 308 (first_add ∷ further_add ∷ []) (0 ∷ 0 ∷ 74 ∷ 19 ∷ 0 ∷ 0 ∷ []) (by_one A_added ∷ [])
    ∷ by_calls 308 (first_add ∷ further_add ∷ []) (0 ∷ 0 ∷ 74 ∷ 19 ∷ 0 ∷ 0 ∷ []) A_added (replicate 234 0xff)
    -- 14
    ∷ by_history 400 (first_add ∷ further_add ∷ undo_one ∷ undo_one ∷ []) (0 ∷ 0 ∷ 74 ∷ 0 ∷ 0 ∷ 309 ∷ 0 ∷ 0 ∷ 74 ∷ 0 ∷ 0 ∷ 37 ∷ []) []
    ∷ by_calls 400 (first_add ∷ further_add ∷ undo_one ∷ undo_one ∷ []) (0 ∷ 0 ∷ 74 ∷ 0 ∷ 0 ∷ 309 ∷ 0 ∷ 0 ∷ 74 ∷ 0 ∷ 0 ∷ 37 ∷ []) A after_undo
    -- 15
    ∷ by_history 400 (first_add ∷ further_add ∷ undo_one ∷ undo_one ∷ undo_one ∷ [])
    (0 ∷ 0 ∷ 74 ∷ 0 ∷ 0 ∷ 309 ∷ 0 ∷ 0 ∷ 74 ∷ 0 ∷ 0 ∷ 37 ∷ 20 ∷ 0 ∷ 0 ∷ []) []
    ∷ by_calls 400 (first_add ∷ further_add ∷ undo_one ∷ undo_one ∷ undo_one ∷ [])
    (0 ∷ 0 ∷ 74 ∷ 0 ∷ 0 ∷ 309 ∷ 0 ∷ 0 ∷ 74 ∷ 0 ∷ 0 ∷ 37 ∷ 20 ∷ 0 ∷ 0 ∷ []) A after_undo
    ∷ [])

-- ---- Desks

-- document 01's own case 12, from before there were desks: 70 bytes, the trailer at 38
unfoldable pub A_old : List ℕ
A_old = added_front ++ bytes 4 0x4241434b

-- 100/1 replaced by the byte 2b behind a file, and the trailer up to where its forms differ
abbrev pub replaced_front : List ℕ → ℕ → ℕ → List ℕ
replaced_front file before previous =
    put file 14 (bytes 4 before ++ bytes 4 0x00000001)
    ++ bytes 1 0x2b
    ++ bytes 4 0x0000000a
    ++ bytes 4 0x0000000c
    ++ bytes 12 0x006400010000002200000003
    ++ bytes 4 before
    ++ bytes 4 previous

-- a long trailer at 71, of the last desk, above the old one; an old one at 75 above the long one
abbrev pub last_desk : ℕ
last_desk = 4294967295

unfoldable pub long_above_old : ℕ → List ℕ
long_above_old previous = replaced_front A_old 70 previous ++ bytes 4 last_desk ++ bytes 4 0x42414332

unfoldable pub old_above_long : ℕ → List ℕ
old_above_long previous = replaced_front A_added 74 previous ++ bytes 4 0x4241434b

unfoldable pub long_above_long : List ℕ
long_above_long = replaced_front A_added 74 38 ++ bytes 4 last_desk ++ bytes 4 0x42414332

abbrev pub replace_hub : Edit
replace_hub = replace 100 1 (0x2b ∷ [])

-- the header and an empty block, then zeros, and these closing bytes: an image of so many bytes
abbrev pub ends_in : ℕ → ℕ → List ℕ
ends_in size closing = four_bytes ++ bytes 6 0 ++ replicate (size - 14) 0 ++ bytes 4 closing

-- what an edit made of a file before there were desks
abbrev pub made_old : Edit → List ℕ → List ℕ → Row
made_old e file made = record { computed = file_of (edited 400 unnamed e file); paper = made }

-- the answers to calls on a file, and the file that they leave
abbrev pub on_file : List ℕ → List Call → List ℕ → List ℕ → Row
on_file file calls numbers after =
    let m : State = record { buffer = file ++ replicate 200 0xff; size = length file } in
    let n = state_after_all calls m in
    record { computed = all_numbers (answers calls m) ++ (n.size ∷ take n.size n.buffer); paper = numbers ++ (length after ∷ after) }

unfoldable pub desk_cases : List Row
desk_cases =
    made_old (add 40000 5 (0x2a ∷ [])) A A_old
    ∷ made_old replace_hub A_added (old_above_long 0)
    -- an old trailer is desk 0's
    ∷ on_file A_old (undo one_desk ∷ undo 0 ∷ undo 0 ∷ []) (30 ∷ 38 ∷ 0 ∷ 0 ∷ 0 ∷ 37 ∷ 20 ∷ 0 ∷ 0 ∷ []) A
    -- a long one above it, which counts it
    ∷ on_file A_old (edit last_desk replace_hub ∷ []) (0 ∷ 0 ∷ 107 ∷ []) (long_above_old 38)
    ∷ on_file (long_above_old 38) (undo 0 ∷ undo last_desk ∷ undo last_desk ∷ undo 0 ∷ [])
    (30 ∷ 71 ∷ 0 ∷ 0 ∷ 0 ∷ 70 ∷ 30 ∷ 38 ∷ 0 ∷ 0 ∷ 0 ∷ 37 ∷ []) A
    -- which does not count it, or counts it as a long one
    ∷ on_file (long_above_old 0) (undo last_desk ∷ []) (21 ∷ 71 ∷ 0 ∷ []) (long_above_old 0)
    ∷ on_file (long_above_old 34) (undo 0 ∷ []) (21 ∷ 71 ∷ 0 ∷ []) (long_above_old 34)
    -- an old trailer above a long one, which it does not count
    ∷ on_file (old_above_long 0) (undo one_desk ∷ undo 0 ∷ undo 0 ∷ undo one_desk ∷ [])
    (30 ∷ 75 ∷ 0 ∷ 0 ∷ 0 ∷ 74 ∷ 30 ∷ 38 ∷ 0 ∷ 0 ∷ 0 ∷ 37 ∷ []) A
    ∷ on_file (old_above_long 38) (undo 0 ∷ []) (21 ∷ 75 ∷ 0 ∷ []) (old_above_long 38)
    ∷ on_file (old_above_long 42) (undo one_desk ∷ []) (21 ∷ 75 ∷ 0 ∷ []) (old_above_long 42)
    -- two desks, by the calls and by the history
    ∷ on_file A (first_add ∷ edit last_desk replace_hub ∷ undo_one ∷ []) (0 ∷ 0 ∷ 74 ∷ 0 ∷ 0 ∷ 111 ∷ 30 ∷ 75 ∷ 0 ∷ []) long_above_long
    ∷ on_file A (first_add ∷ edit last_desk replace_hub ∷ undo last_desk ∷ undo last_desk ∷ undo_one ∷ [])
    (0 ∷ 0 ∷ 74 ∷ 0 ∷ 0 ∷ 111 ∷ 0 ∷ 0 ∷ 74 ∷ 30 ∷ 38 ∷ 0 ∷ 0 ∷ 0 ∷ 37 ∷ []) A
    ∷ by_history 400 (first_add ∷ edit last_desk replace_hub ∷ undo_one ∷ []) (0 ∷ 0 ∷ 74 ∷ 0 ∷ 0 ∷ 111 ∷ 30 ∷ 75 ∷ 0 ∷ [])
    (record { file = long_above_long; desk = last_desk } ∷ by_one A_added ∷ [])
    -- too short for its closing bytes, and just long enough
    ∷ on_file (ends_in 45 0x42414332) (undo 0 ∷ []) (20 ∷ 0 ∷ 0 ∷ []) (ends_in 45 0x42414332)
    ∷ on_file (ends_in 46 0x42414332) (undo 0 ∷ []) (21 ∷ 10 ∷ 0 ∷ []) (ends_in 46 0x42414332)
    ∷ on_file (ends_in 41 0x4241434b) (undo 0 ∷ []) (20 ∷ 0 ∷ 0 ∷ []) (ends_in 41 0x4241434b)
    ∷ on_file (ends_in 42 0x4241434b) (undo 0 ∷ []) (21 ∷ 10 ∷ 0 ∷ []) (ends_in 42 0x4241434b)
    ∷ []
