-- What is asked of a group in the order in which it is judged, as facts, after document 01, "Records". The numbers are the paper's own.
-- Assumes nothing.
use Rattle.std.specs.Prelude.{ℕ, ◌*◌, ◌≤◌, ◌≡◌, List, length}
use Rattle.answer.specs.Search.{Hit}
use Rattle.answer.specs.Rules.{Rules, done, rule}
use Rattle.wire.specs.Numbers.{be}
use Rattle.wire.specs.Layouts.{read}
use Rattle.directory.specs.Lookup.{find}
use Rattle.records.specs.Readings.{record_bytes}
use Rattle.directory.specs.Faults.{opened_rules}
use Rattle.records.specs.RecordRules.{slot_in, plain_rules}
use Rattle.vgroup.specs.Groups.{group}

-- its last field ends among its bytes, and its version is 3; then what is asked after these
abbrev pub whole_rules : List ℕ → Hit → Rules → Rules
whole_rules s found rest =
    let e = record_bytes s found in
    let tail = (read group e 0).tail in
    rule 15 (slot_in found) ((tail.end ≤ length e) × (tail.version ≡ 3)) rest

-- before these: it is there, stored, in plain storage
abbrev pub sound_rules : List ℕ → Hit → Rules → Rules
sound_rules s found rest = plain_rules s found (whole_rules s found rest)

abbrev pub group_rules : List ℕ → Hit → Rules
group_rules s found = sound_rules s found done

-- reading: the image opens, the group is sound, and a list of so many numbers has room for tag and reference of each member
abbrev pub group_read_rules : List ℕ → ℕ → ℕ → Rules
group_read_rules s ref room =
    let found = find s 1965 ref in
    opened_rules s (sound_rules s found (rule 14 0 (2 * be 2 (record_bytes s found) 0 ≤ room) done))
