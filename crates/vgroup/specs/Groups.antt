-- Vgroups, tag 1965, after document 01, "Records". Assumes nothing.
use Rattle.std.specs.Prelude.{ℕ, ◌*◌, ◌/◌, ◌%◌, List, ◌∷◌, ◌++◌, length, leb, eqb, Result, Ok, Err}
use Rattle.answer.specs.Answer.{Answer, grant, refusal, in_room}
use Rattle.answer.specs.declared.Refusal.{Refusal}
use Rattle.answer.specs.Search.{must, Hit}
use Rattle.records.specs.Limits.{most_count}
use Rattle.answer.specs.Refusals.{RECORD}
use Rattle.wire.specs.Layouts.{Layout, number, run, read, numbers_at, pack}
use Rattle.directory.specs.Opening.{opened}
use Rattle.directory.specs.Lookup.{find}
use Rattle.storage.specs.Elements.{located_at}
use Rattle.records.specs.Readings.{Sound, sound_in, record_at, within}
use Rattle.vset.specs.Limits.{only_version}
use Rattle.vgroup.specs.Limits.{group_tag}
use Rattle.vset.specs.Columns.{rows2, every}
use Rattle.vset.specs.Tails.{tail, tail_values, tail_numbers, tail_pack_fault}
use Rattle.vset.specs.declared.tail.Ending.{Ending}
use Rattle.vgroup.specs.declared.group.Group.{Group}
use Rattle.vgroup.specs.declared.group.Placed.{Placed}

-- count, all tags, all references, then the tail
abbrev pub group : Layout Group
group = number 2 (λ members. run 2 members (λ tags. run 2 members (λ refs. tail (λ t. record { members = members; tags = tags; refs = refs; tail = t }))))

-- the record among its bytes, version 3
unfoldable pub group_fault : List ℕ → ℕ
group_fault e = must (within group e) RECORD (must (eqb (read group e 0).tail.version only_version) RECORD 0)

-- tag and reference of each member
unfoldable pub group_members : List ℕ → List ℕ
group_members e =
    let g = read group e 0 in rows2 (numbers_at 2 g.members e g.tags) (numbers_at 2 g.members e g.refs)

-- members, where name and class stand in the image and how long they are, extension tag, extension reference, version, more
abbrev pub group_values : ℕ → Group → List ℕ
group_values start g = g.members ∷ tail_values start g.tail

abbrev pub group_numbers : Result Placed Refusal → Answer
group_numbers (Ok x) = grant (group_values x.start x.group)
group_numbers (Err r) = refusal 9 r

-- the element of a group that is sound, or the refusal: 11, 12, 15
abbrev pub sound_group : List ℕ → Hit → Sound
sound_group s found = sound_in group_fault s (located_at s found)

unfoldable pub group_at : List ℕ → Hit → ℕ → Answer
group_at s found room =
    record_at 9 s found group_fault
    (λ at e. let g = read group e 0 in in_room 9 (leb (2 * g.members) room) (grant (group_values at g)))

unfoldable pub group_of : List ℕ → ℕ → ℕ → Answer
group_of s ref room = opened 9 s (group_at s (find s group_tag ref) room)

-- the bytes of a Vgroup with these members, tag and reference of each
unfoldable pub group_bytes : List ℕ → List ℕ → List ℕ → Ending → List ℕ
group_bytes members name class x =
    let n = length members / 2 in pack group (n ∷ (every 0 2 n members ++ (every 1 2 n members ++ tail_numbers name class x))) 0

-- so many entries of members: whole pairs, a count of 16 bits; then the tail
unfoldable pub group_pack_fault : ℕ → ℕ → ℕ → ℕ → ℕ
group_pack_fault members name class version =
    must (eqb (members % 2) 0) RECORD (must (leb (members / 2) most_count) RECORD (tail_pack_fault name class version 0))
