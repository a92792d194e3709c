-- What a reader may rely on of Vgroups: packing what was read is granted and gives back its bytes, reading gives back what was packed,
-- what is granted and what is refused, and what a granted reading tells, each field at its place among the record's bytes. Assumes nothing.
use Prim.Native.Nat.{ℕ, zero, suc, ◌+◌, ◌*◌, ◌/◌, ◌<◌, ◌≤◌}
use native.Mathlib.Omega.{arith}
use mathlib.Core.Path.{◌≡◌, sym, ap, ◌∙◌}
use mathlib.Core.Logic.{◌↔◌}
use mathlib.Core.Bool.{false}
use mathlib.Core.List.{List, [], ◌∷◌, ◌++◌}
use lib.ListN.{length, get_or}
use lib.Dec.{leb}
use borrow.Author.Tests.{le-leb}
use Rattle.wire.specs.Numbers.{be, part, Bytes}
use Rattle.wire.specs.Layouts.{read, numbers_at}
use Rattle.answer.specs.Answer.{grant, refuse, in_room}
use Rattle.answer.specs.Rules.{AllHold, FirstBroken}
use Rattle.answer.specs.Search.{hit}
use Rattle.directory.specs.Slots.{content_at}
use Rattle.directory.specs.Opening.{open_of}
use Rattle.directory.specs.Lookup.{find}
use Rattle.directory.specs.Named.{NamedUnstored}
use Rattle.storage.specs.Elements.{start_at, start_of, extended_at, plain_only, offset_in}
use Rattle.storage.proofs.Elements.{content_stored}
use Rattle.records.specs.Readings.{record_bytes}
use Rattle.records.specs.Packings.{PacksBack}
use Rattle.records.proofs.Readings.{record_granted, content_passes, content_bytes}
use Rattle.records.proofs.Packings.{packs_back}
use Rattle.records.proofs.RecordRules.{by_exactly, by_unstored}
use Rattle.answer.proofs.Answer.{in_room_enough, in_room_passed}
use Rattle.vset.specs.Columns.{rows2}
use Rattle.vset.specs.declared.tail.Tail.{Tail}
use Rattle.vset.specs.declared.tail.Ending.{Ending}
use Rattle.vset.proofs.Tails.{Narrow, ending_of, tail_named}
use Rattle.vgroup.specs.Limits.{group_tag}
use Rattle.vgroup.specs.Groups.{group, group_fault, group_members, group_values, group_at, group_of, group_bytes, group_pack_fault}
use Rattle.vgroup.specs.declared.group.Group.{Group}
use Rattle.vgroup.specs.GroupRules.{group_read_rules}
use Rattle.vgroup.proofs.Groups.{group_in, tail_after, length_members, pack_passed}
use Rattle.vgroup.proofs.GroupsBack.{pack_own, own_passes, read_back}
use Rattle.vgroup.proofs.GroupFacts.{group_read_by}

-- ---- Packing what was read

pub group_packs : (s : List ℕ) (ref room : ℕ) → Bytes s → (group_of s ref room).number ≡ 0
    → let e = record_bytes s (find s group_tag ref) in let t = (group_in e).tail in
    let members = group_members e in let name = part e t.name t.name_length in let class = part e t.class t.class_length in
    PacksBack (group_pack_fault (length members) (length name) (length class) t.version) (group_bytes members name class (ending_of t)) (part e 0 t.end)
unfolding group_of group_at
group_packs s ref room b granted =
    let g = record_granted 9 s group_tag ref group_fault _ granted in
    let e = content_at s g.0 in
    let bytes = content_bytes s g.0 b in
    rw g.1.bytes (packs_back _ _ _ (own_passes e g.1.sound bytes) (pack_own e g.1.sound bytes))

-- ---- Reading what was packed

-- what is packed: it breaks no rule, and its numbers and bytes are as large as their fields allow
pub record Packable (members name class : List ℕ) (x : Ending) : Type 0 where
  pub sound : group_pack_fault (length members) (length name) (length class) x.version ≡ 0
  pub narrow : (i : ℕ) → get_or members i 0 < 65536
  pub named : Bytes name
  pub classed : Bytes class
  pub ending : Narrow x

-- what reading a group that was packed gives back: the answer, with the places of name and class in the image; the members; and name and
-- class, in the parts of the record that the answer tells of
pub record Back (s : List ℕ) (ref room p : ℕ) (members name class : List ℕ) (x : Ending) : Type 0 where
  pub answers : let n = length members / 2 in
      group_of s ref room
      ≡ grant (n ∷ (start_at s p + (2 + 4 * n + 2)) ∷ length name ∷ (start_at s p + (2 + 4 * n + 2 + length name + 2)) ∷ length class
      ∷ x.extension_tag ∷ x.extension_ref ∷ x.version ∷ x.more ∷ [])
  pub members_are : group_members (record_bytes s (find s group_tag ref)) ≡ members
  pub name_is : part (record_bytes s (find s group_tag ref)) (2 + 4 * (length members / 2) + 2) (length name) ≡ name
  pub class_is : part (record_bytes s (find s group_tag ref)) (2 + 4 * (length members / 2) + 2 + length name + 2) (length class) ≡ class

pub group_reads : (members name class : List ℕ) (x : Ending) → Packable members name class x
    → (s : List ℕ) (ref p : ℕ) → (open_of s).number ≡ 0 → find s group_tag ref ≡ hit p → extended_at s p ≡ false
    → (rest : List ℕ) → content_at s p ≡ group_bytes members name class x ++ rest → (room : ℕ) → length members ≤ room
    → Back s ref room p members name class x
unfolding group_of group_at
group_reads members name class x q s ref p sound found plain rest is room fits =
    let b = read_back members name class x (pack_passed _ _ _ _ q.sound) q.narrow q.named q.classed q.ending (content_at s p) rest is in
    let g = content_passes 9 s group_tag ref group_fault _ p sound found (content_stored s p b.not_empty) plain b.sound in
    record {
      answers =
          g.answers
          ∙ ap (λ g. in_room 9 (leb (2 * g.members) room) (grant (group_values (start_at s p) g))) b.read_is
          ∙ in_room_enough 9 _ _ (le-leb (2 * (length members / 2)) room (omega arith));
      members_are = rw g.bytes b.members_are;
      name_is = rw g.bytes b.name_is;
      class_is = rw g.bytes b.class_is;
    }

-- ---- What is granted and what is refused

module _ (s : List ℕ) (ref room : ℕ) where
  pub group_read_granted : ((group_of s ref room).number ≡ 0) ↔ AllHold (group_read_rules s ref room)
  group_read_granted = (by_exactly 9 _ _ (group_read_by s ref room)).0

  pub group_read_refused : (n p : ℕ) → ((group_of s ref room ≡ refuse 9 n p) × (n ≡ 0 → ⊥)) ↔ FirstBroken (group_read_rules s ref room) n p
  group_read_refused = (by_exactly 9 _ _ (group_read_by s ref room)).1

  -- 29 exactly if it is named and not stored yet
  pub group_read_unstored : (p : ℕ) → (group_of s ref room ≡ refuse 9 29 p) ↔ NamedUnstored s 1965 ref p
  group_read_unstored = by_unstored 9 _ s 1965 ref _ (group_read_by s ref room) (omega arith, (omega arith, tt))

-- ---- What is told

-- the i-th row of two runs
row_at_lem : (n : ℕ) (e : List ℕ) (a b i : ℕ) → i < n
    → let rows = rows2 (numbers_at 2 n e a) (numbers_at 2 n e b) in
    (get_or rows (2 * i) 0 ≡ be 2 e (a + 2 * i)) × (get_or rows (2 * i + 1) 0 ≡ be 2 e (b + 2 * i))
unfolding numbers_at rows2
row_at_lem zero e a b i h = absurd (omega arith)
row_at_lem (suc n) e a b zero h =
    let first : a ≡ a + 2 * 0 = omega arith in
    let second : b ≡ b + 2 * 0 = omega arith in
    (ap (be 2 e) first, ap (be 2 e) second)
row_at_lem (suc n) e a b (suc i) h =
    let rows = rows2 (numbers_at 2 (suc n) e a) (numbers_at 2 (suc n) e b) in
    let rest = row_at_lem n e (a + 2) (b + 2) i (omega arith) in
    let even : 2 * suc i ≡ suc (suc (2 * i)) = omega arith in
    let odd : 2 * suc i + 1 ≡ suc (suc (2 * i + 1)) = omega arith in
    let first : a + 2 + 2 * i ≡ a + 2 * suc i = omega arith in
    let second : b + 2 + 2 * i ≡ b + 2 * suc i = omega arith in
    (ap (λ k. get_or rows k 0) even ∙ rest.0 ∙ ap (be 2 e) first, ap (λ k. get_or rows k 0) odd ∙ rest.1 ∙ ap (be 2 e) second)

module _ (e : List ℕ) where
  -- what is read of the bytes e, by name
  pub group_named : let n = be 2 e 0 in let l = be 2 e (2 + 4 * n) in let m = be 2 e (2 + 4 * n + 2 + l) in let t = 2 + 4 * n + 2 + l + 2 + m in
      read group e 0
      ≡ record {
        members = n;
        tags = 2;
        refs = 2 + 2 * n;
        tail =
            record {
              name = 2 + 4 * n + 2;
              name_length = l;
              class = 2 + 4 * n + 2 + l + 2;
              class_length = m;
              extension_tag = be 2 e t;
              extension_ref = be 2 e (t + 2);
              version = be 2 e (t + 4);
              more = be 2 e (t + 6);
              end = t + 8;
            };
      }
  unfolding read
  group_named =
      let n = be 2 e 0 in
      let with_tail : Tail → Group = λ t. record { members = n; tags = 2; refs = 2 + 2 * n; tail = t } in
      ap with_tail (tail_after e) ∙ ap with_tail (tail_named e (2 + 4 * n))

  members_told : let n = be 2 e 0 in
      (length (group_members e) ≡ 2 * n)
      × ((i : ℕ) → i < n → (get_or (group_members e) (2 * i) 0 ≡ be 2 e (2 + 2 * i)) × (get_or (group_members e) (2 * i + 1) 0 ≡ be 2 e (2 + 2 * n + 2 * i)))
  unfolding read group_members
  members_told = (length_members e, row_at_lem (be 2 e 0) e 2 (2 + 2 * be 2 e 0))

-- the member count n from byte 0, all tags from 2 on, all references after them; then name length and name, class length and class, extension
-- tag, extension reference, version, more
pub group_fields : (s : List ℕ) (ref room : ℕ) → (group_of s ref room).number ≡ 0
    → let e = record_bytes s (find s 1965 ref) in let start = start_of s (find s 1965 ref) in
    let n = be 2 e 0 in let l = be 2 e (2 + 4 * n) in let m = be 2 e (2 + 4 * n + 2 + l) in let t = 2 + 4 * n + 2 + l + 2 + m in
    (group_of s ref room
    ≡ grant (n ∷ (start + (2 + 4 * n + 2)) ∷ l ∷ (start + (2 + 4 * n + 2 + l + 2)) ∷ m ∷ be 2 e t ∷ be 2 e (t + 2) ∷ be 2 e (t + 4) ∷ be 2 e (t + 6) ∷ []))
    × (length (group_members e) ≡ 2 * n)
    × ((i : ℕ) → i < n → (get_or (group_members e) (2 * i) 0 ≡ be 2 e (2 + 2 * i)) × (get_or (group_members e) (2 * i + 1) 0 ≡ be 2 e (2 + 2 * n + 2 * i)))
unfolding group_of group_at
group_fields s ref room granted =
    let g = record_granted 9 s 1965 ref group_fault _ granted in
    let e = record_bytes s (find s 1965 ref) in
    let start = start_of s (find s 1965 ref) in
    let starts : start ≡ start_at s g.0 = ap (λ x. offset_in (plain_only x)) g.1.found.is in
    let answers =
    g.1.answers
    ∙ ap (λ b. in_room 9 (leb (2 * (group_in b).members) room) (grant (group_values (start_at s g.0) (group_in b)))) (sym g.1.bytes)
    ∙ ap (λ o. in_room 9 (leb (2 * (group_in e).members) room) (grant (group_values o (group_in e)))) (sym starts) in
    let told = members_told e in (
      answers ∙ (in_room_passed 9 _ _ (ap (λ a. a.number) (sym answers) ∙ granted)).1 ∙ ap (λ g. grant (group_values start g)) (group_named e),
      told.0,
      told.1,
    )
