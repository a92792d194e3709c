-- Laws of Vgroups: what their records read as and come to, the list of members, what packing lays, and where name and class lie. Assumes nothing.
use Prim.Native.Nat.{ℕ, ◌+◌, ◌*◌, ◌-◌, ◌/◌, ◌%◌, ◌<◌, ◌≤◌}
use native.Mathlib.Omega.{arith}
use mathlib.Core.Path.{◌≡◌, refl, sym, ap, ◌∙◌}
use mathlib.Core.List.{List, [], ◌∷◌, ◌++◌}
use lib.ListN.{length, length-append, get_or}
use lib.Seq.{sets}
use lib.Dec.{leb, eqb}
use borrow.Author.Tests.{leb-true, le-leb, lt-leb, eqb-true, eq-eqb, ne_eqb}
use Rattle.wire.specs.Numbers.{be, bytes, put, part, Bytes, Reads}
use Rattle.wire.specs.declared.ByteOrder.TheVariants.{BigEndian}
use Rattle.wire.proofs.Numbers.{number_small, length_bytes}
use Rattle.answer.specs.Answer.{grant, refusal, Answer, in_room}
use Rattle.answer.specs.Refusals.{RECORD, number_of}
use Rattle.directory.specs.Limits.{most_bytes}
use Rattle.directory.specs.Slots.{content_at}
use Rattle.answer.specs.declared.Refusal.{Refusal}
use Rattle.answer.proofs.Search.{must_holds, must_fails, passed}
use Rattle.answer.specs.Lent.{Does}
use Rattle.answer.specs.Search.{Hit}
use Rattle.answer.proofs.Lent.{refuses}
use Rattle.answer.specs.declared.refusals.Rule.TheVariants.{Small}
use Rattle.std.specs.Prelude.{Ok, Err}
use Rattle.storage.specs.Elements.{Located, start_at, located_at, bytes_at, offset_in, start_of}
use Rattle.storage.specs.declared.element.Part.{Part}
use Rattle.records.specs.Limits.{most_count}
use Rattle.wire.specs.Layouts.{read, extent, pack, numbers_at, bytes_each}
use Rattle.records.specs.Readings.{sound, sound_of, on_sound, record_at, record_bytes}
use Rattle.wire.proofs.Layouts.{length_numbers_at, length_bytes_each, numbers_at_next}
use Rattle.records.proofs.Readings.{sound_plain, reads_list, record_granted}
use Rattle.std.specs.Prelude.{replicate}
use Rattle.answer.proofs.Answer.{refused_is, number_positive, in_room_enough, in_room_short, in_room_passed}
use Rattle.vset.specs.Limits.{only_version}
use Rattle.vset.specs.Columns.{rows2, every}
use Rattle.vset.specs.Tails.{tail, tail_numbers, tail_pack_fault, names_end}
use Rattle.vset.specs.declared.tail.Tail.{Tail}
use Rattle.vset.specs.declared.tail.Ending.{Ending}
use Rattle.vset.proofs.Columns.{length_every, take_column, drop_column, length_rows2}
use Rattle.vset.proofs.Tails.{tail_in, tail_bytes, pack_tail, put_follows, Sound, fault_passed, tail_places}
use Rattle.vgroup.specs.Limits.{group_tag}
use Rattle.vgroup.specs.Groups.{group, group_fault, group_members, group_values, sound_group, group_at, group_of, group_bytes, group_pack_fault}
use Rattle.vgroup.specs.declared.group.Group.{Group}

-- ---- A record

abbrev pub group_in : List ℕ → Group
group_in e = read group e 0

-- a tail after no names
pub no_names : (e : List ℕ) (at : ℕ) → tail_in e (names_end e 0 at) ≡ tail_in e at
unfolding names_end
no_names e at = refl

-- what is read, field by field
pub group_parsed : (e : List ℕ) (n : ℕ) (t : Tail) → Reads 2 e 0 n → t ≡ tail_in e (2 + 4 * n)
    → ◌≡◌ {A = Group} (record { members = n; tags = 2; refs = 2 + 2 * n; tail = t }) (group_in e)
unfolding read
group_parsed e n t r q = let a : 2 + 4 * n ≡ 2 + 2 * n + 2 * n = omega arith in rw (q, a, r.is)

pub group_ends : (e : List ℕ) → extent group e 0 ≡ (group_in e).tail.end
unfolding read extent
group_ends e = refl

-- the tail stands after the members
pub tail_after : (e : List ℕ) → (group_in e).tail ≡ tail_in e (2 + 4 * (group_in e).members)
unfolding read
tail_after e = let a : 2 + 4 * be 2 e 0 ≡ 2 + 2 * be 2 e 0 + 2 * be 2 e 0 = omega arith in rw a

pub members_inside : (e : List ℕ) → 2 + 4 * (group_in e).members + 12 ≤ (group_in e).tail.end
unfolding read
members_inside e = omega arith

pub members_few : (e : List ℕ) → Bytes e → (group_in e).members < 65536
unfolding read
members_few e b = number_small BigEndian 2 e 0 b

-- ---- Its rules

module _ (e : List ℕ) where
  pub group_long : length e < (group_in e).tail.end → group_fault e ≡ RECORD
  unfolding group_fault
  group_long h = must_fails _ RECORD _ (lt-leb (extent group e 0) (length e) (omega (arith, group_ends e)))

  module _ (l : (group_in e).tail.end ≤ length e) where
    pub group_version : ((group_in e).tail.version ≡ only_version → ⊥) → group_fault e ≡ RECORD
    unfolding group_fault
    group_version h = must_holds _ RECORD _ (le-leb (extent group e 0) (length e) (omega (arith, group_ends e))) ∙ must_fails _ RECORD _ (ne_eqb _ _ h)

    pub group_sound : (group_in e).tail.version ≡ only_version → group_fault e ≡ 0
    unfolding group_fault
    group_sound h = must_holds _ RECORD _ (le-leb (extent group e 0) (length e) (omega (arith, group_ends e))) ∙ must_holds _ RECORD _ (eq-eqb _ _ h)

  -- a record that breaks no rule
  pub group_passed : group_fault e ≡ 0 → ((group_in e).tail.end ≤ length e) × ((group_in e).tail.version ≡ only_version)
  unfolding group_fault
  group_passed h =
      let a = passed (leb (extent group e 0) (length e)) 14 _ h in
      let b = passed (eqb (group_in e).tail.version only_version) 14 0 a.1 in
      (omega (arith, group_ends e, leb-true (extent group e 0) (length e) a.0), eqb-true _ _ b.0)

  -- its members lie inside
  pub group_room : group_fault e ≡ 0 → (g : Group) → g ≡ group_in e → 2 + 4 * g.members ≤ length e
  group_room h g q = rw q (omega (arith, (group_passed h).0, members_inside e))

-- ---- Its members

pub members_are : (e : List ℕ) → let n = (group_in e).members in group_members e ≡ rows2 (numbers_at 2 n e 2) (numbers_at 2 n e (2 + 2 * n))
unfolding group_members read
members_are e = refl

pub length_members : (e : List ℕ) → length (group_members e) ≡ 2 * (group_in e).members
length_members e =
    let n = (group_in e).members in
    ap length (members_are e) ∙ length_rows2 (numbers_at 2 n e 2) (numbers_at 2 n e (2 + 2 * n)) n (length_numbers_at 2 n e 2) (length_numbers_at 2 n e (2 + 2 * n))

-- members from the i-th on
abbrev pub members_after : List ℕ → ℕ → ℕ → List ℕ
members_after e n i = rows2 (numbers_at 2 (n - i) e (2 + 2 * i)) (numbers_at 2 (n - i) e (2 + 2 * n + 2 * i))

pub members_next : (e : List ℕ) (n i : ℕ) → i < n
    → members_after e n i ≡ be 2 e (2 + 2 * i) ∷ be 2 e (2 + 2 * n + 2 * i) ∷ members_after e n (i + 1)
unfolding rows2
members_next e n i h = rw (numbers_at_next 2 n e 2 i h, numbers_at_next 2 n e (2 + 2 * n) i h)

pub members_none : (e : List ℕ) (n i : ℕ) → n ≤ i → members_after e n i ≡ []
unfolding rows2 numbers_at
members_none e n i h = let z : n - i ≡ 0 = omega arith in rw z

-- all of them
abbrev pub all_members : List ℕ → ℕ → List ℕ
all_members e n = rows2 (numbers_at 2 n e 2) (numbers_at 2 n e (2 + 2 * n))

pub members_from_lem : (e : List ℕ) (n : ℕ) → members_after e n 0 ≡ all_members e n
members_from_lem e n =
    let z : n - 0 ≡ n = omega arith in
    let a : 2 + 2 * n + 2 * 0 ≡ 2 + 2 * n = omega arith in
    rw (z, a)

pub members_all : (e : List ℕ) → members_after e (group_in e).members 0 ≡ group_members e
members_all e = members_from_lem e (group_in e).members ∙ sym (members_are e)

-- ---- Reading a group

-- what a reading at what a lookup found leaves in the lent list
module _ (s : List ℕ) (found : Hit) (list : List ℕ) (l : Located) (l_is : sound_of l ≡ sound_group s found) where
  abbrev ReadsGroup : Answer → List ℕ → Type 0
  ReadsGroup numbers after = Does (group_at s found (length list)) (group_members (record_bytes s found)) list after numbers

  pub unsound : (r : Refusal) → l ≡ Err r → ReadsGroup (refusal 9 r) list
  unfolding group_at record_at
  unsound r q =
      refuses _ _ list 9 r
      (ap (on_sound 9 _) (sym l_is ∙ ap sound_of q) ∙ refused_is (replicate 9 0) (number_of r.rule) r.place (number_positive r.rule))

  -- the element is sound, and e is its bytes
  module _ (x : Part) (l_sound : l ≡ Ok x) (e : List ℕ) (is : e ≡ part s x.offset x.length) (g : Group) (parsed : g ≡ group_in e) where
    is_sound : sound_group s found ≡ sound x
    is_sound = sym l_is ∙ ap sound_of l_sound

    located : (located_at s found ≡ Ok x) × (group_fault (part s x.offset x.length) ≡ 0)
    located = sound_plain group_fault s (located_at s found) x is_sound

    -- its members lie inside
    pub members_fit : 2 + 4 * g.members ≤ length e
    members_fit = group_room e (ap group_fault is ∙ located.1) g parsed

    goes : group_at s found (length list) ≡ in_room 9 (leb (2 * g.members) (length list)) (grant (group_values x.offset g))
    unfolding group_at record_at
    goes = ap (on_sound 9 _) is_sound ∙ rw (parsed, is)

    -- all that the record is read as
    pub held : (start_of s found ≡ x.offset) × (g ≡ read group (record_bytes s found) 0)
    held =
        (ap offset_in located.0, parsed ∙ ap (λ b. read group b 0) (is ∙ sym (ap (bytes_at s) located.0)))

    pub small : length list < 2 * g.members → ReadsGroup (refusal 9 (record { rule = Small; place = 0 })) list
    small h = refuses _ _ list 9 (record { rule = Small; place = 0 }) (goes ∙ in_room_short 9 _ _ (lt-leb _ _ h))

    pub listed : 2 * g.members ≤ length list → (after : List ℕ)
        → after ≡ sets list 0 (rows2 (numbers_at 2 g.members e 2) (numbers_at 2 g.members e (2 + 2 * g.members))) → ReadsGroup (grant (group_values x.offset g)) after
    listed h after q =
        let b : record_bytes s found ≡ e = ap (bytes_at s) located.0 ∙ sym is in
        let m : rows2 (numbers_at 2 g.members e 2) (numbers_at 2 g.members e (2 + 2 * g.members)) ≡ group_members e =
        ap (λ n. rows2 (numbers_at 2 n e 2) (numbers_at 2 n e (2 + 2 * n))) (ap (λ y. y.members) parsed) ∙ sym (members_are e) in
        let l : 2 * (group_in e).members ≤ length list = rw parsed at h in
        rw b (reads_list _ _ list _ (goes ∙ in_room_enough 9 _ _ (le-leb _ _ h)) (omega (arith, length_members e)) after (rw (← m) q))

-- ---- Packing a group

module _ (members name class version : ℕ) where
  pub pack_odd : (members % 2 ≡ 0 → ⊥) → group_pack_fault members name class version ≡ RECORD
  unfolding group_pack_fault
  pack_odd h = must_fails _ RECORD _ (ne_eqb _ _ h)

  module _ (even : members % 2 ≡ 0) where
    pub pack_many : most_count < members / 2 → group_pack_fault members name class version ≡ RECORD
    unfolding group_pack_fault
    pack_many h = must_holds _ RECORD _ (eq-eqb _ _ even) ∙ must_fails _ RECORD _ (lt-leb _ _ h)

    pub pack_tail_fault : members / 2 ≤ most_count → group_pack_fault members name class version ≡ tail_pack_fault name class version 0
    unfolding group_pack_fault
    pack_tail_fault h = must_holds _ RECORD _ (eq-eqb _ _ even) ∙ must_holds _ RECORD _ (le-leb _ _ h)

  -- what breaks no rule
  pub record PackSound : Type 0 where
    pub even : members % 2 ≡ 0
    pub few : members / 2 ≤ most_count
    pub sound : Sound name class version

  pub pack_passed : group_pack_fault members name class version ≡ 0 → PackSound
  unfolding group_pack_fault
  pack_passed e =
      let a = passed (eqb (members % 2) 0) 14 _ e in
      let b = passed (leb (members / 2) most_count) 14 _ a.1 in
      record { even = eqb-true _ _ a.0; few = leb-true _ _ b.0; sound = (fault_passed name class version 0 b.1).0 }

-- the bytes of the tags, the first column, and of the references, the second
abbrev pub column : List ℕ → ℕ → List ℕ
column members first = bytes_each 2 (every first 2 (length members / 2) members)

length_column : (members : List ℕ) (first : ℕ) → length (column members first) ≡ 2 * (length members / 2)
length_column members first =
    let n = length members / 2 in length_bytes_each 2 (every first 2 n members) ∙ ap (λ k. 2 * k) (length_every first 2 n members)

module _ (members name class : List ℕ) (x : Ending) (named : Bytes name) (classed : Bytes class) where
  pub group_bytes_lem : group_bytes members name class x ≡ bytes 2 (length members / 2) ++ (column members 0 ++ (column members 1 ++ tail_bytes name class x))
  unfolding group_bytes pack
  group_bytes_lem =
      let n = length members / 2 in
      simp (take_column, drop_column)
      (ap (λ l. bytes 2 n ++ (column members 0 ++ (column members 1 ++ l))) (pack_tail (λ t. t) name class x 0 named classed))

  pub length_group : length (group_bytes members name class x) ≡ 14 + 4 * (length members / 2) + length name + length class
  length_group =
      ap length group_bytes_lem
      ∙ simp (length-append, length_bytes) (omega (arith, length_column members 0, length_column members 1))

  -- a group laid field by field
  pub laid_group : (out a b c d : List ℕ) → let n = length members / 2 in a ≡ put out 0 (bytes 2 n)
      → b ≡ put a 2 (column members 0) → c ≡ put b (2 + 2 * n) (column members 1)
      → d ≡ put c (2 + 4 * n) (pack (tail (λ t. t)) (tail_numbers name class x) (2 + 4 * n)) → d ≡ put out 0 (group_bytes members name class x)
  laid_group out a b c d ea eb ec ed =
      let n = length members / 2 in
      rw (ed, ec, eb, ea, pack_tail (λ t. t) name class x (2 + 4 * n) named classed, group_bytes_lem)
      (put_follows _ _ _ _ _ (omega (arith, length_column members 1))
      ∙ put_follows _ _ _ _ _ (omega (arith, length_column members 0))
      ∙ put_follows _ _ _ _ _ (omega (arith, length_bytes BigEndian 2 n)))

-- ---- Name and class lie inside the image

pub group_names : (s : List ℕ) (ref room start : ℕ) (g : Group) → group_of s ref room ≡ grant (group_values start g)
    → (start + g.tail.name ≤ most_bytes) × (start + g.tail.class ≤ most_bytes)
unfolding group_of group_at
group_names s ref room start g q =
    let answer : ℕ → List ℕ → Answer = λ at e. in_room 9 (leb (2 * (group_in e).members) room) (grant (group_values at (group_in e))) in
    let w = record_granted 9 s group_tag ref group_fault answer (ap (λ a. a.number) q) in
    let p = w.0 in
    let e = content_at s p in
    let is : grant (group_values start g) ≡ grant (group_values (start_at s p) (group_in e)) =
    sym q ∙ w.1.answers ∙ (in_room_passed 9 _ _ (ap (λ a. a.number) (sym w.1.answers ∙ q))).1 in
    let t = tail_places s group_tag ref p w.1.found (group_in e).tail (2 + 4 * (group_in e).members) (tail_after e) (group_passed e w.1.sound).0 in
    (omega (arith, ap (λ a. get_or a.values 1 0) is, t.0), omega (arith, ap (λ a. get_or a.values 3 0) is, t.1))
