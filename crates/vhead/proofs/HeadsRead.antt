-- Laws of reading heads of Vdatas: the rules of a record, what a call answers and leaves in the lent lists, and where names lie. Assumes nothing.
use Prim.Native.Nat.{ℕ, ◌+◌, ◌*◌, ◌/◌, ◌<◌, ◌≤◌, min, ◌-◌}
use native.Mathlib.Omega.{arith}
use mathlib.Core.Path.{◌≡◌, refl, sym, ap, ◌∙◌, subst}
use mathlib.Core.List.{List}
use lib.ListN.{length, get_or, take, drop, length-take, length-drop, take-append-drop}
use lib.Seq.{sets, take-append_seam}
use lib.Dec.{leb, eqb}
use borrow.Author.Tests.{leb-true, le-leb, lt-leb, eqb-true, eq-eqb}
use Rattle.answer.specs.Refusals.{TOO_LONG, RECORD}
use Rattle.answer.specs.Answer.{Answer, grant, refuse, refusal, unless_with, unless, in_room}
use Rattle.answer.specs.Search.{Hit}
use Rattle.answer.specs.declared.Refusal.{Refusal}
use Rattle.answer.proofs.Search.{must_holds, must_fails, passed}
use Rattle.answer.proofs.Answer.{unless_passes, unless_passed, refused_is, refusal_is, in_room_enough, in_room_short, in_room_passed}
use Rattle.answer.proofs.Lent.{refuses}
use Rattle.wire.specs.Numbers.{part, be}
use Rattle.wire.specs.Layouts.{extent, read}
use Rattle.directory.specs.Limits.{most_bytes}
use Rattle.directory.specs.Lookup.{find, find_in}
use Rattle.directory.specs.Steps.Opens.{Opens}
use Rattle.directory.proofs.Rules.{opens_kept}
use Rattle.directory.proofs.Opens.{opened_goes, opened_passed, opened_find, opened_answer, opened_does}
use Rattle.storage.specs.Elements.{Located, located_at, offset_in, start_of}
use Rattle.std.specs.Prelude.{Result, Ok, Err, replicate}
use Rattle.answer.specs.Refusals.{number_of}
use Rattle.answer.specs.declared.refusals.Rule.{Rule}
use Rattle.answer.specs.declared.refusals.Rule.TheVariants as rule
use Rattle.storage.specs.declared.element.Part.{Part}
use Rattle.records.specs.Readings.{Sound, sound, refused as stopped, on_sound, sound_in, record_at, record_bytes}
use Rattle.records.proofs.Readings.{sound_plain, sound_positive, reads_refusal, reads_broken, reads_passed, reads_bytes, reads_list}
use Rattle.vset.specs.Limits.{only_version}
use Rattle.vset.specs.Tails.{names_end}
use Rattle.vset.proofs.Tails.{tail_in, names_low, names_split}
use Rattle.vhead.specs.Limits.{head_tag, most_head_interlace, most_fields}
use Rattle.vhead.specs.Heads.{head, head_in, field_at, fields_from, fields_of, fields_fault, head_fault, head_fields, head_names, head_values, head_numbers, head_at, head_within, unless_long, ReadsHead, named_field}
use Rattle.vhead.specs.Steps.{HeadHeld, Held}
use Rattle.vhead.specs.declared.head.Head.{Head}
use Rattle.vhead.specs.declared.head.Found.{Found}
use Rattle.vhead.proofs.Heads.{placed, head_ends, names_are, length_names, length_fields, head_is, fields_count}

-- ---- The rules of a record

module _ (e : List ℕ) where
  -- a head that was read of it, and breaks no rule but those of fields
  pub head_goes_on : (h : Head) → h ≡ head_in e → h.tail.end ≤ length e → h.tail.version ≡ only_version → h.interlace ≤ most_head_interlace → h.fields ≤ most_fields
      → head_fault e ≡ fields_fault h.record_size (fields_from (field_at e (head_in e)) h.fields 0)
  unfolding head_fault
  head_goes_on h parsed l v i m =
      must_holds _ RECORD _ (le-leb (extent head e 0) (length e) (omega (arith, head_ends e, ap (λ x. x.tail.end) parsed)))
      ∙ must_holds _ RECORD _ (eq-eqb _ _ (rw parsed at v))
      ∙ must_holds _ RECORD _ (le-leb _ _ (rw parsed at i))
      ∙ must_holds _ RECORD _ (le-leb _ _ (rw parsed at m))
      ∙ ap (λ x. fields_fault x.record_size (fields_from (field_at e (head_in e)) x.fields 0)) (sym parsed)

  -- a record that breaks no rule
  pub record HeadSound : Type 0 where
    pub inside : (head_in e).tail.end ≤ length e
    pub version : (head_in e).tail.version ≡ only_version
    pub interlace : (head_in e).interlace ≤ most_head_interlace
    pub few : (head_in e).fields ≤ most_fields
    pub fields : fields_fault (head_in e).record_size (fields_of e (head_in e)) ≡ 0

  pub head_passed : head_fault e ≡ 0 → HeadSound
  unfolding head_fault
  head_passed h =
      let a = passed (leb (extent head e 0) (length e)) 14 _ h in
      let b = passed (eqb (head_in e).tail.version only_version) 14 _ a.1 in
      let c = passed (leb (head_in e).interlace most_head_interlace) 14 _ b.1 in
      let d = passed (leb (head_in e).fields most_fields) 14 _ c.1 in
      record {
        inside = omega (arith, head_ends e, leb-true (extent head e 0) (length e) a.0);
        version = eqb-true _ _ b.0;
        interlace = leb-true _ _ c.0;
        few = leb-true _ _ d.0;
        fields = d.1;
      }

-- ---- Where its bytes lie

-- the head ends after its first numbers
head_last : (e : List ℕ) → 10 ≤ (head_in e).tail.end
unfolding read
head_last e = let n = be 2 e 8 in rw head_is (omega (arith, names_low n e (10 + 8 * n)))

-- a part of an image, by how many bytes it has
part_own : (s : List ℕ) (o n : ℕ) → part s o (length (part s o n)) ≡ part s o n
unfolding part
part_own s o n = ap (take (length (take n (drop o s)))) (sym (take-append-drop n (drop o s))) ∙ take-append_seam (take n (drop o s)) (drop n (drop o s))

-- the bytes of a sound head lie inside the image
module _ (s : List ℕ) (o n : ℕ) (e : List ℕ) (of : e ≡ part s o n) (sound : head_fault e ≡ 0) where
  sound_inside : o + length e ≤ length s
  unfolding part
  sound_inside =
      let long : length e ≡ min n (length s - o) = ap length of ∙ simp (length-take, length-drop) in
      omega (arith, head_last e, (head_passed e sound).inside)

  -- and so do its name and its class
  places_inside : let t = (head_in e).tail in (o + t.name ≤ length s) × (o + t.class ≤ length s)
  unfolding read
  places_inside = let h : (placed e).tail.end ≤ length e = rw head_is at (head_passed e sound).inside in rw head_is (omega (arith, sound_inside), omega (arith, sound_inside))

-- ---- Reading a head

module _ (k : ℕ) (s : List ℕ) (answer : Answer) where
  long_stops : most_bytes < length s → unless_long k s answer ≡ refuse k TOO_LONG 0
  unfolding unless_long unless_with
  long_stops h = ap (λ n. unless k n 0 answer) (must_fails _ TOO_LONG 0 (lt-leb _ _ h))

  pub long_passes : length s ≤ most_bytes → unless_long k s answer ≡ answer
  unfolding unless_long
  long_passes h = unless_passes k _ 0 answer (must_holds _ TOO_LONG 0 (le-leb _ _ h))

-- an image that opens is not too long
pub short_opened : (s : List ℕ) (blocks : ℕ) → Opens s blocks → (k : ℕ) (answer : Answer) → unless_long k s answer ≡ answer
short_opened s blocks o k answer = long_passes k s answer (opens_kept s o.sound).short

-- what is found
module _ (s : List ℕ) (found : Hit) (room : ℕ) where
  abbrev pub Finds : Result Found Refusal → Type 0
  Finds r = (head_numbers r ≡ unless_long 12 s (head_at s found room)) × Held s found room r

  pub too_long : most_bytes < length s → Finds (Err (record { rule = rule.TooLong; place = 0 }))
  too_long h = (sym (long_stops 12 s _ h), tt)

  module _ (short : length s ≤ most_bytes) (l : Located) (is : l ≡ located_at s found) where
    refused : (r : Refusal) → head_at s found room ≡ refusal 12 r → Finds (Err r)
    refused r e = (sym (long_passes 12 s _ short ∙ e), tt)

    pub unlocated : (r : Refusal) → l ≡ Err r → Finds (Err r)
    unfolding head_at
    unlocated r e = refused r (reads_refusal 12 s found head_fault _ l is r e)

    -- the bytes e of an element
    module _ (x : Part) (plain : l ≡ Ok x) (e : List ℕ) (of : e ≡ part s x.offset x.length) where
      pub broken : (r : Rule) → number_of r ≡ head_fault e → Finds (Err (record { rule = r; place = x.slot }))
      unfolding head_at
      broken r q = refused _ (reads_broken 12 s found head_fault _ l is x plain e of r q)

      module _ (sound : head_fault e ≡ 0) (h : Head) (parsed : h ≡ head_in e) where
        goes : head_at s found room ≡ in_room 12 (leb h.fields room) (grant (head_values x.offset h))
        unfolding head_at
        goes =
            reads_passed 12 s found head_fault _ l is x plain e of sound
            ∙ ap (λ y. in_room 12 (leb y.fields room) (grant (head_values x.offset y))) (sym parsed)

        pub small : room < h.fields → Finds (Err (record { rule = rule.Small; place = 0 }))
        small m = refused (record { rule = rule.Small; place = 0 }) (goes ∙ in_room_short 12 _ _ (lt-leb _ _ m))

        pub finds : h.fields ≤ room → Finds (Ok (record { start = x.offset; size = length e; head = h }))
        finds m =
            let k = head_passed e sound in
            let own : part s x.offset (length e) ≡ e = ap (λ y. part s x.offset (length y)) of ∙ part_own s x.offset x.length ∙ sym of in (
              sym (long_passes 12 s _ short ∙ goes ∙ in_room_enough 12 _ _ (le-leb _ _ m)),
              record {
                short = short;
                inside = sound_inside s x.offset x.length e of sound;
                starts = ap offset_in (sym is ∙ plain);
                bytes_are = reads_bytes s found l is x plain ∙ sym of ∙ sym own;
                parsed = parsed ∙ ap head_in (sym own);
                last = rw parsed k.inside;
                few = rw parsed k.few;
                fits = m;
              },
            )

-- in an image that was opened
pub head_found_opened : (s : List ℕ) (blocks ref room : ℕ) → Opens s blocks → (r : Result Found Refusal) → Finds s (find_in s blocks head_tag ref) room r
    → (head_numbers r ≡ head_within s ref room) × Held s (find s head_tag ref) room r
unfolding head_within
head_found_opened s blocks ref room o r f = (
  f.0 ∙ short_opened s blocks o 12 _ ∙ opened_answer 12 s blocks head_tag ref o (λ h. head_at s h room),
  subst (λ h. Held s h room r) (opened_find s blocks head_tag ref o) f.1,
)

-- what is answered and what is left in the lent lists
module _ (s : List ℕ) (found : Hit) (fields names : List ℕ) (room : ℕ) (rooms : room ≡ min (length fields / 4) (length names / 2)) where
  abbrev listing : Answer
  listing = unless_long 12 s (head_at s found (min (length fields / 4) (length names / 2)))

  pub enough : (n : ℕ) → n ≤ room → (4 * n ≤ length fields) × (2 * n ≤ length names)
  enough n h = (omega (arith, rooms), omega (arith, rooms))

  module _ (r : Result Found Refusal) (answers : head_numbers r ≡ unless_long 12 s (head_at s found room)) where
    same : listing ≡ head_numbers r
    same = sym (answers ∙ ap (λ n. unless_long 12 s (head_at s found n)) rooms)

    pub left : (x : Refusal) → r ≡ Err x → ReadsHead listing s found fields fields names names (refusal 12 x)
    left x e =
        let is = same ∙ ap head_numbers e ∙ refusal_is 12 x in
        (refuses _ _ fields 12 x is, refuses _ _ names 12 x is)

    module _ (start size : ℕ) (h : Head) (is : r ≡ Ok (record { start = start; size = size; head = h })) (held : HeadHeld s found room start size h) (e : List ℕ) (of : e ≡ part s start size) where
      pub listed : (after also : List ℕ) → after ≡ sets fields 0 (head_fields e) → also ≡ sets names 0 (head_names start e)
          → ReadsHead listing s found fields after names also (grant (head_values start h))
      listed after also q t =
          let granted = same ∙ ap head_numbers is in
          let b : record_bytes s found ≡ e = held.bytes_are ∙ sym of in
          let parsed : h ≡ head_in e = held.parsed ∙ ap head_in (sym of) in
          let room = rw parsed at (enough _ held.fits) in
          let count : length (head_names start e) ≡ 2 * (head_in e).fields = ap length (names_are start e) ∙ length_names start e (head_in e).fields (10 + 8 * (head_in e).fields) in
          rw (held.starts, b) (
            reads_list _ _ fields _ granted (omega (arith, length_fields e, room.0)) after q,
            reads_list _ _ names _ granted (omega (arith, count, room.1)) also t,
          )

-- in an image that was opened
pub listed_opened : (s : List ℕ) (blocks ref room : ℕ) → Opens s blocks → (fields after names also : List ℕ) (numbers : Answer)
    → let found = find_in s blocks head_tag ref in ReadsHead (unless_long 12 s (head_at s found room)) s found fields after names also numbers
    → ReadsHead (head_within s ref room) s (find s head_tag ref) fields after names also numbers
unfolding head_within
listed_opened s blocks ref room o fields after names also numbers d =
    let answer : Hit → Answer = λ h. head_at s h room in
    let l = rw (short_opened s blocks o 12 (answer (find_in s blocks head_tag ref))) at d in (
      opened_does 12 s blocks head_tag ref o answer (λ h. head_fields (record_bytes s h)) fields after numbers l.0,
      opened_does 12 s blocks head_tag ref o answer (λ h. head_names (start_of s h) (record_bytes s h)) names also numbers l.1,
    )

-- ---- Names lie inside the image

names_inside : (s : List ℕ) (found : Hit) (room start : ℕ) (h : Head) → head_at s found room ≡ grant (head_values start h)
    → (start + h.tail.name ≤ length s) × (start + h.tail.class ≤ length s)
unfolding head_at record_at
names_inside s found room start h q = go (sound_in head_fault s (located_at s found)) refl
  where
    answer : ℕ → List ℕ → Answer
    answer at e = in_room 12 (leb (head_in e).fields room) (grant (head_values at (head_in e)))

    go : (l : Sound) → sound_in head_fault s (located_at s found) ≡ l → (start + h.tail.name ≤ length s) × (start + h.tail.class ≤ length s)
    go (stopped n p) is =
        let positive = sound_positive head_fault s (located_at s found) n p is in
        absurd (positive (ap (λ a. a.number) (sym (refused_is (replicate 12 0) n p positive) ∙ sym (ap (on_sound 12 (λ p o n. answer o (part s o n))) is) ∙ q)))
    go (sound x) is =
        let e = part s x.offset x.length in
        let granted : answer x.offset e ≡ grant (head_values start h) = sym (ap (on_sound 12 (λ p o n. answer o (part s o n))) is) ∙ q in
        let same = sym granted ∙ (in_room_passed 12 _ _ (ap (λ a. a.number) granted)).1 in
        let t = places_inside s x.offset x.length e refl (sound_plain head_fault s (located_at s found) x is).1 in
        (omega (arith, ap (λ x. get_or x.values 4 0) same, t.0), omega (arith, ap (λ x. get_or x.values 6 0) same, t.1))

pub found_names : (s : List ℕ) (found : Hit) (room start : ℕ) (h : Head) → unless_long 12 s (head_at s found room) ≡ grant (head_values start h)
    → (start + h.tail.name ≤ most_bytes) × (start + h.tail.class ≤ most_bytes)
unfolding unless_long
found_names s found room start h q =
    let short = leb-true (length s) most_bytes (passed _ 0 _ (unless_passed 12 _ 0 (head_at s found room) (ap (λ a. a.number) q))).0 in
    let n = names_inside s found room start h (sym (long_passes 12 s _ short) ∙ q) in
    (omega (arith, n.0), omega (arith, n.1))

pub head_names_lem : (s : List ℕ) (ref room start : ℕ) (h : Head) → head_within s ref room ≡ grant (head_values start h)
    → (start + h.tail.name ≤ most_bytes) × (start + h.tail.class ≤ most_bytes)
unfolding head_within
head_names_lem s ref room start h q =
    let opens = opened_passed 12 s (head_at s (find s head_tag ref) room) (ap (λ a. a.number) q) in
    found_names s (find s head_tag ref) room start h (long_passes 12 s _ (opens_kept s opens).short ∙ sym (opened_goes 12 s _ opens) ∙ q)

-- the name of a field starts before the head's end
pub name_inside : (e : List ℕ) (i : ℕ) → i < (head_in e).fields → (named_field e i).name ≤ (head_in e).tail.end
unfolding read
name_inside e i h =
    let n = be 2 e 8 in
    let at = 10 + 8 * n in
    let many : i < n = rw fields_count at h in
    let places : (head_in e).names ≡ at = ap (λ x. x.names) (head_is e) in
    let sum : i + (n - i) ≡ n = omega arith in
    let split : names_end e n at ≡ names_end e (n - i) (names_end e i at) = ap (λ k. names_end e k at) (sym sum) ∙ names_split i (n - i) e at in
    let ends : (head_in e).tail.end ≡ (tail_in e (names_end e n at)).end = ap (λ x. x.tail.end) (head_is e) in
    rw (places, ends) (omega (arith, split, names_low (n - i) e (names_end e i at)))
