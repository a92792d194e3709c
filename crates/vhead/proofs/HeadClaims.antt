-- What a reader may rely on of Vdata heads: packing what was read is granted and gives back its bytes, and reading gives back what was packed. Assumes nothing.
use Prim.Native.Nat.{ℕ, ◌+◌, ◌*◌, ◌/◌, ◌<◌, ◌≤◌, min}
use native.Mathlib.Omega.{arith}
use mathlib.Core.Path.{◌≡◌, ap, ◌∙◌}
use mathlib.Core.List.{List, [], ◌∷◌, ◌++◌}
use mathlib.Core.Bool.{false}
use lib.ListN.{length, get_or}
use lib.Dec.{leb}
use borrow.Author.Tests.{le-leb}
use Rattle.wire.specs.Numbers.{part, Bytes}
use Rattle.answer.specs.Answer.{grant, in_room}
use Rattle.answer.specs.Search.{hit}
use Rattle.directory.specs.Slots.{content_at}
use Rattle.directory.specs.Opening.{open_of}
use Rattle.directory.specs.Lookup.{find}
use Rattle.storage.specs.Elements.{extended_at, start_at, plain_only, offset_in, start_of}
use Rattle.storage.proofs.Elements.{content_stored}
use Rattle.records.specs.Readings.{record_bytes}
use Rattle.records.specs.Packings.{PacksBack}
use Rattle.records.proofs.Readings.{record_granted, content_passes, content_bytes}
use Rattle.records.proofs.Packings.{packs_back}
use Rattle.answer.proofs.Answer.{in_room_enough}
use Rattle.vset.specs.Columns.{every}
use Rattle.vset.specs.declared.tail.Ending.{Ending}
use Rattle.vset.proofs.Tails.{Narrow, ending_of}
use Rattle.vhead.specs.Limits.{head_tag}
use Rattle.vhead.specs.Heads.{head_in, head_fault, head_fields, head_names, head_values, head_at, head_within, head_of, head_bytes, head_pack_fault}
use Rattle.vhead.specs.declared.head.Start.{Start}
use Rattle.vhead.proofs.HeadsPacked.{pack_passed}
use Rattle.vhead.proofs.HeadsNamed.{parts_at, found_within}
use Rattle.vhead.proofs.HeadsBack.{start_in, pack_own, own_passes, read_back}

-- ---- Packing what was read

pub head_packs : (s : List ℕ) (ref a b : ℕ) → Bytes s → (head_of s ref a b).number ≡ 0
    → let e = record_bytes s (find s head_tag ref) in let h = head_in e in let t = h.tail in
    let rows = head_fields e in let lengths = every 1 2 h.fields (head_names 0 e) in let all = parts_at e (head_names 0 e) in
    let name = part e t.name t.name_length in let class = part e t.class t.class_length in
    PacksBack (head_pack_fault (start_in h) rows lengths (length all) (length name) (length class) t.version)
    (head_bytes (start_in h) rows lengths all name class (ending_of t)) (part e 0 t.end)
unfolding head_within head_at
head_packs s ref a b bytes granted =
    let g = record_granted 12 s head_tag ref head_fault _ granted in
    let e = content_at s g.0 in
    let all_bytes = content_bytes s g.0 bytes in
    rw g.1.bytes (packs_back _ _ _ (own_passes e g.1.sound all_bytes) (pack_own e g.1.sound all_bytes))

-- ---- Reading what was packed

-- what is packed: it breaks no rule, and its numbers and bytes are as large as their fields allow
pub record Packable (b : Start) (rows lengths all name class : List ℕ) (x : Ending) : Type 0 where
  pub sound : head_pack_fault b rows lengths (length all) (length name) (length class) x.version ≡ 0
  pub records : b.records < 4294967296
  pub record_size : b.record_size < 65536
  pub narrow : (i : ℕ) → get_or rows i 0 < 65536
  pub short : (i : ℕ) → get_or lengths i 0 < 65536
  pub told : Bytes all
  pub named : Bytes name
  pub classed : Bytes class
  pub ending : Narrow x

-- what reading a head that was packed gives back: the answer; the rows of fields; and the names, the name and the class, in the parts of the
-- image that the names' rows and the answer tell of
pub record Back (s : List ℕ) (ref fields_room names_room : ℕ) (b : Start) (rows lengths all name class : List ℕ) (x : Ending) : Type 0 where
  pub answers : let n = length lengths in let start = start_of s (find s head_tag ref) in let at = 10 + 10 * n + length all in
      head_of s ref fields_room names_room
      ≡ grant (b.interlace ∷ b.records ∷ b.record_size ∷ n ∷ (start + (at + 2)) ∷ length name ∷ (start + (at + 2 + length name + 2)) ∷ length class
      ∷ x.extension_tag ∷ x.extension_ref ∷ x.version ∷ x.more ∷ [])
  pub fields_are : head_fields (record_bytes s (find s head_tag ref)) ≡ rows
  pub lengths_are : every 1 2 (length lengths) (head_names (start_of s (find s head_tag ref)) (record_bytes s (find s head_tag ref))) ≡ lengths
  pub names_are : parts_at s (head_names (start_of s (find s head_tag ref)) (record_bytes s (find s head_tag ref))) ≡ all
  pub name_is : part s (start_of s (find s head_tag ref) + (10 + 10 * length lengths + length all + 2)) (length name) ≡ name
  pub class_is : part s (start_of s (find s head_tag ref) + (10 + 10 * length lengths + length all + 2 + length name + 2)) (length class) ≡ class

pub head_reads : (b : Start) (rows lengths all name class : List ℕ) (x : Ending) → Packable b rows lengths all name class x
    → (s : List ℕ) (ref p : ℕ) → (open_of s).number ≡ 0 → find s head_tag ref ≡ hit p → extended_at s p ≡ false
    → (rest : List ℕ) → content_at s p ≡ head_bytes b rows lengths all name class x ++ rest
    → (fields_room names_room : ℕ) → 4 * length lengths ≤ fields_room → 2 * length lengths ≤ names_room
    → Back s ref fields_room names_room b rows lengths all name class x
unfolding head_within head_at
head_reads b rows lengths all name class x q s ref p opens found plain rest is fields_room names_room fr nr =
    let r = read_back b rows lengths all name class x (pack_passed _ _ _ _ _ _ _ q.sound) q.records q.record_size q.narrow q.short q.told q.named q.classed q.ending (content_at s p) rest is in
    let g = content_passes 12 s head_tag ref head_fault _ p opens found (content_stored s p (omega (arith, r.inside))) plain r.sound in
    let o : start_of s (find s head_tag ref) ≡ start_at s p = ap (λ y. offset_in (plain_only y)) g.found.is in
    let within = found_within s head_tag ref p _ _ g.found in
    record {
      answers =
          rw o
          (g.answers
          ∙ ap (λ h. in_room 12 (leb h.fields (min (fields_room / 4) (names_room / 2))) (grant (head_values (start_at s p) h))) r.read_is
          ∙ in_room_enough 12 _ _ (le-leb (length lengths) (min (fields_room / 4) (names_room / 2)) (omega (arith, fr, nr))));
      fields_are = rw g.bytes r.fields_are;
      lengths_are = rw (o, g.bytes) (r.lengths_are (start_at s p));
      names_are = rw (o, g.bytes) (r.names_are s (start_at s p) within);
      name_is = rw o (within _ _ (omega (arith, r.inside)) ∙ r.name_is);
      class_is = rw o (within _ _ (omega (arith, r.inside)) ∙ r.class_is);
    }
