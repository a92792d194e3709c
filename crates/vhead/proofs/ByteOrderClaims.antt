-- What a reader may rely on of heads whose types are of either byte order: they are judged alike, and packing keeps each type's code. Assumes nothing.
use Prim.Native.Nat.{ℕ, ◌+◌, ◌*◌, ◌<◌, ◌≤◌}
use native.Mathlib.Nat.{zero-add}
use native.Mathlib.Omega.{arith}
use mathlib.Core.Path.{◌≡◌, sym, ap, ◌∙◌}
use mathlib.Core.List.{List}
use lib.ListN.{length}
use Rattle.wire.specs.Numbers.{be, part, Bytes}
use Rattle.wire.specs.Layouts.{extent}
use Rattle.wire.specs.declared.ByteOrder.TheVariants.{BigEndian}
use Rattle.wire.proofs.Numbers.{number_part}
use Rattle.directory.specs.Lookup.{find}
use Rattle.records.specs.Readings.{record_bytes}
use Rattle.records.proofs.Readings.{record_granted}
use Rattle.vset.specs.Columns.{every}
use Rattle.vset.specs.Tails.{names_end}
use Rattle.vset.proofs.Tails.{ending_of, names_low}
use Rattle.vhead.specs.Limits.{head_tag}
use Rattle.vhead.specs.Heads.{head, head_in, field_at, row_at, head_fault, head_fields, head_names, head_at, head_within, head_of, head_bytes, head_pack_fault}
use Rattle.vhead.specs.HeadRules.{type_of, field_count, Alike}
use Rattle.vhead.specs.declared.head.Start.{Start}
use Rattle.vhead.proofs.HeadsJudged.{fields_alike}
use Rattle.vhead.proofs.HeadsNamed.{parts_at}
use Rattle.vhead.proofs.Heads.{head_is, head_ends}
use Rattle.vhead.proofs.HeadsRead.{head_passed}
use Rattle.vhead.proofs.HeadsBack.{start_in, tail_on}
use Rattle.vhead.proofs.HeadClaims.{head_packs}

-- ---- Judged alike

-- reading: the bytes of two heads that differ in the byte orders of their types alone
pub head_either_order : (e t : List ℕ) → length t ≡ length e → head_in t ≡ head_in e
    → ((i : ℕ) → i < (head_in e).fields → Alike (field_at t (head_in e) i) (field_at e (head_in e) i)) → head_fault t ≡ head_fault e
unfolding head_fault
head_either_order e t same is alike =
    let h = head_in e in
    let whole : extent head t 0 ≡ extent head e 0 = head_ends t ∙ ap (λ h. h.tail.end) is ∙ sym (head_ends e) in
    rw (whole, same, is, fields_alike (field_at t h) (field_at e h) h.record_size h.fields alike)

-- packing: the same of rows of fields
pub pack_either_order : (b : Start) (rows more lengths : List ℕ) (all name class version : ℕ) → length more ≡ length rows
    → ((i : ℕ) → i < length lengths → Alike (row_at more i) (row_at rows i))
    → head_pack_fault b more lengths all name class version ≡ head_pack_fault b rows lengths all name class version
unfolding head_pack_fault
pack_either_order b rows more lengths all name class version same alike =
    rw (same, fields_alike (row_at more) (row_at rows) b.record_size (length lengths) alike)

-- ---- Packing keeps the codes

-- the bytes that are packed of a head that was read have each field's type as it was read, with 16384 where it had it
pub head_codes_kept : (s : List ℕ) (ref a b : ℕ) → Bytes s → (head_of s ref a b).number ≡ 0
    → let e = record_bytes s (find s head_tag ref) in let h = head_in e in let t = h.tail in
    let rows = head_fields e in let lengths = every 1 2 h.fields (head_names 0 e) in let all = parts_at e (head_names 0 e) in
    let name = part e t.name t.name_length in let class = part e t.class t.class_length in
    (i : ℕ) → i < field_count e → type_of (head_bytes (start_in h) rows lengths all name class (ending_of t)) i ≡ type_of e i
unfolding head_within head_at
head_codes_kept s ref a b bytes granted i l =
    let e = record_bytes s (find s head_tag ref) in
    let n = field_count e in
    let end = (head_in e).tail.end in
    let g = record_granted 12 s head_tag ref head_fault _ granted in
    let inside : end ≤ length e = (head_passed e (ap head_fault g.1.bytes ∙ g.1.sound)).inside in
    let past : 10 + 8 * n ≤ end = rw (head_is e) (omega (arith, names_low n e (10 + 8 * n), tail_on e (names_end e n (10 + 8 * n)))) in
    ap (λ p. type_of p i) (head_packs s ref a b bytes granted).bytes_are
    ∙ number_part BigEndian 2 e 0 end (10 + 2 * i) (omega arith) (omega arith)
    ∙ ap (be 2 e) (zero-add (10 + 2 * i))
