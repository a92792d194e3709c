-- What a reader may rely on of the values of little-endian types: each is the big-endian value of the reversed bytes, and what is answered are
-- the element's own bytes in their order. Assumes nothing.
use Prim.Native.Nat.{ℕ, ◌+◌, ◌<◌, ◌≤◌}
use native.Mathlib.Omega.{arith}
use mathlib.Core.Path.{◌≡◌, sym, ap, ◌∙◌}
use mathlib.Core.List.{List, [], ◌∷◌, reverse}
use lib.ListN.{length, get_or}
use Rattle.answer.specs.Answer.{grant}
use Rattle.wire.specs.Numbers.{bytes_in, be, part, Bytes}
use Rattle.wire.specs.declared.ByteOrder.{ByteOrder}
use Rattle.wire.specs.declared.ByteOrder.TheVariants.{BigEndian, LittleEndian}
use Rattle.wire.proofs.Numbers.{number_reversed}
use Rattle.directory.specs.Lookup.{find}
use Rattle.records.specs.Readings.{record_bytes}
use Rattle.records.specs.Types.{types, row_of, byte_order_of, width_of, kind_of, CodeIs}
use Rattle.records.proofs.Types.{base_low, base_added, same_width, same_kind, same_added, code_is, big_endian_low}
use Rattle.records.proofs.Claims.{types_as_before}
use Rattle.vhead.specs.Heads.{field_at}
use Rattle.vhead.specs.HeadRules.{type_of}
use Rattle.vhead.proofs.Heads.{placed, head_is}
use Rattle.vdata.specs.Patterns.{value_by, value_at, value_kind, value_bits}
use Rattle.vdata.specs.Values.{place_of, value_in, value_of}
use Rattle.vdata.specs.ValueRules.{LiesAt, Readable}
use Rattle.vdata.proofs.Patterns.{value_of_bytes}
use Rattle.vdata.proofs.Values.{granted_readable, readable_granted, values_bytes}
use Rattle.vdata.proofs.ValueRules.{lies_inside, lies_there, lies_once}
use Rattle.vdata.proofs.ValueClaims.{value_bytes}

-- ---- The value of a type

module _ (code : ℕ) (low : code < 16384) (v : List ℕ) (at : ℕ) where
  -- a type whose code is below 16384 is read as it was before the other byte order came
  pub value_as_before : value_at code v at ≡ value_by (row_of code types).kind (row_of code types).width (be (row_of code types).width v at)
  unfolding value_at
  value_as_before = let t = types_as_before code low in rw (t.0, t.1, t.2)

  -- with 16384 added, the value is that of the same bytes reversed, for every type and every pattern
  pub value_reversed : at + width_of code ≤ length v → value_at (code + 16384) v at ≡ value_at code (reverse (part v at (width_of code))) 0
  unfolding value_at
  value_reversed l =
      let b = same_added code low in
      let high : byte_order_of (code + 16384) ≡ LittleEndian = (base_added code).1 in
      rw (same_width _ code b, same_kind _ code b, high, (base_low code low).1)
      (ap (value_by (kind_of code) (width_of code)) (number_reversed (width_of code) v at l))

-- ---- What the call answers

module _ (s : List ℕ) (ref r i c : ℕ) (x : Readable s ref r i c) where
  abbrev head_own : List ℕ
  head_own = record_bytes s (find s 1962 ref)

  abbrev values_own : List ℕ
  values_own = record_bytes s (find s 1963 ref)

  abbrev code_own : ℕ
  code_own = type_of head_own i

  -- where the value of a granted call lies, and that this is so
  abbrev place_own : ℕ
  place_own = place_of (placed head_own) (field_at head_own (placed head_own) i) r c

  inside : place_own + width_of code_own ≤ length values_own
  inside = omega (arith, lies_inside head_own x.sound r i c x.indexed, x.whole)

  lies_here : (width at : ℕ) → width_of code_own ≡ width → LiesAt head_own r i c width at → at ≡ place_own
  lies_here width at w lies = lies_once head_own r i c width at place_own lies (rw w at (lies_there head_own x.sound r i c x.indexed))

  -- the answer, by the value there
  answered : let v = value_at code_own values_own place_own in value_of s ref r i c ≡ grant (value_kind v ∷ value_bits v ∷ [])
  unfolding value_in
  answered =
      readable_granted s ref r i c x
      ∙ ap (λ h. let f = field_at head_own h i in let v = value_at f.code values_own (place_of h f r c) in grant (value_kind v ∷ value_bits v ∷ [])) (head_is head_own)

-- two values that are given, one of a type and one of the same type with 16384 added, whose bytes are the other's reversed: the answers are the same
pub value_either_order : (s t : List ℕ) (ref r i c own p j d : ℕ) → Readable s ref r i c → Readable t own p j d
    → let e = record_bytes s (find s 1962 ref) in let v = record_bytes s (find s 1963 ref) in
    let f = record_bytes t (find t 1962 own) in let w = record_bytes t (find t 1963 own) in
    (kind width at also : ℕ) → CodeIs (type_of e i) BigEndian kind width → type_of f j ≡ type_of e i + 16384
    → LiesAt e r i c width at → LiesAt f p j d width also → part v at width ≡ reverse (part w also width)
    → value_of t own p j d ≡ value_of s ref r i c
value_either_order s t ref r i c own p j d x y kind width at also big little lies lies_too reversed =
    let code = code_own s ref r i c x in
    let v = values_own s ref r i c x in
    let w = values_own t own p j d y in
    let low = big_endian_low big in
    let is : width_of code ≡ width = (code_is big).0 in
    let is_too : width_of (code_own t own p j d y) ≡ width = ap width_of little ∙ same_width _ code (same_added code low) ∙ is in
    let here = lies_here s ref r i c x width at is lies in
    let there = lies_here t own p j d y width also is_too lies_too in
    let first : at + width_of code ≤ length v = rw here (inside s ref r i c x) in
    let second : also + width_of code ≤ length w = omega (arith, inside t own p j d y) in
    let same : value_at (code_own t own p j d y) w (place_own t own p j d y) ≡ value_at code v (place_own s ref r i c x) =
    ap (λ k. value_at k w (place_own t own p j d y)) little ∙ ap (value_at (code + 16384) w) (sym there) ∙ value_reversed code low w also second
    ∙ ap (λ b. value_at code b 0) (rw (← is) at (sym reversed)) ∙ sym (value_of_bytes code v at first) ∙ ap (value_at code v) here in
    answered t own p j d y ∙ ap (λ k. grant (value_kind k ∷ value_bits k ∷ [])) same ∙ sym (answered s ref r i c x)

-- the bits of a value that is given, laid down in its type's width and byte order, are its own bytes
pub value_exact : (s : List ℕ) (ref r i c kind bits : ℕ) → Bytes s → value_of s ref r i c ≡ grant (kind ∷ bits ∷ [])
    → let e = record_bytes s (find s 1962 ref) in let v = record_bytes s (find s 1963 ref) in
    (byte_order : ByteOrder) (width at : ℕ) → CodeIs (type_of e i) byte_order kind width → LiesAt e r i c width at
    → bytes_in byte_order width bits ≡ part v at width
value_exact s ref r i c kind bits b g byte_order width at is lies =
    let x = granted_readable s ref r i c (ap (λ a. a.number) g) in
    let t = code_is is in
    let told : bits ≡ value_bits (value_at (code_own s ref r i c x) (values_own s ref r i c x) (place_own s ref r i c x)) = ap (λ a. get_or a.values 1 0) (sym g ∙ answered s ref r i c x) in
    rw (told, lies_here s ref r i c x width at t.0 lies, ← t.0, ← t.2)
    (value_bytes (code_own s ref r i c x) (values_own s ref r i c x) (values_bytes s ref r i c b x) (place_own s ref r i c x) (inside s ref r i c x))
