-- What a reader wants to know of the values of Vdatas: their bits are exactly the element's, they lie inside it, which values are given and which
-- are refused, and what is given as facts. Assumes nothing.
use Prim.Native.Nat.{ℕ, ◌+◌, ◌%◌, ◌^◌, ◌≤◌}
use native.Mathlib.Nat.{suc-ne-zero}
use native.Mathlib.Omega.{arith}
use mathlib.Core.Path.{◌≡◌, sym, ap, ◌∙◌}
use mathlib.Core.Logic.{◌↔◌, ◌⊎◌, inl, inr}
use mathlib.Core.List.{List, [], ◌∷◌}
use lib.ListN.{length, get_or}
use Rattle.answer.specs.Answer.{grant, refuse}
use Rattle.answer.specs.Rules.{done, AllHold, FirstBroken}
use Rattle.answer.proofs.Rules.{broken_then, first_then, then_broken, broken_below}
use Rattle.wire.specs.Numbers.{number_in, bytes_in, part, Bytes}
use Rattle.wire.proofs.Numbers.{bytes_mod, bytes_of_number}
use Rattle.directory.specs.Opening.{open_of}
use Rattle.directory.specs.Lookup.{find}
use Rattle.directory.specs.Rules.{Unstored}
use Rattle.directory.specs.Named.{Named, NamedUnstored}
use Rattle.records.specs.Readings.{record_bytes}
use Rattle.records.specs.RecordRules.{slot_in, plain_rules, record_rules}
use Rattle.records.specs.Types.{signed, byte_order_of, width_of, kind_of}
use Rattle.records.proofs.RecordRules.{by_exactly, first_unstored, opened_unstored}
use Rattle.vhead.specs.Limits.{head_tag}
use Rattle.vhead.specs.Heads.{head_in, field_at}
use Rattle.vhead.specs.HeadRules.{head_rules}
use Rattle.vhead.proofs.HeadRules.{head_below}
use Rattle.vhead.proofs.Heads.{head_is}
use Rattle.vdata.specs.Patterns.{value_at, value_kind, value_bits}
use Rattle.vdata.specs.Limits.{values_tag}
use Rattle.vdata.specs.Values.{place_of, value_in, value_of}
use Rattle.vdata.specs.ValueRules.{Indexed, ValueIs, Readable, index_rules, whole_rules, after_rules, value_rules}
use Rattle.vdata.proofs.Values.{granted_readable, readable_granted, values_bytes}
use Rattle.vdata.proofs.ValueRules.{lies_inside, facts_hold, value_once, value_by_lem}
use Rattle.vdata.proofs.Patterns.{exact}

-- ---- Bits

-- of the value of a type among bytes
module _ (code : ℕ) (v : List ℕ) (bytes : Bytes v) (at : ℕ) where
  -- its bits are the element's, in the type's byte order, for every type and every pattern: a signed number's in as many of its lower bytes as the
  -- type has
  pub value_bits_lem : value_bits (value_at code v at) % 256 ^ width_of code ≡ number_in (byte_order_of code) (width_of code) v at
  value_bits_lem = (exact code v bytes at).0

  -- and where it is no signed number, whole
  pub value_bits_whole : (kind_of code ≡ signed → ⊥) → value_bits (value_at code v at) ≡ number_in (byte_order_of code) (width_of code) v at
  value_bits_whole = (exact code v bytes at).1

  -- laid down in that order, they are the element's own bytes
  pub value_bytes : at + width_of code ≤ length v → bytes_in (byte_order_of code) (width_of code) (value_bits (value_at code v at)) ≡ part v at (width_of code)
  value_bytes l =
      sym (bytes_mod (byte_order_of code) (width_of code) (value_bits (value_at code v at)))
      ∙ ap (bytes_in (byte_order_of code) (width_of code)) value_bits_lem ∙ bytes_of_number (byte_order_of code) (width_of code) v at bytes l

-- ---- Where a value lies

-- the bytes of a value that is given lie inside the element of the values
pub value_inside : (s : List ℕ) (ref r i c : ℕ) → (value_of s ref r i c).number ≡ 0
    → let e = record_bytes s (find s head_tag ref) in let f = field_at e (head_in e) i in
    place_of (head_in e) f r c + width_of f.code ≤ length (record_bytes s (find s values_tag ref))
value_inside s ref r i c g =
    let x = granted_readable s ref r i c g in
    let e = record_bytes s (find s head_tag ref) in
    rw (head_is e) (omega (arith, lies_inside e x.sound r i c x.indexed, x.whole))

-- ---- What is granted and what is refused

module _ (s : List ℕ) (ref r i c : ℕ) where
  pub value_granted : ((value_of s ref r i c).number ≡ 0) ↔ AllHold (value_rules s ref r i c)
  value_granted = (by_exactly 2 _ _ (value_by_lem s ref r i c)).0

  pub value_refused : (n p : ℕ) → ((value_of s ref r i c ≡ refuse 2 n p) × (n ≡ 0 → ⊥)) ↔ FirstBroken (value_rules s ref r i c) n p
  value_refused = (by_exactly 2 _ _ (value_by_lem s ref r i c)).1

  -- 29 exactly if the head is named and not stored yet, or, after a sound head and indices that there are, the values are
  pub value_unstored : (p : ℕ) → let e = record_bytes s (find s 1962 ref) in
      (value_of s ref r i c ≡ refuse 2 29 p)
      ↔ (NamedUnstored s 1962 ref p ⊎ (AllHold (record_rules s 1962 ref (λ q e. head_rules q e done)) × Indexed e r i c × Named s 1963 ref p × Unstored s p))
  value_unstored p =
      let e = record_bytes s (find s 1962 ref) in
      let head = record_rules s 1962 ref (λ q e. head_rules q e done) in
      let after = after_rules s e (find s 1963 ref) r i c in
      let indices = index_rules e r i c in
      let whole = whole_rules s e (find s 1963 ref) in
      let values = plain_rules s (find s 1963 ref) whole in
      let first = opened_unstored s 1962 ref p (head_rules (slot_in (find s 1962 ref)) e done) (head_below (slot_in (find s 1962 ref)) e done tt) in
      let second : ((open_of s).number ≡ 0) → FirstBroken values 29 p ↔ (Named s 1963 ref p × Unstored s p) =
      λ opens. first_unstored s 1963 ref p opens whole (omega arith, tt) in (
        (λ q. elim (broken_then head after 29 p ((value_refused 29 p).0 (q, suc-ne-zero 28))) [
          | inl b ↦ inl (first.0 b)
          | inr (a, b) ↦ elim (broken_then indices values 29 p b) [
            | inl x ↦ absurd (omega (arith, broken_below 29 29 p indices (omega arith, (omega arith, (omega arith, tt))) x))
            | inr ((x, (y, (z, w))), b) ↦
                let h = (second a.0).0 b in inr (a, record { record_there = x; field_there = y; component_there = z }, h.0, h.1)
          ]
        ]),
        (λ h. ((value_refused 29 p).1 (elim h [
          | inl u ↦ first_then head after 29 p (first.1 u)
          | inr (a, x, n, u) ↦
              then_broken head after 29 p a (then_broken indices values 29 p (x.record_there, (x.field_there, (x.component_there, tt))) ((second a.0).1 (n, u)))
        ])).0),
      )

-- ---- A value as facts

-- a value is given exactly if there is one to read
pub value_granted_exactly : (s : List ℕ) (ref r i c : ℕ) → ((value_of s ref r i c).number ≡ 0) ↔ Readable s ref r i c
value_granted_exactly s ref r i c = (granted_readable s ref r i c, λ x. ap (λ a. a.number) (readable_granted s ref r i c x))

-- what is given is a kind and bits
pub value_answer_lem : (s : List ℕ) (ref r i c : ℕ) → (value_of s ref r i c).number ≡ 0 → (kind : ℕ) × (bits : ℕ) × (value_of s ref r i c ≡ grant (kind ∷ bits ∷ []))
value_answer_lem s ref r i c g =
    let x = value_in (record_bytes s (find s head_tag ref)) (record_bytes s (find s values_tag ref)) r i c in
    (value_kind x, value_bits x, readable_granted s ref r i c (granted_readable s ref r i c g))

module _ (s : List ℕ) (ref r i c kind bits : ℕ) (b : Bytes s) where
  -- the facts of what is answered
  answer_facts : Readable s ref r i c → let x = value_in (record_bytes s (find s head_tag ref)) (record_bytes s (find s values_tag ref)) r i c in
      ValueIs (record_bytes s (find s 1962 ref)) (record_bytes s (find s 1963 ref)) r i c (value_kind x) (value_bits x)
  answer_facts x =
      facts_hold (record_bytes s (find s head_tag ref)) x.sound r i c x.indexed (record_bytes s (find s values_tag ref)) (values_bytes s ref r i c b x) x.whole

  -- where it lies, and its kind and its bits by the bytes that stand there
  pub value_facts : value_of s ref r i c ≡ grant (kind ∷ bits ∷ [])
      → ValueIs (record_bytes s (find s 1962 ref)) (record_bytes s (find s 1963 ref)) r i c kind bits
  value_facts g =
      let x = granted_readable s ref r i c (ap (λ a. a.number) g) in
      let same = sym g ∙ readable_granted s ref r i c x in
      rw (ap (λ a. get_or a.values 0 0) same, ap (λ a. get_or a.values 1 0) same) (answer_facts x)

  -- and the facts tell the answer
  pub value_given : Readable s ref r i c → ValueIs (record_bytes s (find s 1962 ref)) (record_bytes s (find s 1963 ref)) r i c kind bits
      → value_of s ref r i c ≡ grant (kind ∷ bits ∷ [])
  value_given x is =
      let same = value_once _ _ r i c _ _ _ _ is (answer_facts x) in
      rw (same.0, same.1) (readable_granted s ref r i c x)
