-- What a reader wants to know of columns of Vdatas: which are given and which are refused, and that each entry is the value that its record has
-- there. Assumes nothing.
use Prim.Native.Nat.{ℕ, zero, suc, ◌+◌, ◌-◌, ◌<◌, ◌≤◌}
use native.Mathlib.Nat.{suc-ne-zero, zero-add}
use native.Mathlib.Omega.{arith}
use mathlib.Core.Path.{◌≡◌, refl, sym, ap, ◌∙◌}
use mathlib.Core.Logic.{◌↔◌, ◌⊎◌, inl, inr}
use mathlib.Core.List.{List, [], ◌∷◌, ◌++◌}
use lib.ListN.{length, get_or, drop, length-append, length-drop, get_or-append}
use lib.Seq.{get_or-append-add, get_or-drop}
use Rattle.answer.specs.Answer.{grant, refuse}
use Rattle.answer.specs.Rules.{done, rule, followed, AllHold, FirstBroken}
use Rattle.answer.proofs.Rules.{broken_then, first_then, then_broken, broken_below}
use Rattle.answer.specs.Lent.{laid_over}
use Rattle.answer.proofs.Lent.{laid_granted}
use Rattle.wire.specs.declared.ByteOrder.{ByteOrder}
use Rattle.directory.specs.Opening.{open_of}
use Rattle.directory.specs.Lookup.{find}
use Rattle.directory.specs.Rules.{Unstored}
use Rattle.directory.specs.Named.{Named, NamedUnstored}
use Rattle.records.specs.Readings.{record_bytes}
use Rattle.records.specs.Types.{byte_order_of, width_of, CodeIs}
use Rattle.records.specs.RecordRules.{slot_in, record_rules}
use Rattle.records.proofs.RecordRules.{by_exactly, first_unstored, opened_unstored}
use Rattle.vhead.specs.Heads.{head_in, field_at}
use Rattle.vhead.specs.HeadRules.{records_of, field_count, type_of, order_of, head_rules}
use Rattle.vhead.proofs.HeadRules.{head_below}
use Rattle.vhead.proofs.Heads.{placed, head_is}
use Rattle.vhead.proofs.HeadsRead.{head_passed}
use Rattle.vhead.proofs.HeadsJudged.{sound_typed}
use Rattle.vdata.specs.Patterns.{value_kind, value_bits, type_kind}
use Rattle.vdata.specs.Values.{place_of, value_in, value_of}
use Rattle.vdata.specs.ValueRules.{Readable, whole_rules}
use Rattle.vdata.specs.Columns.{column_in, column_of, column_bits}
use Rattle.vdata.specs.ColumnRules.{ReadableColumn, ColumnIs, given_rules, column_after_rules, column_rules}
use Rattle.vdata.proofs.Patterns.{kind_is}
use Rattle.vdata.proofs.Values.{readable_granted}
use Rattle.vdata.proofs.ValueRules.{value_told}
use Rattle.vdata.proofs.Columns.{length_column, get_or_column}
use Rattle.vdata.proofs.ColumnRules.{granted_column, column_granted_is, column_by}

-- ---- What is granted and what is refused

-- of so many records: the values are not stored yet, and some are asked for
given_unstored : (s : List ℕ) (ref room p : ℕ) (e : List ℕ) → (open_of s).number ≡ 0 → (n : ℕ)
    → FirstBroken (given_rules s e (find s 1963 ref) room n) 29 p ↔ ((0 < n) × Named s 1963 ref p × Unstored s p)
given_unstored s ref room p e opens zero = ((λ b. absurd b), (λ h. absurd (omega (arith, h.0))))
given_unstored s ref room p e opens (suc n) =
    let rest = followed (whole_rules s e (find s 1963 ref)) (rule 14 0 (suc n ≤ room) done) in
    let f = first_unstored s 1963 ref p opens rest (omega arith, (omega arith, tt)) in
    ((λ b. let h = f.0 b in (omega arith, h.0, h.1)), (λ h. f.1 (h.1, h.2)))

module _ (s : List ℕ) (ref i c room : ℕ) where
  pub column_granted : ((column_of s ref i c room).number ≡ 0) ↔ AllHold (column_rules s ref i c room)
  column_granted = (by_exactly 2 _ _ (column_by s ref i c room)).0

  pub column_refused : (n p : ℕ) → ((column_of s ref i c room ≡ refuse 2 n p) × (n ≡ 0 → ⊥)) ↔ FirstBroken (column_rules s ref i c room) n p
  column_refused = (by_exactly 2 _ _ (column_by s ref i c room)).1

  -- 29 exactly if the head is named and not stored yet, or, after a sound head, a field and a component that there are, and some records, the values are
  pub column_unstored : (p : ℕ) → let e = record_bytes s (find s 1962 ref) in
      (column_of s ref i c room ≡ refuse 2 29 p)
      ↔ (NamedUnstored s 1962 ref p
      ⊎ (AllHold (record_rules s 1962 ref (λ q e. head_rules q e done)) × (i < field_count e) × (c < order_of e i) × (0 < records_of e) × Named s 1963 ref p × Unstored s p))
  column_unstored p =
      let e = record_bytes s (find s 1962 ref) in
      let head = record_rules s 1962 ref (λ q e. head_rules q e done) in
      let after = column_after_rules s e (find s 1963 ref) i c room in
      let indices = rule 17 0 (i < field_count e) (rule 17 0 (c < order_of e i) done) in
      let values = given_rules s e (find s 1963 ref) room (records_of e) in
      let first = opened_unstored s 1962 ref p (head_rules (slot_in (find s 1962 ref)) e done) (head_below (slot_in (find s 1962 ref)) e done tt) in
      let second : (open_of s).number ≡ 0 → FirstBroken values 29 p ↔ ((0 < records_of e) × Named s 1963 ref p × Unstored s p) =
      λ opens. given_unstored s ref room p e opens (records_of e) in (
        (λ q. elim (broken_then head after 29 p ((column_refused 29 p).0 (q, suc-ne-zero 28))) [
          | inl b ↦ inl (first.0 b)
          | inr (a, b) ↦ elim (broken_then indices values 29 p b) [
            | inl x ↦ absurd (omega (arith, broken_below 29 29 p indices (omega arith, (omega arith, tt)) x))
            | inr ((x, (y, z)), b) ↦ let h = (second a.0).0 b in inr (a, x, y, h.0, h.1, h.2)
          ]
        ]),
        (λ h. ((column_refused 29 p).1 (elim h [
          | inl u ↦ first_then head after 29 p (first.1 u)
          | inr (a, x, y, some, n, u) ↦ then_broken head after 29 p a (then_broken indices values 29 p (x, (y, tt)) ((second a.0).1 (some, n, u)))
        ])).0),
      )

  -- a column is given exactly if there is one to read
  pub column_granted_exactly : ((column_of s ref i c room).number ≡ 0) ↔ ReadableColumn s ref i c room
  column_granted_exactly = (granted_column s ref i c room, λ x. ap (λ a. a.number) (column_granted_is s ref i c room x))

  -- what is given is a kind and a number of records
  pub column_answer_lem : (column_of s ref i c room).number ≡ 0 → (kind : ℕ) × (records : ℕ) × (column_of s ref i c room ≡ grant (kind ∷ records ∷ []))
  column_answer_lem g =
      let e = record_bytes s (find s 1962 ref) in
      (type_kind (field_at e (placed e) i).code, records_of e, column_granted_is s ref i c room (granted_column s ref i c room g))

-- ---- What is given

module _ (s : List ℕ) (ref i c : ℕ) (out : List ℕ) (x : ReadableColumn s ref i c (length out)) where
  abbrev head : List ℕ
  head = record_bytes s (find s 1962 ref)

  abbrev values : List ℕ
  values = record_bytes s (find s 1963 ref)

  abbrev field_type : ℕ
  field_type = (field_at head (placed head) i).code

  abbrev bits : List ℕ
  bits = column_bits s ref i c

  abbrev after : List ℕ
  after = bits ++ drop (length bits) out

  counted : length bits ≡ records_of head
  unfolding column_bits column_in
  counted = length_column head values i c 0 (head_in head).records ∙ ap (λ h. h.records) (head_is head)

  fits : records_of head ≤ length out
  fits = elim x.given [ inl z ↦ omega arith | inr (whole, m) ↦ m ]

  type_told : (byte_order : ByteOrder) × (width : ℕ) × CodeIs (type_of head i) byte_order (type_kind field_type) width
  type_told =
      let h = placed head in
      let known = sound_typed h.record_size (field_at head h) h.fields i (rw head_is at (head_passed head x.sound).fields) x.field_there in
      let t = value_told [] (λ k. omega arith) 0 field_type known in
      (byte_order_of field_type, width_of field_type, rw (← kind_is field_type [] 0) t.0)

  -- a record's value, by the call for it
  value_same : (r : ℕ) → r < records_of head → value_of s ref r i c ≡ grant (type_kind field_type ∷ get_or bits r 0 ∷ [])
  unfolding column_bits column_in value_in
  value_same r l =
      elim x.given [
        | inl z ↦ absurd (omega arith)
        | inr (whole, m) ↦
            let readable : Readable s ref r i c = record {
              opens = x.opens;
              head = x.head;
              sound = x.sound;
              indexed = record { record_there = l; field_there = x.field_there; component_there = x.component_there };
              values = whole.values;
              whole = whole.long;
            } in
            let inside : r < (head_in head).records = omega (arith, ap (λ h. h.records) (head_is head)) in
            let x = value_in head values r i c in
            let kind : value_kind x ≡ type_kind field_type =
            kind_is (field_at head (head_in head) i).code values (place_of (head_in head) (field_at head (head_in head) i) r c)
            ∙ ap (λ h. type_kind (field_at head h i).code) (head_is head) in
            let own : value_bits x ≡ get_or bits r 0 =
            ap (λ j. value_bits (value_in head values j i c)) (sym (zero-add r)) ∙ sym (get_or_column head values i c 0 (head_in head).records r inside) in
            readable_granted s ref r i c readable ∙ ap (λ k. grant (k ∷ value_bits x ∷ [])) kind ∙ ap (λ b. grant (type_kind field_type ∷ b ∷ [])) own
      ]

  column_is : ColumnIs s ref i c (type_kind field_type) (records_of head) out after
  column_is =
      record {
        counted = refl;
        type_is = type_told;
        each = λ r l.
            value_same r l
            ∙ ap (λ b. grant (type_kind field_type ∷ b ∷ [])) (sym (get_or-append bits (drop (length bits) out) 0 r (omega (arith, counted))));
        rest = λ r l.
            let k : r ≡ length bits + (r - length bits) = omega (arith, counted) in
            ap (λ j. get_or after j 0) k ∙ get_or-append-add bits (drop (length bits) out) (r - length bits) 0
            ∙ get_or-drop (length bits) out (r - length bits) 0 ∙ ap (λ j. get_or out j 0) (sym k);
        long = length-append bits (drop (length bits) out) ∙ omega (arith, length-drop (length bits) out, counted, fits);
      }

-- kind, records and lent memory after a call that is granted
pub column_given_lem : (s : List ℕ) (ref i c : ℕ) (out : List ℕ) (kind records : ℕ) → column_of s ref i c (length out) ≡ grant (kind ∷ records ∷ [])
    → ColumnIs s ref i c kind records out (laid_over (column_of s ref i c (length out)) (column_bits s ref i c) out)
column_given_lem s ref i c out kind records g =
    let granted : (column_of s ref i c (length out)).number ≡ 0 = ap (λ a. a.number) g in
    let x = granted_column s ref i c (length out) granted in
    let same = sym g ∙ column_granted_is s ref i c (length out) x in
    rw (laid_granted (column_of s ref i c (length out)) (column_bits s ref i c) out granted, ap (λ a. get_or a.values 0 0) same, ap (λ a. get_or a.values 1 0) same) (column_is s ref i c out x)
