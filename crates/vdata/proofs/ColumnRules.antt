-- Which columns are given, what is answered of them, and their rules in order. Assumes nothing.
use Prim.Native.Nat.{ℕ, zero, suc, ◌*◌, ◌≤◌}
use native.Mathlib.Nat.{suc-ne-zero}
use mathlib.Core.Path.{◌≡◌, refl, sym, ap, ◌∙◌}
use mathlib.Core.Logic.{◌⊎◌, inl, inr}
use mathlib.Core.List.{List, [], ◌∷◌}
use lib.ListN.{length}
use lib.Dec.{leb}
use borrow.Author.Tests.{ltb-true, lt-ltb, leb-true, le-leb}
use Rattle.answer.specs.Refusals.{RECORD}
use Rattle.answer.specs.Answer.{Answer, grant, unless, in_room}
use Rattle.answer.specs.Search.{Hit}
use Rattle.answer.proofs.Search.{must_holds, passed}
use Rattle.answer.proofs.Answer.{unless_passes, unless_passed, in_room_enough, in_room_passed}
use Rattle.directory.specs.Slots.{content_at}
use Rattle.directory.specs.Opening.{open_of}
use Rattle.directory.specs.Lookup.{find}
use Rattle.directory.proofs.Opens.{opened_goes}
use Rattle.records.specs.Readings.{record_at, record_bytes}
use Rattle.records.proofs.Readings.{plain_bytes, content_passes, record_granted}
use Rattle.records.proofs.RecordRules.{By, by_done, by_must, by_rest, by_room, by_plain, by_record}
use Rattle.vhead.specs.Limits.{head_tag}
use Rattle.vhead.specs.Heads.{head_in, head_fault, field_at}
use Rattle.vhead.specs.HeadRules.{records_of, record_size_of, field_count, order_of, head_rules}
use Rattle.vhead.proofs.Heads.{placed, head_is}
use Rattle.vhead.proofs.HeadRules.{by_head}
use Rattle.vdata.specs.Limits.{values_tag}
use Rattle.vdata.specs.Patterns.{type_kind}
use Rattle.vdata.specs.Values.{field_fault, values_fault}
use Rattle.vdata.specs.ValueRules.{InPlain}
use Rattle.vdata.specs.Columns.{column_given, column_after, column_found, column_of}
use Rattle.vdata.specs.ColumnRules.{ReadableColumn, given_rules, column_after_rules, column_rules}
use Rattle.vdata.proofs.Values.{field_inside, field_passes, all_records}

-- ---- Which columns are given

module _ (s : List ℕ) (ref i room : ℕ) (e : List ℕ) (opens : (open_of s).number ≡ 0) where
  abbrev kind : ℕ
  kind = type_kind (field_at e (head_in e) i).code

  abbrev answer : ℕ → ℕ → List ℕ → Answer
  answer n at v = in_room 2 (leb n room) (grant (kind ∷ n ∷ []))

  -- what the element of the values must be where there are records
  abbrev Given : ℕ → Type 0
  Given n = InPlain s 1963 ref × (records_of e * record_size_of e ≤ length (record_bytes s (find s 1963 ref))) × (n ≤ room)

  given_told : (n : ℕ) → (column_given s e (find s values_tag ref) i room n).number ≡ 0 → (n ≡ 0) ⊎ Given n
  unfolding column_given values_fault
  given_told zero q = inl refl
  given_told (suc n) q =
      let g = record_granted 2 s values_tag ref (values_fault (head_in e)) (answer (suc n))
      (ap (λ a. a.number) (opened_goes 2 s (record_at 2 s (find s values_tag ref) (values_fault (head_in e)) (answer (suc n))) opens) ∙ q) in
      let a : (answer (suc n) 0 []).number ≡ 0 =
      ap (λ a. a.number) (sym g.1.answers ∙ opened_goes 2 s (record_at 2 s (find s values_tag ref) (values_fault (head_in e)) (answer (suc n))) opens) ∙ q in
      inr (
        record { slot = g.0; found = g.1.found.found; stored = g.1.found.stored; plain = g.1.found.plain },
        rw (g.1.bytes, ← all_records e) (leb-true _ _ (passed _ 14 _ g.1.sound).0),
        leb-true (suc n) room (in_room_passed 2 _ _ a).0,
      )

  told_given : (n : ℕ) → (n ≡ 0) ⊎ Given n → column_given s e (find s values_tag ref) i room n ≡ grant (kind ∷ n ∷ [])
  unfolding column_given values_fault
  told_given zero x = refl
  told_given (suc n) (inl z) = absurd (suc-ne-zero n z)
  told_given (suc n) (inr (to, whole, m)) =
      let values = find s values_tag ref in
      let h = head_in e in
      let bytes = plain_bytes s values_tag ref to.slot to.found to.stored to.plain in
      let long = must_holds _ RECORD 0 (le-leb (h.records * h.record_size) (length (record_bytes s values)) (rw (all_records e) whole)) in
      let w = content_passes 2 s values_tag ref (values_fault h) (answer (suc n)) to.slot opens to.found to.stored to.plain (ap (values_fault h) (sym bytes) ∙ long) in
      sym (opened_goes 2 s _ opens) ∙ w.answers ∙ in_room_enough 2 _ _ (le-leb (suc n) room m)

module _ (s : List ℕ) (ref i c room : ℕ) where
  pub granted_column : (column_of s ref i c room).number ≡ 0 → ReadableColumn s ref i c room
  unfolding column_of column_found column_after
  granted_column q =
      let values = find s values_tag ref in
      let g = record_granted 2 s head_tag ref head_fault (λ at e. column_after s e values i c room) q in
      let e = content_at s g.0 in
      let h = head_in e in
      let n = field_fault h (field_at e h i) i c in
      let answer = column_given s e values i room h.records in
      let a : (unless 2 n 0 answer).number ≡ 0 = ap (λ a. a.number) (sym g.1.answers) ∙ q in
      let inside = unless_passed 2 n 0 answer a in
      let there = field_inside (placed e) (field_at e (placed e) i) i c (rw head_is at inside) in
      let opens = g.1.found.sound in
      let given = given_told s ref i room e opens h.records (ap (λ a. a.number) (sym (unless_passes 2 n 0 answer inside)) ∙ a) in
      record {
        opens = opens;
        head = record { slot = g.0; found = g.1.found.found; stored = g.1.found.stored; plain = g.1.found.plain };
        sound = ap head_fault g.1.bytes ∙ g.1.sound;
        field_there = rw g.1.bytes there.0;
        component_there = rw g.1.bytes there.1;
        given =
            rw g.1.bytes (elim (rw head_is at given) [
              | inl z ↦ inl z
              | inr (to, whole, m) ↦ inr (record { values = to; long = rw g.1.bytes whole }, m)
            ]);
      }

  -- the answer
  pub column_granted_is : ReadableColumn s ref i c room → let e = record_bytes s (find s head_tag ref) in
      column_of s ref i c room ≡ grant (type_kind (field_at e (placed e) i).code ∷ records_of e ∷ [])
  unfolding column_of column_found column_after
  column_granted_is x =
      let values = find s values_tag ref in
      let e = record_bytes s (find s head_tag ref) in
      let from = x.head in
      let bytes = plain_bytes s head_tag ref from.slot from.found from.stored from.plain in
      let g = content_passes 2 s head_tag ref head_fault (λ at e. column_after s e values i c room) from.slot x.opens from.found from.stored from.plain (ap head_fault (sym bytes) ∙ x.sound) in
      let inside : field_fault (head_in e) (field_at e (head_in e) i) i c ≡ 0 =
      rw (head_is e) (field_passes (placed e) (field_at e (placed e) i) i c x.field_there x.component_there) in
      let given : (records_of e ≡ 0) ⊎ Given s ref i room e x.opens (records_of e) = elim x.given [
        | inl z ↦ inl z
        | inr (whole, m) ↦ inr (whole.values, whole.long, m)
      ] in
      g.answers ∙ ap (λ b. column_after s b values i c room) (sym bytes) ∙ unless_passes 2 _ 0 _ inside
      ∙ told_given s ref i room e x.opens (head_in e).records (rw (head_is e) given)
      ∙ ap (λ h. grant (type_kind (field_at e h i).code ∷ h.records ∷ [])) (head_is e)

-- ---- A column goes by its rules

given_by : (s e : List ℕ) (values : Hit) (i room n : ℕ) → By 2 (given_rules s e values room n) (column_given s e values i room n)
unfolding column_given values_fault
given_by s e values i room zero = by_done 2 _ refl
given_by s e values i room (suc n) =
    let all = records_of e * record_size_of e in
    let v = record_bytes s values in
    by_plain 2 s values _ _ _ (λ o.
    by_must 2 _ _ _ _ _ _ _ (rw (head_is e) (leb-true all (length v), le-leb all (length v))) (λ l.
    by_rest 2 _ _ _ (by_room 2 _ _ _ (leb-true (suc n) room, le-leb (suc n) room) refl)))

after_by : (s e : List ℕ) (values : Hit) (i c room : ℕ) → By 2 (column_after_rules s e values i c room) (column_after s e values i c room)
unfolding column_after field_fault
after_by s e values i c room =
    let h = head_is e in
    by_must 2 0 _ _ _ _ _ _ (rw h (ltb-true i (field_count e), lt-ltb i (field_count e))) (λ a.
    by_must 2 0 _ _ _ _ _ _ (rw h (ltb-true c (order_of e i), lt-ltb c (order_of e i))) (λ b.
    by_rest 2 0 _ _ (rw h (given_by s e values i room (records_of e)))))

pub column_by : (s : List ℕ) (ref i c room : ℕ) → By 2 (column_rules s ref i c room) (column_of s ref i c room)
unfolding column_of column_found
column_by s ref i c room =
    by_record 2 s 1962 ref head_fault _ (λ p e. head_rules p e (column_after_rules s e (find s 1963 ref) i c room)) (λ p o e. by_head 2 p e _ _ (after_by s e (find s 1963 ref) i c room))
