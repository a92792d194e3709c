-- The claims about what is granted and what is refused: a head is read exactly if its rules hold, and a number and a place are answered exactly
-- if the first rule that is broken has them. And what a granted reading tells, each field at its place among the record's bytes. Assumes nothing.
use Prim.Native.Nat.{ℕ, zero, suc, ◌+◌, ◌*◌, ◌/◌, ◌<◌, ◌≤◌, min}
use native.Mathlib.Omega.{arith}
use mathlib.Core.Path.{◌≡◌, refl, sym, ap, subst, ◌∙◌}
use mathlib.Core.Logic.{◌↔◌}
use mathlib.Core.List.{List, [], ◌∷◌}
use lib.ListN.{length, get_or, take}
use lib.Dec.{leb}
use borrow.Author.Tests.{leb-true, le-leb}
use Rattle.answer.specs.Answer.{grant, refuse, in_room}
use Rattle.answer.specs.Rules.{Rules, done, rule, AllHold, FirstBroken}
use Rattle.answer.proofs.Answer.{in_room_passed}
use Rattle.wire.specs.Numbers.{be}
use Rattle.wire.specs.Layouts.{read, numbers_at}
use Rattle.directory.specs.Lookup.{find}
use Rattle.directory.specs.Named.{NamedUnstored}
use Rattle.storage.specs.Elements.{start_at}
use Rattle.records.specs.Readings.{record_bytes}
use Rattle.records.proofs.Readings.{record_granted}
use Rattle.vset.specs.Columns.{rows4}
use Rattle.vset.specs.Tails.{tail, names_end}
use Rattle.records.specs.RecordRules.{slot_in, record_rules}
use Rattle.records.proofs.RecordRules.{By, by_exactly, by_unstored, by_room, by_record}
use Rattle.vhead.specs.Heads.{head, head_in, head_fault, head_fields, head_values, head_at, head_within, head_of}
use Rattle.vhead.specs.HeadRules.{field_count, RowOf, head_rules, head_read_rules, head_within_rules}
use Rattle.vhead.proofs.Heads.{head_is, fields_count, fields_are, length_fields, all_fields}
use Rattle.vhead.proofs.HeadRules.{by_head, head_below}

-- room for so many fields, said of the bytes
module _ (s : List ℕ) (ref room : ℕ) (Room : List ℕ → Type 0) (is : (e : List ℕ) → (field_count e ≤ room) ↔ Room e) where
  head_by : By 12 (record_rules s 1962 ref (λ p e. head_rules p e (rule 14 0 (Room e) done))) (head_within s ref room)
  unfolding head_within head_at
  head_by =
      by_record 12 s 1962 ref head_fault _ _ (λ p o e.
      let n = fields_count e in
      by_head 12 p e _ _ (by_room 12 _ _ _ (
        (λ b. (is e).0 (rw n at (leb-true (head_in e).fields room b))),
        (λ h. le-leb (head_in e).fields room (rw n ((is e).1 h))),
      ) refl))

module _ (s : List ℕ) (ref fields names : ℕ) where
  read_by : By 12 (head_read_rules s ref fields names) (head_of s ref fields names)
  read_by =
      head_by s ref (min (fields / 4) (names / 2)) (λ e. (4 * field_count e ≤ fields) × (2 * field_count e ≤ names))
      (λ e. ((λ l. (omega arith, omega arith)), (λ h. omega (arith, h.0, h.1))))

  pub head_granted : ((head_of s ref fields names).number ≡ 0) ↔ AllHold (head_read_rules s ref fields names)
  head_granted = (by_exactly 12 _ _ read_by).0

  pub head_refused : (n p : ℕ) → ((head_of s ref fields names ≡ refuse 12 n p) × (n ≡ 0 → ⊥)) ↔ FirstBroken (head_read_rules s ref fields names) n p
  head_refused = (by_exactly 12 _ _ read_by).1

  -- 29 exactly if it is named and not stored yet
  pub head_unstored : (p : ℕ) → (head_of s ref fields names ≡ refuse 12 29 p) ↔ NamedUnstored s 1962 ref p
  head_unstored =
      let e = record_bytes s (find s 1962 ref) in
      let room : Rules = rule 14 0 ((4 * field_count e ≤ fields) × (2 * field_count e ≤ names)) done in
      by_unstored 12 _ s 1962 ref _ read_by (head_below (slot_in (find s 1962 ref)) e room (omega arith, tt))

module _ (s : List ℕ) (ref room : ℕ) where
  within_by : By 12 (head_within_rules s ref room) (head_within s ref room)
  within_by = head_by s ref room (λ e. field_count e ≤ room) (λ e. ((λ l. l), (λ l. l)))

  pub head_within_granted : ((head_within s ref room).number ≡ 0) ↔ AllHold (head_within_rules s ref room)
  head_within_granted = (by_exactly 12 _ _ within_by).0

  pub head_within_refused : (n p : ℕ) → ((head_within s ref room ≡ refuse 12 n p) × (n ≡ 0 → ⊥)) ↔ FirstBroken (head_within_rules s ref room) n p
  head_within_refused = (by_exactly 12 _ _ within_by).1

  pub head_within_unstored : (p : ℕ) → (head_within s ref room ≡ refuse 12 29 p) ↔ NamedUnstored s 1962 ref p
  head_within_unstored =
      let e = record_bytes s (find s 1962 ref) in
      by_unstored 12 _ s 1962 ref _ within_by (head_below (slot_in (find s 1962 ref)) e (rule 14 0 (field_count e ≤ room) done) (omega arith, tt))

-- ---- What is told

-- a row of four numbers
record Row (rows : List ℕ) (i a b c d : ℕ) : Type 0 where
  pub first : get_or rows (4 * i) 0 ≡ a
  pub second : get_or rows (4 * i + 1) 0 ≡ b
  pub third : get_or rows (4 * i + 2) 0 ≡ c
  pub fourth : get_or rows (4 * i + 3) 0 ≡ d

-- the i-th row of four runs
row_at_lem : (n : ℕ) (e : List ℕ) (a b c d i : ℕ) → i < n
    → Row (rows4 (numbers_at 2 n e a) (numbers_at 2 n e b) (numbers_at 2 n e c) (numbers_at 2 n e d)) i
    (be 2 e (a + 2 * i)) (be 2 e (b + 2 * i)) (be 2 e (c + 2 * i)) (be 2 e (d + 2 * i))
unfolding numbers_at rows4
row_at_lem zero e a b c d i h = absurd (omega arith)
row_at_lem (suc n) e a b c d zero h =
    let same : (x : ℕ) → x ≡ x + 2 * 0 = λ x. omega arith in
    record { first = ap (be 2 e) (same a); second = ap (be 2 e) (same b); third = ap (be 2 e) (same c); fourth = ap (be 2 e) (same d) }
row_at_lem (suc n) e a b c d (suc i) h =
    let rows = rows4 (numbers_at 2 (suc n) e a) (numbers_at 2 (suc n) e b) (numbers_at 2 (suc n) e c) (numbers_at 2 (suc n) e d) in
    let rest = row_at_lem n e (a + 2) (b + 2) (c + 2) (d + 2) i (omega arith) in
    let next : (x : ℕ) → x + 2 + 2 * i ≡ x + 2 * suc i = λ x. omega arith in
    let at : (k : ℕ) → 4 * suc i + k ≡ suc (suc (suc (suc (4 * i + k)))) = λ k. omega arith in
    let at_first : 4 * suc i ≡ suc (suc (suc (suc (4 * i)))) = omega arith in
    record {
      first = ap (λ k. get_or rows k 0) at_first ∙ rest.first ∙ ap (be 2 e) (next a);
      second = ap (λ k. get_or rows k 0) (at 1) ∙ rest.second ∙ ap (be 2 e) (next b);
      third = ap (λ k. get_or rows k 0) (at 2) ∙ rest.third ∙ ap (be 2 e) (next c);
      fourth = ap (λ k. get_or rows k 0) (at 3) ∙ rest.fourth ∙ ap (be 2 e) (next d);
    }

-- what is read of the bytes e, by name; the tail stands after the names
pub head_named : (e : List ℕ)
    → let n = be 2 e 8 in
    read head e 0
    ≡ record {
      interlace = be 2 e 0;
      records = be 4 e 2;
      record_size = be 2 e 6;
      fields = n;
      types = 10;
      sizes = 10 + 2 * n;
      offsets = 10 + 4 * n;
      orders = 10 + 6 * n;
      names = 10 + 8 * n;
      tail = read (tail (λ t. t)) e (names_end e n (10 + 8 * n));
    }
head_named e = head_is e

-- interlace, records, record size and field count from bytes 0, 2, 6 and 8; type, size, offset and order of each field, from the four lists after
-- them
pub head_fields_lem : (s : List ℕ) (ref fields names : ℕ) → (head_of s ref fields names).number ≡ 0
    → let e = record_bytes s (find s 1962 ref) in
    (take 4 (head_of s ref fields names).values ≡ be 2 e 0 ∷ be 4 e 2 ∷ be 2 e 6 ∷ be 2 e 8 ∷ [])
    × (length (head_fields e) ≡ 4 * be 2 e 8)
    × ((i : ℕ) → i < be 2 e 8 → RowOf (head_fields e) e i)
unfolding head_within head_at
head_fields_lem s ref fields names granted =
    let room = min (fields / 4) (names / 2) in
    let g = record_granted 12 s 1962 ref head_fault _ granted in
    let e = record_bytes s (find s 1962 ref) in
    let n = be 2 e 8 in
    let answers =
    g.1.answers ∙ ap (λ b. in_room 12 (leb (head_in b).fields room) (grant (head_values (start_at s g.0) (head_in b)))) (sym g.1.bytes) in
    let is = answers ∙ (in_room_passed 12 _ _ (ap (λ a. a.number) (sym answers) ∙ granted)).1 in
    let rows : head_fields e ≡ all_fields e n = fields_are e ∙ ap (all_fields e) (fields_count e) in (
      ap (λ a. take 4 a.values) is ∙ ap (λ h. h.interlace ∷ h.records ∷ h.record_size ∷ h.fields ∷ []) (head_is e),
      length_fields e ∙ ap (λ k. 4 * k) (fields_count e),
      (λ i h.
          let r = row_at_lem n e 10 (10 + 2 * n) (10 + 4 * n) (10 + 6 * n) i h in
          subst (λ l. RowOf l e i) (sym rows) (record { code = r.first; size = r.second; offset = r.third; order = r.fourth })),
    )
