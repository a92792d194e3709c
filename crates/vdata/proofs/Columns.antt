-- A column of a Vdata: where its values lie, the loop that puts them into a list, and the answer case by case. Assumes nothing.
use Prim.Native.Nat.{ℕ, zero, suc, ◌+◌, ◌*◌, ◌-◌, ◌<◌, ◌≤◌}
use native.Mathlib.Nat.{suc-mul, zero-mul, add-zero, pow-le-pow_right}
use native.Mathlib.Numerals.{add-one}
use native.Mathlib.Omega.{arith}
use mathlib.Core.Path.{◌≡◌, refl, sym, ap, ◌∙◌}
use mathlib.Core.Logic.{inl, inr}
use mathlib.Core.List.{List, [], ◌∷◌}
use lib.ListN.{length, get_or, set}
use lib.Dec.{leb}
use lib.Seq.{sets}
use borrow.Author.Tests.{le-leb, lt-leb}
use Rattle.answer.specs.Refusals.{RECORD}
use Rattle.answer.specs.Answer.{Answer, grant, refuse, refusal, in_room}
use Rattle.answer.specs.Search.{Hit}
use Rattle.answer.specs.Lent.{Does}
use Rattle.answer.specs.declared.Refusal.{Refusal}
use Rattle.answer.proofs.Tests.{zero?}
use Rattle.answer.proofs.Search.{must_holds, must_fails}
use Rattle.answer.proofs.Answer.{number_positive, refusal_is, unless_passes, unless_stops, in_room_enough, in_room_short}
use Rattle.answer.proofs.Lent.{refuses, grants}
use Rattle.wire.specs.Numbers.{part, ReadsIn}
use Rattle.wire.specs.declared.ByteOrder.{ByteOrder}
use Rattle.directory.specs.Lookup.{find, find_in}
use Rattle.directory.specs.Steps.Opens.{Opens}
use Rattle.directory.proofs.Opens.{opened_goes, opened_find}
use Rattle.std.specs.Prelude.{Ok, Err}
use Rattle.answer.specs.Refusals.{number_of}
use Rattle.answer.specs.declared.refusals.Rule.{Rule}
use Rattle.answer.specs.declared.refusals.Rule.TheVariants as rule
use Rattle.storage.specs.Elements.{Located, located_at}
use Rattle.storage.specs.declared.element.Part.{Part}
use Rattle.records.specs.Types.{byte_order_of, width_of, kind_of}
use Rattle.records.specs.Readings.{record_at, record_bytes}
use Rattle.records.proofs.Readings.{reads_refusal, reads_broken, reads_passed, reads_bytes, reads_list}
use Rattle.vhead.specs.Limits.{head_tag}
use Rattle.vhead.specs.Heads.{head_in, head_fault, field_at, fields_of, fields_fault}
use Rattle.vhead.specs.declared.field.Numbers.{Numbers}
use Rattle.vhead.specs.declared.head.Head.{Head}
use Rattle.vhead.proofs.HeadsRead.{head_passed}
use Rattle.vhead.proofs.HeadsJudged.{sound_typed, sound_sized, Sized}
use Rattle.vdata.specs.Limits.{values_tag}
use Rattle.vdata.specs.Patterns.{value_by, value_at, value_bits, type_kind}
use Rattle.vdata.specs.Values.{field_fault, place_of, values_fault, value_in}
use Rattle.vdata.specs.Columns.{column_from, column_in, column_given, column_after, column_found, column_of, column_bits}
use Rattle.vdata.specs.Steps.{step_of, bits_from, extended, Splits, AllThere}
use Rattle.vdata.proofs.Widths.{width_low}
use Rattle.vdata.proofs.Values.{lies}

-- ---- The values of a column

-- each lies a step after the one of the record before
place_step : (h : Head) (f : Numbers) (r c : ℕ) → place_of h f (suc r) c ≡ place_of h f r c + step_of h f
unfolding place_of step_of
place_step h f r c =
    elim (zero? h.interlace) [
      | inl e ↦ rw (place_of, step_of, e) (omega (arith, suc-mul r h.record_size))
      | inr m ↦ rw (place_of, step_of, m.1) (omega (arith, suc-mul r f.size))
    ]

pub column_strides : (e v : List ℕ) (i c r n : ℕ) → let h = head_in e in let f = field_at e h i in
    column_from e v i c r n ≡ bits_from f.code v (place_of h f r c) (step_of h f) n
unfolding column_from bits_from value_in
column_strides e v i c r zero = refl
column_strides e v i c r (suc n) =
    let h = head_in e in
    let f = field_at e h i in
    ap (λ l. value_bits (value_at f.code v (place_of h f r c)) ∷ l)
    (column_strides e v i c (suc r) n ∙ ap (λ at. bits_from f.code v at (step_of h f) n) (place_step h f r c))

pub length_column : (e v : List ℕ) (i c r n : ℕ) → length (column_from e v i c r n) ≡ n
unfolding column_from
length_column e v i c r zero = refl
length_column e v i c r (suc n) = ap suc (length_column e v i c (suc r) n)

pub get_or_column : (e v : List ℕ) (i c r n j : ℕ) → j < n → get_or (column_from e v i c r n) j 0 ≡ value_bits (value_in e v (r + j) i c)
unfolding column_from
get_or_column e v i c r zero j h = absurd (omega arith)
get_or_column e v i c r (suc n) zero h = ap (λ k. value_bits (value_in e v k i c)) (sym (add-zero r))
get_or_column e v i c r (suc n) (suc j) h =
    let k : suc r + j ≡ r + suc j = omega arith in
    get_or_column e v i c (suc r) n j (omega arith) ∙ ap (λ k. value_bits (value_in e v k i c)) k

-- what was read in an order and a width that are those asked for
pub reads_own : (byte_order own : ByteOrder) → byte_order ≡ own → (width k : ℕ) → width ≡ k → (v : List ℕ) (at n : ℕ) → ReadsIn own k v at n
    → ReadsIn byte_order width v at n
reads_own byte_order own o width k w v at n r = rw (o, w) r

-- ---- The loop

-- a pattern that was read, and the greatest of its type that is no negative number's
module _ (code width : ℕ) (byte_order : ByteOrder) (v : List ℕ) (at n most : ℕ) (w : width ≡ width_of code) (o : byte_order ≡ byte_order_of code)
    (r : ReadsIn byte_order width v at n) (splits : Splits code most) where
  own : ReadsIn (byte_order_of code) (width_of code) v at n
  own = rw (← w, ← o) r

  below : n < 18446744073709551616
  below = omega (arith, own.small, pow-le-pow_right {n = 256} (omega arith) (width_low code))

  pub bits_room : most < n → (n ≤ 2 * most + 1) × (most ≤ 2147483647)
  bits_room = splits.room n below own.small

  pub bits_read : (b : ℕ) → b ≡ extended most n → b ≡ value_bits (value_at code v at)
  unfolding value_at
  bits_read b is = is ∙ sym (splits.bits n below own.small) ∙ ap (λ m. value_bits (value_by (kind_of code) (width_of code) m)) own.is

-- so many values are put into a list: those that are left, put on what is there, give the whole
pub record Putting (code : ℕ) (v : List ℕ) (first step count : ℕ) (out₀ out : List ℕ) (i : ℕ) : Type 0 where
  pub left : sets out i (bits_from code v (first + i * step) step (count - i)) ≡ sets out₀ 0 (bits_from code v first step count)

module _ {code : ℕ} {v : List ℕ} {first step count : ℕ} {out₀ : List ℕ} where
  pub putting_next : {out : List ℕ} {i : ℕ} → Putting code v first step count out₀ out i → i < count → (b : ℕ) → b ≡ value_bits (value_at code v (first + i * step))
      → Putting code v first step count out₀ (set out i b) (i + 1)
  unfolding bits_from
  putting_next {out} {i} w h b is =
      let n : count - i ≡ suc (count - (i + 1)) = omega arith in
      let f : first + i * step + step ≡ first + suc i * step = omega (arith, suc-mul i step) in
      let l : sets out i (bits_from code v (first + i * step) step (suc (count - (i + 1)))) ≡ sets out₀ 0 (bits_from code v first step count) = rw n at w.left in
      record { left = rw (is, add-one i) (rw (f, add-one i) at l) }

  pub putting_done : {out : List ℕ} {i : ℕ} → Putting code v first step count out₀ out i → count ≤ i → out ≡ sets out₀ 0 (bits_from code v first step count)
  unfolding bits_from
  putting_done {out} {i} w h = let z : count - i ≡ 0 = omega arith in rw z at w.left

-- ---- The places of all records

-- of a sound head, they and their bytes lie inside
places : (h : Head) (f : Numbers) (r c : ℕ) → place_of h f r c ≡ place_of h f 0 c + r * step_of h f
places h f zero c = omega (arith, zero-mul (step_of h f))
places h f (suc r) c = omega (arith, places h f r c, place_step h f r c, suc-mul r (step_of h f))

pub column_sound : (e : List ℕ) → head_fault e ≡ 0 → (h : Head) → h ≡ head_in e → (i c : ℕ) (f : Numbers) → f ≡ field_at e h i → i < h.fields → c < f.order
    → (v : List ℕ) → h.records * h.record_size ≤ length v → AllThere f.code (place_of h f 0 c) (step_of h f) h.records v
column_sound e sound h is i c f is_field there component v whole =
    let fields : fields_fault h.record_size (fields_of e h) ≡ 0 = rw is (head_passed e sound).fields in
    let typed : 1 ≤ width_of f.code = rw is_field (sound_typed h.record_size (field_at e h) h.fields i fields there) in
    let sized : Sized h.record_size f = rw is_field (sound_sized h.record_size (field_at e h) h.fields i fields there) in
    record { known = typed; inside = λ r l. omega (arith, lies h f r c sized l component, places h f r c) }

-- ---- After a sound head of the bytes e

module _ (s e : List ℕ) (found : Hit) (i c : ℕ) (out : List ℕ) (h : Head) (parsed : h ≡ head_in e) where
  abbrev Leaves : List ℕ → Answer → Type 0
  Leaves after numbers = Does (column_after s e found i c (length out)) (column_in e (record_bytes s found) i c) out after numbers

  abbrev fault : ℕ
  fault = field_fault h (field_at e h i) i c

  pub column_index : (x : Rule) → number_of x ≡ fault → Leaves out (refusal 2 (record { rule = x; place = 0 }))
  unfolding column_after
  column_index x is =
      let same : field_fault (head_in e) (field_at e (head_in e) i) i c ≡ number_of x = sym (is ∙ ap (λ k. field_fault k (field_at e k i) i c) parsed) in
      refuses _ _ out 2 _ (unless_stops 2 _ 0 _ (λ q. number_positive x (sym same ∙ q)) ∙ ap (λ k. refuse 2 k 0) same)

  module _ (inside : fault ≡ 0) (f : Numbers) (is_field : f ≡ field_at e (head_in e) i) (kind : ℕ) (is_kind : kind ≡ type_kind f.code) where
    abbrev given : ℕ → Answer
    given n = grant (kind ∷ n ∷ [])

    goes : column_after s e found i c (length out) ≡ column_given s e found i (length out) (head_in e).records
    unfolding column_after
    goes = unless_passes 2 _ 0 _ (ap (λ k. field_fault k (field_at e k i) i c) (sym parsed) ∙ inside)

    kind_told : kind ≡ type_kind (field_at e (head_in e) i).code
    kind_told = is_kind ∙ ap (λ g. type_kind g.code) is_field

    -- no records: nothing is looked up, and nothing is written
    pub column_none : h.records ≡ 0 → Leaves out (given 0)
    unfolding column_given column_in column_from
    column_none none =
        let z : (head_in e).records ≡ 0 = ap (λ k. k.records) (sym parsed) ∙ none in
        let empty : column_in e (record_bytes s found) i c ≡ [] = rw (column_in, z) in
        grants _ _ out (kind ∷ 0 ∷ []) (goes ∙ rw z (ap (λ k. grant (k ∷ 0 ∷ [])) (sym kind_told))) out (rw empty)

    module _ (some : h.records ≡ 0 → ⊥) (l : Located) (is : l ≡ located_at s found) where
      abbrev answer : ℕ → List ℕ → Answer
      answer at v = in_room 2 (leb h.records (length out)) (given h.records)

      onward : column_after s e found i c (length out) ≡ record_at 2 s found (values_fault h) answer
      unfolding column_given
      onward =
          elim (zero? h.records) [
            | inl z ↦ absurd (some z)
            | inr m ↦
                let k : (head_in e).records ≡ suc m.0 = ap (λ k. k.records) (sym parsed) ∙ m.1 in
                let with : Head → ℕ → ℕ → Answer = λ g j told. record_at 2 s found (values_fault g) (λ at v. in_room 2 (leb j (length out)) (grant (told ∷ j ∷ []))) in
                let told = type_kind (field_at e (head_in e) i).code in
                goes ∙ ap (column_given s e found i (length out)) k
                ∙ ap (λ g. with g (suc m.0) told) (sym parsed) ∙ ap (λ j. with h j told) (sym m.1) ∙ ap (with h h.records) (sym kind_told)
          ]

      pub column_refused : (x : Refusal) → l ≡ Err x → Leaves out (refusal 2 x)
      column_refused x at = refuses _ _ out 2 x (onward ∙ reads_refusal 2 s found (values_fault h) answer l is x at ∙ refusal_is 2 x)

      -- the bytes v of the values
      module _ (x : Part) (at : l ≡ Ok x) (v : List ℕ) (of : v ≡ part s x.offset x.length) where
        pub column_short : length v < h.records * h.record_size → Leaves out (refusal 2 (record { rule = rule.Record; place = x.slot }))
        unfolding values_fault
        column_short m =
            let broken = sym (must_fails _ RECORD 0 (lt-leb (h.records * h.record_size) (length v) m)) in
            refuses _ _ out 2 (record { rule = rule.Record; place = x.slot }) (onward ∙ reads_broken 2 s found (values_fault h) answer l is x at v of rule.Record broken ∙ refusal_is 2 (record { rule = rule.Record; place = x.slot }))

        module _ (whole : h.records * h.record_size ≤ length v) where
          stands : column_after s e found i c (length out) ≡ answer x.offset v
          unfolding values_fault
          stands =
              onward ∙ reads_passed 2 s found (values_fault h) answer l is x at v of (must_holds _ RECORD 0 (le-leb (h.records * h.record_size) (length v) whole))

          pub column_small : length out < h.records → Leaves out (refusal 2 (record { rule = rule.Small; place = 0 }))
          column_small m = refuses _ _ out 2 (record { rule = rule.Small; place = 0 }) (stands ∙ in_room_short 2 _ _ (lt-leb _ _ m))

          pub column_put : h.records ≤ length out → (after : List ℕ) → after ≡ sets out 0 (bits_from f.code v (place_of h f 0 c) (step_of h f) h.records)
              → Leaves after (given h.records)
          unfolding column_in
          column_put m after put =
              let b : record_bytes s found ≡ v = reads_bytes s found l is x at ∙ sym of in
              let all : column_in e (record_bytes s found) i c ≡ bits_from f.code v (place_of h f 0 c) (step_of h f) h.records =
              rw (b, is_field, parsed) (column_strides e v i c 0 (head_in e).records) in
              let long : length (column_in e (record_bytes s found) i c) ≤ length out =
              omega (arith, length_column e (record_bytes s found) i c 0 (head_in e).records, ap (λ k. k.records) parsed) in
              reads_list _ _ out _ (stands ∙ in_room_enough 2 _ _ (le-leb _ _ m)) long after (put ∙ ap (sets out 0) (sym all))

-- ---- The call, by what is found of the head

module _ (s : List ℕ) (head values : Hit) (i c : ℕ) (out : List ℕ) (l : Located) (is : l ≡ located_at s head) where
  pub read_refused : (x : Refusal) → l ≡ Err x → (given : List ℕ) → Does (column_found s head values i c (length out)) given out out (refusal 2 x)
  unfolding column_found
  read_refused x at given = refuses _ given out 2 x (reads_refusal 2 s head head_fault _ l is x at ∙ refusal_is 2 x)

  module _ (x : Part) (at : l ≡ Ok x) (e : List ℕ) (of : e ≡ part s x.offset x.length) where
    pub read_broken : (m : Rule) → number_of m ≡ head_fault e → (given : List ℕ)
        → Does (column_found s head values i c (length out)) given out out (refusal 2 (record { rule = m; place = x.slot }))
    unfolding column_found
    read_broken m q given = refuses _ given out 2 _ (reads_broken 2 s head head_fault _ l is x at e of m q ∙ refusal_is 2 _)

    pub read_goes : head_fault e ≡ 0 → (w after : List ℕ) (numbers : Answer) → Does (column_after s e values i c (length out)) (column_in e w i c) out after numbers
        → Does (column_found s head values i c (length out)) (column_in (record_bytes s head) w i c) out after numbers
    unfolding column_found
    read_goes z w after numbers d =
        let b : record_bytes s head ≡ e = reads_bytes s head l is x at ∙ sym of in
        let a = reads_passed 2 s head head_fault (λ at e. column_after s e values i c (length out)) l is x at e of z in
        rw (a, b) d

-- in an image that was opened
pub read_opened : (s : List ℕ) (blocks ref i c : ℕ) → Opens s blocks → (out after : List ℕ) (numbers : Answer)
    → let head = find_in s blocks head_tag ref in let values = find_in s blocks values_tag ref in
    Does (column_found s head values i c (length out)) (column_in (record_bytes s head) (record_bytes s values) i c) out after numbers
    → Does (column_of s ref i c (length out)) (column_bits s ref i c) out after numbers
unfolding column_of column_bits
read_opened s blocks ref i c o out after numbers d =
    rw (opened_goes 2 s (column_found s (find s head_tag ref) (find s values_tag ref) i c (length out)) o.sound)
    (rw (opened_find s blocks head_tag ref o, opened_find s blocks values_tag ref o) at d)
