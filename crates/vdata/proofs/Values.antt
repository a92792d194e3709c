-- A value of a Vdata by its indices: the rules in order, where it lies, and which values are given. Assumes nothing.
use Prim.Native.Nat.{ℕ, ◌+◌, ◌*◌, ◌<◌, ◌≤◌}
use native.Mathlib.Nat.{suc-ne-zero, mul-le-mul, mul-le-mul_left, mul-le-mul_right, add-mul, mul-add, one-mul}
use native.Mathlib.Omega.{arith}
use mathlib.Core.Path.{◌≡◌, sym, ap, ◌∙◌, subst}
use mathlib.Core.Logic.{inl, inr}
use mathlib.Core.List.{List, [], ◌∷◌}
use lib.ListN.{length}
use lib.Dec.{ltb}
use borrow.Author.Tests.{lt-ltb, ltb-true, le-leb, lt-leb, leb-true}
use Rattle.answer.specs.Refusals.{RECORD, NO_VALUE}
use Rattle.answer.specs.Answer.{Answer, grant, refuse, refusal, unless}
use Rattle.answer.specs.Search.{Hit}
use Rattle.answer.specs.declared.Refusal.{Refusal}
use Rattle.answer.proofs.Tests.{zero?}
use Rattle.answer.proofs.Search.{must_holds, must_fails, passed}
use Rattle.answer.proofs.Answer.{number_positive, refusal_is, unless_passes, unless_stops, unless_passed}
use Rattle.wire.specs.Numbers.{part, Bytes}
use Rattle.wire.specs.declared.ByteOrder.TheVariants.{BigEndian}
use Rattle.wire.proofs.Numbers.{number_small}
use Rattle.directory.specs.Slots.{content_at}
use Rattle.directory.specs.Opening.{opened}
use Rattle.directory.specs.Lookup.{find, find_in}
use Rattle.directory.specs.Steps.Opens.{Opens}
use Rattle.directory.proofs.Opens.{opened_goes, opened_find}
use Rattle.std.specs.Prelude.{Result, Ok, Err}
use Rattle.answer.specs.Refusals.{number_of}
use Rattle.answer.specs.declared.refusals.Rule.{Rule}
use Rattle.answer.specs.declared.refusals.Rule.TheVariants as rule
use Rattle.storage.specs.Elements.{Located, located_at}
use Rattle.storage.specs.declared.element.Part.{Part}
use Rattle.records.specs.Types.{width_of}
use Rattle.records.specs.Readings.{record_at, record_bytes}
use Rattle.records.proofs.Readings.{reads_refusal, reads_broken, reads_passed, reads_bytes, plain_bytes, content_bytes, content_passes, record_granted}
use Rattle.vhead.specs.Limits.{head_tag}
use Rattle.vhead.specs.Heads.{head_in, head_fault, field_at}
use Rattle.vhead.specs.HeadRules.{records_of, record_size_of}
use Rattle.vhead.specs.Steps.{Narrow}
use Rattle.vhead.specs.declared.field.Numbers.{Numbers}
use Rattle.vhead.specs.declared.head.Head.{Head}
use Rattle.vhead.proofs.HeadsJudged.{size_low, Sized}
use Rattle.vhead.proofs.Heads.{placed, head_is}
use Rattle.vdata.specs.Limits.{values_tag}
use Rattle.vdata.specs.Patterns.{value_at, value_kind, value_bits}
use Rattle.vdata.specs.Values.{field_fault, index_fault, place_of, values_fault, value_in, value_after, value_found, value_of, Gives}
use Rattle.vdata.specs.ValueRules.{Indexed, Readable}
use Rattle.vdata.specs.Steps.{Reach}
use Rattle.vdata.proofs.Widths.{width_low}
use Rattle.vdata.specs.declared.value.Value.{Value}

-- ---- The indices

module _ (h : Head) (f : Numbers) (i c : ℕ) where
  pub field_passes : i < h.fields → c < f.order → field_fault h f i c ≡ 0
  unfolding field_fault
  field_passes l m = must_holds _ NO_VALUE _ (lt-ltb _ _ l) ∙ must_holds _ NO_VALUE _ (lt-ltb _ _ m)

  pub field_inside : field_fault h f i c ≡ 0 → (i < h.fields) × (c < f.order)
  unfolding field_fault
  field_inside e =
      let y = passed (ltb i h.fields) 16 _ e in
      let z = passed (ltb c f.order) 16 _ y.1 in
      (ltb-true _ _ y.0, ltb-true _ _ z.0)

module _ (h : Head) (f : Numbers) (r i c : ℕ) where
  pub index_goes : r < h.records → index_fault h f r i c ≡ field_fault h f i c
  unfolding index_fault
  index_goes l = must_holds _ NO_VALUE _ (lt-ltb _ _ l)

  -- indices that pass are small enough
  pub index_inside : index_fault h f r i c ≡ 0 → (r < h.records) × (i < h.fields) × (c < f.order)
  unfolding index_fault
  index_inside e =
      let x = passed (ltb r h.records) 16 _ e in
      let y = field_inside h f i c x.1 in
      (ltb-true _ _ x.0, y.0, y.1)

-- a head that was read, and the numbers of its field
module _ (e : List ℕ) (h : Head) (is : h ≡ head_in e) where
  pub same_field : (i : ℕ) (g : Numbers) → g ≡ field_at e (head_in e) i → g ≡ field_at e h i
  same_field i g q = q ∙ ap (λ k. field_at e k i) (sym is)

  pub same_fault : (r i c n : ℕ) → n ≡ index_fault h (field_at e h i) r i c → n ≡ index_fault (head_in e) (field_at e (head_in e) i) r i c
  same_fault r i c n q = q ∙ ap (λ k. index_fault k (field_at e k i) r i c) is

  pub head_small : Bytes e → (h.records < 4294967296) × (h.record_size < 65536)
  head_small bytes = rw (is, head_is) (number_small BigEndian 4 e 2 bytes, number_small BigEndian 2 e 6 bytes)

  pub value_is : (f : Numbers) (i : ℕ) → f ≡ field_at e (head_in e) i → (v w : List ℕ) → w ≡ v → (r c at : ℕ) → at ≡ place_of h f r c
      → (x : Value) → x ≡ value_at f.code w at → x ≡ value_in e v r i c
  unfolding value_in
  value_is f i fi v w vw r c at place x xi =
      xi ∙ ap (value_at f.code w) place ∙ ap (λ b. value_at f.code b (place_of h f r c)) vw
      ∙ ap (λ k. value_at k.code v (place_of h k r c)) fi ∙ ap (λ k. value_at (field_at e (head_in e) i).code v (place_of k (field_at e (head_in e) i) r c)) is

-- ---- Where a value lies

-- numbers of a head and its fields multiply to less than 49 bits
pub small_product : (a b : ℕ) → a < 4294967296 → b < 65536 → a * b ≤ 281474976710656
small_product a b l m =
    let x : a ≤ 4294967296 = omega arith in
    let y : b ≤ 65536 = omega arith in
    mul-le-mul x y

pub reach : (h : Head) (f : Numbers) (r c : ℕ) → h.records < 4294967296 → h.record_size < 65536 → Narrow f → r < h.records → c < f.order → Reach h f r c
reach h f r c a b n l m =
    let x : r < 4294967296 = omega arith in
    let y : c < 65536 = omega (arith, n.order) in
    record {
      before = small_product r h.record_size x b;
      column = small_product h.records f.offset a n.offset;
      row = small_product r f.size x n.size;
      component = size_low c (width_of f.code) y (width_low f.code);
      offset = n.offset;
    }

pub place_records : (h : Head) (f : Numbers) (r c : ℕ) → h.interlace ≡ 0 → r * h.record_size + f.offset + c * width_of f.code ≡ place_of h f r c
unfolding place_of
place_records h f r c e = rw (place_of, e)

pub place_fields : (h : Head) (f : Numbers) (r c : ℕ) → (h.interlace ≡ 0 → ⊥) → h.records * f.offset + r * f.size + c * width_of f.code ≡ place_of h f r c
unfolding place_of
place_fields h f r c z = elim (zero? h.interlace) [ inl e ↦ absurd (z e) | inr m ↦ rw (place_of, m.1) ]

-- a component, by the records before it or by the fields before it
pub lies : (h : Head) (f : Numbers) (r c : ℕ) → Sized h.record_size f → r < h.records → c < f.order
    → place_of h f r c + width_of f.code ≤ h.records * h.record_size
lies h f r c z l m =
    let w = width_of f.code in
    let rs = h.record_size in
    let own : (c + 1) * w ≤ f.size = subst (λ x. (c + 1) * w ≤ x) (sym z.size) (mul-le-mul_right w m') in
    let one : (c + 1) * w ≡ c * w + w = add-mul c 1 w ∙ ap (λ x. c * w + x) (one-mul w) in
    elim (zero? h.interlace) [
      | inl e ↦
          let next : (r + 1) * rs ≤ h.records * rs = mul-le-mul_right rs l' in
          let more : (r + 1) * rs ≡ r * rs + rs = add-mul r 1 rs ∙ ap (λ x. r * rs + x) (one-mul rs) in
          omega (arith, place_records h f r c e, z.inside)
      | inr k ↦
          let next : (r + 1) * f.size ≤ h.records * f.size = mul-le-mul_right f.size l' in
          let more : (r + 1) * f.size ≡ r * f.size + f.size = add-mul r 1 f.size ∙ ap (λ x. r * f.size + x) (one-mul f.size) in
          let all : h.records * (f.offset + f.size) ≤ h.records * rs = mul-le-mul_left h.records z.inside in
          let both : h.records * (f.offset + f.size) ≡ h.records * f.offset + h.records * f.size = mul-add h.records f.offset f.size in
          omega (arith, place_fields h f r c (λ q. suc-ne-zero k.0 (sym k.1 ∙ q)))
    ]
  where
    l' : r + 1 ≤ h.records
    l' = omega arith

    m' : c + 1 ≤ f.order
    m' = omega arith

-- ---- The answer

pub gives_refused : (answer : Answer) (v : Value) (x : Refusal) → answer ≡ refusal 2 x → Gives answer v (Err x)
gives_refused answer v x e =
    record { answers = sym e; exact = λ y q. cc }

pub gives_value : (answer : Answer) (v x : Value) → answer ≡ grant (value_kind x ∷ value_bits x ∷ []) → x ≡ v → Gives answer v (Ok x)
gives_value answer v x e is = record { answers = sym e; exact = λ y q. cc }

-- after a sound head of the bytes e
module _ (s e : List ℕ) (found : Hit) (r i c : ℕ) where
  abbrev h : Head
  h = head_in e

  abbrev fault : ℕ
  fault = index_fault h (field_at e h i) r i c

  abbrev given : ℕ → List ℕ → Answer
  given at v = grant (value_kind (value_in e v r i c) ∷ value_bits (value_in e v r i c) ∷ [])

  pub after_index : (x : Rule) → number_of x ≡ fault → (v : Value) → Gives (value_after s e found r i c) v (Err (record { rule = x; place = 0 }))
  unfolding value_after
  after_index x is v = gives_refused _ v _ (unless_stops 2 fault 0 _ (λ q. number_positive x (is ∙ q)) ∙ ap (λ k. refuse 2 k 0) (sym is) ∙ sym (refusal_is 2 _))

  module _ (inside : fault ≡ 0) (l : Located) (is : l ≡ located_at s found) where
    goes : value_after s e found r i c ≡ record_at 2 s found (values_fault h) given
    unfolding value_after
    goes = unless_passes 2 fault 0 _ inside

    pub after_refused : (x : Refusal) → l ≡ Err x → (v : Value) → Gives (value_after s e found r i c) v (Err x)
    after_refused x at v = gives_refused _ v x (goes ∙ reads_refusal 2 s found (values_fault h) given l is x at)

    -- the bytes v of the values
    module _ (x : Part) (at : l ≡ Ok x) (v : List ℕ) (of : v ≡ part s x.offset x.length) where
      pub after_short : length v < h.records * h.record_size → (w : Value) → Gives (value_after s e found r i c) w (Err (record { rule = rule.Record; place = x.slot }))
      unfolding values_fault
      after_short m w =
          gives_refused _ w _
          (goes ∙ reads_broken 2 s found (values_fault h) given l is x at v of rule.Record (sym (must_fails _ RECORD 0 (lt-leb (h.records * h.record_size) (length v) m))))

      pub after_given : h.records * h.record_size ≤ length v → (w : Value) → w ≡ value_in e v r i c
          → Gives (value_after s e found r i c) (value_in e (record_bytes s found) r i c) (Ok w)
      unfolding values_fault
      after_given m w wi =
          gives_value _ _ w
          (goes ∙ reads_passed 2 s found (values_fault h) given l is x at v of (must_holds _ RECORD 0 (le-leb (h.records * h.record_size) (length v) m))
          ∙ ap (λ y. grant (value_kind y ∷ value_bits y ∷ [])) (sym wi))
          (wi ∙ ap (λ b. value_in e b r i c) (sym (reads_bytes s found l is x at ∙ sym of)))

-- ---- The call, by what is found of the head

module _ (s : List ℕ) (head values : Hit) (r i c : ℕ) (l : Located) (is : l ≡ located_at s head) where
  pub read_refused : (x : Refusal) → l ≡ Err x → (v : Value) → Gives (value_found s head values r i c) v (Err x)
  unfolding value_found
  read_refused x at v = gives_refused _ v x (reads_refusal 2 s head head_fault _ l is x at)

  module _ (x : Part) (at : l ≡ Ok x) (e : List ℕ) (of : e ≡ part s x.offset x.length) where
    pub read_broken : (m : Rule) → number_of m ≡ head_fault e → (v : Value) → Gives (value_found s head values r i c) v (Err (record { rule = m; place = x.slot }))
    unfolding value_found
    read_broken m q v = gives_refused _ v _ (reads_broken 2 s head head_fault _ l is x at e of m q)

    pub read_goes : head_fault e ≡ 0 → (w : List ℕ) (y : Result Value Refusal) → Gives (value_after s e values r i c) (value_in e w r i c) y
        → Gives (value_found s head values r i c) (value_in (record_bytes s head) w r i c) y
    unfolding value_found
    read_goes z w y g =
        let b : record_bytes s head ≡ e = reads_bytes s head l is x at ∙ sym of in
        let a = reads_passed 2 s head head_fault (λ at e. value_after s e values r i c) l is x at e of z in
        rw (a, b) g

-- in an image that was opened
pub read_opened : (s : List ℕ) (blocks ref r i c : ℕ) → Opens s blocks → (x : Result Value Refusal)
    → let head = find_in s blocks head_tag ref in let values = find_in s blocks values_tag ref in
    Gives (value_found s head values r i c) (value_in (record_bytes s head) (record_bytes s values) r i c) x
    → Gives (value_of s ref r i c) (value_in (record_bytes s (find s head_tag ref)) (record_bytes s (find s values_tag ref)) r i c) x
unfolding value_of
read_opened s blocks ref r i c o x g =
    rw (opened_goes 2 s (value_found s (find s head_tag ref) (find s values_tag ref) r i c) o.sound)
    (rw (opened_find s blocks head_tag ref o, opened_find s blocks values_tag ref o) at g)

-- ---- Which values are given

module _ (e : List ℕ) (r i c : ℕ) where
  indices_there : index_fault (head_in e) (field_at e (head_in e) i) r i c ≡ 0 → Indexed e r i c
  indices_there z =
      let x = index_inside (placed e) (field_at e (placed e) i) r i c (rw head_is at z) in
      record { record_there = x.0; field_there = x.1; component_there = x.2 }

  there_indices : Indexed e r i c → index_fault (head_in e) (field_at e (head_in e) i) r i c ≡ 0
  there_indices x =
      rw (head_is e)
      (index_goes (placed e) (field_at e (placed e) i) r i c x.record_there ∙ field_passes (placed e) (field_at e (placed e) i) i c x.field_there x.component_there)

pub all_records : (e : List ℕ) → (head_in e).records * (head_in e).record_size ≡ records_of e * record_size_of e
all_records e = ap (λ h. h.records * h.record_size) (head_is e)

-- a call that is not refused
pub granted_readable : (s : List ℕ) (ref r i c : ℕ) → (value_of s ref r i c).number ≡ 0 → Readable s ref r i c
unfolding value_of value_found value_after values_fault
granted_readable s ref r i c q =
    let values = find s values_tag ref in
    let g = record_granted 2 s head_tag ref head_fault (λ at e. value_after s e values r i c) q in
    let e = content_at s g.0 in
    let n = index_fault (head_in e) (field_at e (head_in e) i) r i c in
    let answer = record_at 2 s values (values_fault (head_in e)) (given s e values r i c) in
    let a : (unless 2 n 0 answer).number ≡ 0 = ap (λ a. a.number) (sym g.1.answers) ∙ q in
    let inside = unless_passed 2 n 0 answer a in
    let b : (opened 2 s answer).number ≡ 0 = ap (λ a. a.number) (opened_goes 2 s answer g.1.found.sound ∙ sym (unless_passes 2 n 0 answer inside)) ∙ a in
    let v = record_granted 2 s values_tag ref (values_fault (head_in e)) (given s e values r i c) b in
    record {
      opens = g.1.found.sound;
      head = record { slot = g.0; found = g.1.found.found; stored = g.1.found.stored; plain = g.1.found.plain };
      sound = ap head_fault g.1.bytes ∙ g.1.sound;
      indexed = rw g.1.bytes (indices_there e r i c inside);
      values = record { slot = v.0; found = v.1.found.found; stored = v.1.found.stored; plain = v.1.found.plain };
      whole = rw (g.1.bytes, v.1.bytes, ← all_records e) (leb-true _ _ (passed _ 14 _ v.1.sound).0);
    }

-- the answer of a call that is granted
abbrev pub answer_of : List ℕ → ℕ → ℕ → ℕ → ℕ → Answer
answer_of s ref r i c =
    let x = value_in (record_bytes s (find s head_tag ref)) (record_bytes s (find s values_tag ref)) r i c in
    grant (value_kind x ∷ value_bits x ∷ [])

pub readable_granted : (s : List ℕ) (ref r i c : ℕ) → Readable s ref r i c → value_of s ref r i c ≡ answer_of s ref r i c
unfolding value_of value_found value_after values_fault
readable_granted s ref r i c x =
    let values = find s values_tag ref in
    let e = record_bytes s (find s head_tag ref) in
    let h = head_in e in
    let from = x.head in
    let to = x.values in
    let head_bytes = plain_bytes s head_tag ref from.slot from.found from.stored from.plain in
    let value_bytes = plain_bytes s values_tag ref to.slot to.found to.stored to.plain in
    let long = must_holds _ RECORD 0 (le-leb (h.records * h.record_size) (length (record_bytes s values)) (rw (all_records e) x.whole)) in
    let g = content_passes 2 s head_tag ref head_fault (λ at e. value_after s e values r i c) from.slot x.opens from.found from.stored from.plain (ap head_fault (sym head_bytes) ∙ x.sound) in
    let w = content_passes 2 s values_tag ref (values_fault h) (given s e values r i c) to.slot x.opens to.found to.stored to.plain (ap (values_fault h) (sym value_bytes) ∙ long) in
    g.answers ∙ ap (λ b. value_after s b values r i c) (sym head_bytes)
    ∙ unless_passes 2 _ 0 _ (there_indices e r i c x.indexed)
    ∙ sym (opened_goes 2 s _ x.opens) ∙ w.answers ∙ ap (given s e values r i c 0) (sym value_bytes)

-- the element of the values is bytes where the image is
pub values_bytes : (s : List ℕ) (ref r i c : ℕ) → Bytes s → Readable s ref r i c → Bytes (record_bytes s (find s values_tag ref))
values_bytes s ref r i c b x =
    let v = x.values in
    rw (plain_bytes s values_tag ref v.slot v.found v.stored v.plain) (content_bytes s v.slot b)
