-- What reading a record comes to, case by case, and what a granted reading tells. Assumes nothing.
use Prim.Native.Nat.{ℕ, suc, ◌≤◌}
use native.Mathlib.Nat.{suc-ne-zero}
use native.Mathlib.Omega.{arith}
use mathlib.Core.Path.{◌≡◌, refl, sym, ap, ◌∙◌}
use mathlib.Core.Logic.{inl, inr}
use mathlib.Core.List.{List}
use mathlib.Core.Bool.{false}
use lib.ListN.{length}
use lib.Seq.{sets}
use Rattle.answer.specs.Search.{Hit, hit}
use Rattle.answer.specs.Answer.{Answer, grant, refuse, refusal}
use Rattle.answer.specs.Refusals.{number_of}
use Rattle.answer.specs.declared.refusals.Rule.{Rule}
use Rattle.std.specs.Prelude.{Ok, Err, replicate}
use Rattle.answer.proofs.Answer.{refused_is, number_positive}
use Rattle.answer.specs.Lent.{Does}
use Rattle.answer.specs.declared.Refusal.{Refusal}
use Rattle.answer.proofs.Tests.{zero?}
use Rattle.answer.proofs.Lent.{grants}
use Rattle.wire.specs.Numbers.{put, part, Bytes}
use Rattle.wire.specs.Layouts.{Layout, extent, numbers, pack}
use Rattle.wire.proofs.Numbers.{bytes_part, put_front}
use Rattle.wire.proofs.Layouts.{pack_whole}
use Rattle.directory.specs.Slots.{size_at, content_at}
use Rattle.directory.specs.Rules.{IsStored}
use Rattle.directory.specs.Opening.{open_of}
use Rattle.directory.specs.Lookup.{find}
use Rattle.directory.proofs.Opens.{opened_goes, opened_passed}
use Rattle.storage.specs.Elements.{extended_at, start_at, element_at, plain_only, Located, part_at, located_at, bytes_at}
use Rattle.storage.specs.declared.element.Part.{Part}
use Rattle.storage.proofs.Elements.{content_part, FoundPlain, found_plain, element_plain, located_element}
use Rattle.records.specs.Readings.{Sound, sound, refused, on_sound, sound_in, record_at, record_of, record_bytes}

-- ---- The element of a record

module _ (fault : List ℕ → ℕ) (s : List ℕ) where
  pub sound_refused : (l : Located) (r : Refusal) → l ≡ Err r → sound_in fault s l ≡ refused (number_of r.rule) r.place
  unfolding sound_in
  sound_refused l r e = ap (sound_in fault s) e

  -- the bytes b are the element's
  module _ (l : Located) (x : Part) (e : l ≡ Ok x) (b : List ℕ) (of : b ≡ part s x.offset x.length) where
    pub sound_broken : (number : ℕ) → number ≡ fault b → (number ≡ 0 → ⊥) → sound_in fault s l ≡ refused number x.slot
    unfolding sound_in
    sound_broken number f z =
        elim (zero? number) [
          | inl q ↦ absurd (z q)
          | inr m ↦ let g : fault (part s x.offset x.length) ≡ suc m.0 = ap fault (sym of) ∙ sym f ∙ m.1 in rw m.1 (ap (sound_in fault s) e ∙ rw (sound_in, g))
        ]

    pub sound_passes : fault b ≡ 0 → sound_in fault s l ≡ sound x
    unfolding sound_in
    sound_passes f = let g : fault (part s x.offset x.length) ≡ 0 = ap fault (sym of) ∙ f in ap (sound_in fault s) e ∙ rw (sound_in, g)

  -- what is sound is plain, and breaks no rule
  pub sound_plain : (l : Located) (x : Part) → sound_in fault s l ≡ sound x → (l ≡ Ok x) × (fault (part s x.offset x.length) ≡ 0)
  unfolding sound_in
  sound_plain (Err r) x e = let z : ◌≡◌ {A = ℕ} 0 1 = cc in absurd (omega arith)
  sound_plain (Ok y) x e =
      elim (zero? (fault (part s y.offset y.length))) [
        | inl z ↦
            let is : sound y ≡ sound x = sym (sound_passes (Ok y) y refl _ refl z) ∙ e in
            let same : y ≡ x = cc in
            (ap Ok same, ap (λ w. fault (part s w.offset w.length)) (sym same) ∙ z)
        | inr k ↦
            let is : refused (fault (part s y.offset y.length)) y.slot ≡ sound x =
            sym (sound_broken (Ok y) y refl _ refl _ refl (λ z. suc-ne-zero k.0 (sym k.1 ∙ z))) ∙ e in
            let z : ◌≡◌ {A = ℕ} 0 1 = cc in absurd (omega arith)
      ]

  -- no refusal has the number 0
  pub sound_positive : (l : Located) (n p : ℕ) → sound_in fault s l ≡ refused n p → n ≡ 0 → ⊥
  sound_positive (Err r) n p e z =
      let is : refused (number_of r.rule) r.place ≡ refused n p = sym (sound_refused (Err r) r refl) ∙ e in
      let same : number_of r.rule ≡ n = cc in
      number_positive r.rule (same ∙ z)
  sound_positive (Ok x) n p e z =
      elim (zero? (fault (part s x.offset x.length))) [
        | inl f ↦
            let bad : sound x ≡ refused n p = sym (sound_passes (Ok x) x refl _ refl f) ∙ e in
            let w : ◌≡◌ {A = ℕ} 0 1 = cc in absurd (omega arith)
        | inr k ↦
            let is : refused (fault (part s x.offset x.length)) x.slot ≡ refused n p =
            sym (sound_broken (Ok x) x refl _ refl _ refl (λ f. suc-ne-zero k.0 (sym k.1 ∙ f))) ∙ e in
            let same : fault (part s x.offset x.length) ≡ n = cc in
            suc-ne-zero k.0 (sym k.1 ∙ same ∙ z)
      ]

-- ---- What was located, in the form in which the functions use it

module _ (k : ℕ) (s : List ℕ) (found : Hit) (fault : List ℕ → ℕ) (answer : ℕ → List ℕ → Answer) (l : Located) (is : l ≡ located_at s found) where
  -- what is answered where the element is refused, or sound
  answered : (m : Sound) → sound_in fault s l ≡ m → record_at k s found fault answer ≡ on_sound k (λ p offset size. answer offset (part s offset size)) m
  unfolding record_at
  answered m e = ap (λ x. on_sound k (λ p offset size. answer offset (part s offset size)) (sound_in fault s x)) (sym is) ∙ ap (on_sound k (λ p offset size. answer offset (part s offset size))) e

  pub reads_refusal : (r : Refusal) → l ≡ Err r → record_at k s found fault answer ≡ refusal k r
  reads_refusal r e = answered _ (sound_refused fault s l r e) ∙ refused_is (replicate k 0) (number_of r.rule) r.place (number_positive r.rule)

  module _ (x : Part) (e : l ≡ Ok x) (b : List ℕ) (of : b ≡ part s x.offset x.length) where
    pub reads_stopped : (number : ℕ) → number ≡ fault b → (number ≡ 0 → ⊥) → record_at k s found fault answer ≡ refuse k number x.slot
    reads_stopped number f z = answered _ (sound_broken fault s l x e b of number f z) ∙ refused_is (replicate k 0) number x.slot z

    pub reads_broken : (r : Rule) → number_of r ≡ fault b → record_at k s found fault answer ≡ refusal k (record { rule = r; place = x.slot })
    reads_broken r f = reads_stopped (number_of r) f (number_positive r)

    pub reads_passed : fault b ≡ 0 → record_at k s found fault answer ≡ answer x.offset b
    reads_passed z = answered _ (sound_passes fault s l x e b of z) ∙ ap (answer x.offset) (sym of)

pub reads_bytes : (s : List ℕ) (found : Hit) (l : Located) → l ≡ located_at s found → (x : Part) → l ≡ Ok x → record_bytes s found ≡ part s x.offset x.length
reads_bytes s found l is x e = ap (bytes_at s) (sym is ∙ e)

pub plain_bytes : (s : List ℕ) (tag ref p : ℕ) → find s tag ref ≡ hit p → IsStored s p → extended_at s p ≡ false
    → record_bytes s (find s tag ref) ≡ content_at s p
plain_bytes s tag ref p found stored plain = ap (λ x. bytes_at s (plain_only x)) (ap (element_at s) found ∙ element_plain s p stored plain) ∙ sym (content_part s p)

-- what is put into a lent list
pub reads_list : (answer : Answer) (list lent : List ℕ) (values : List ℕ) → answer ≡ grant values → length list ≤ length lent → (after : List ℕ) → after ≡ sets lent 0 list
    → Does answer list lent after (grant values)
unfolding put
reads_list answer list lent values e h after q = grants answer list lent values e after (q ∙ put_front lent list h)

-- ---- A record on an image

module _ (k : ℕ) (s : List ℕ) (tag ref : ℕ) (fault : List ℕ → ℕ) (answer : ℕ → List ℕ → Answer) where
  -- a reading that is not refused found a plain element whose bytes break no rule of the record
  pub record Granted (p : ℕ) : Type 0 where
    pub found : FoundPlain s tag ref p (start_at s p) (size_at s p)
    pub sound : fault (content_at s p) ≡ 0
    pub answers : record_of k s tag ref fault answer ≡ answer (start_at s p) (content_at s p)
    pub bytes : record_bytes s (find s tag ref) ≡ content_at s p

  -- a plain element whose bytes break no rule of the record is read
  pub content_passes : (p : ℕ) → (open_of s).number ≡ 0 → find s tag ref ≡ hit p → IsStored s p → extended_at s p ≡ false → fault (content_at s p) ≡ 0 → Granted p
  unfolding record_at
  content_passes p opens found stored plain unbroken =
      let f = found_plain s tag ref p (start_at s p) (size_at s p) opens (ap (element_at s) found ∙ element_plain s p stored plain) in
      let l : located_at s (find s tag ref) ≡ Ok (part_at p (start_at s p) (size_at s p)) = ap plain_only f.is in
      record {
        found = f;
        sound = unbroken;
        answers = opened_goes k s _ opens ∙ reads_passed k s (find s tag ref) fault answer _ refl _ l (content_at s p) (sym f.content) unbroken;
        bytes = plain_bytes s tag ref p found stored plain;
      }

  pub record_granted : (record_of k s tag ref fault answer).number ≡ 0 → (p : ℕ) × Granted p
  unfolding record_at
  record_granted e =
      let opens = opened_passed k s (record_at k s (find s tag ref) fault answer) e in
      let q = ap (λ a. a.number) (sym (opened_goes k s (record_at k s (find s tag ref) fault answer) opens)) ∙ e in
      let h = passed (sound_in fault s (located_at s (find s tag ref))) refl q in
      let f = found_plain s tag ref h.0 h.1 h.2 opens (located_element _ _ _ _ h.3.0) in
      (h.0, content_passes h.0 opens f.found f.stored f.plain (ap fault (sym f.content) ∙ h.3.1))
    where
      passed : (l : Sound) → sound_in fault s (located_at s (find s tag ref)) ≡ l → (on_sound k (λ p offset size. answer offset (part s offset size)) l).number ≡ 0
          → (p : ℕ) × (o : ℕ) × (n : ℕ) × ((located_at s (find s tag ref) ≡ Ok (part_at p o n)) × (fault (part s o n) ≡ 0))
      passed (refused n p) is z =
          let positive = sound_positive fault s (located_at s (find s tag ref)) n p is in
          absurd (positive (ap (λ a. a.number) (sym (refused_is (replicate k 0) n p positive)) ∙ z))
      passed (sound x) is z = (x.slot, x.offset, x.length, sound_plain fault s (located_at s (find s tag ref)) x is)

pub content_bytes : (s : List ℕ) (p : ℕ) → Bytes s → Bytes (content_at s p)
content_bytes s p b = rw (content_part s p) (bytes_part s (start_at s p) (size_at s p) b)

-- the numbers of a record that ends where its bytes do give these bytes
pub content_packs : {A : Type 0} (layout : Layout A) (s : List ℕ) (p : ℕ) → Bytes s
    → extent layout (content_at s p) 0 ≡ length (content_at s p) → pack layout (numbers layout (content_at s p) 0) 0 ≡ content_at s p
content_packs layout s p b h = pack_whole layout (content_at s p) (content_bytes s p b) h
