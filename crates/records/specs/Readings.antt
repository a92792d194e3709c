-- Reading a record from its element in plain storage, after document 01, "Records". Assumes nothing.
use Rattle.std.specs.Prelude.{ℕ, zero, suc, List, Bool, length, leb, eqb, replicate, Ok, Err}
use Rattle.answer.specs.Search.{Hit}
use Rattle.answer.specs.Refusals.{number_of}
use Rattle.answer.specs.Answer.{Answer, refusal_with}
use Rattle.wire.specs.Numbers.{part}
use Rattle.wire.specs.Layouts.{Layout, extent}
use Rattle.directory.specs.Opening.{opened}
use Rattle.directory.specs.Lookup.{find}
use Rattle.storage.specs.declared.element.Part.{Part}
use Rattle.storage.specs.Elements.{Located, located_at, bytes_at}

-- the element of a record, or the number and the place of the refusal
pub data Sound : Type 0 where
  sound : Part → Sound
  refused : ℕ → ℕ → Sound

abbrev pub sound_of : Located → Sound
sound_of (Ok x) = sound x
sound_of (Err r) = refused (number_of r.rule) r.place

-- the element of a record whose bytes break no rule, or the refusal: the first rule that they break, at its slot
unfoldable pub sound_in : (List ℕ → ℕ) → List ℕ → Located → Sound
sound_in fault s (Err r) = refused (number_of r.rule) r.place
sound_in fault s (Ok x) =
    elim (fault (part s x.offset x.length)) [
      | zero ↦ sound x
      | suc number ↦ refused (suc number) x.slot
    ]

-- what a call of k values answers: the refusal, or what it goes on to at the slot, the offset and the length
abbrev pub on_sound : ℕ → (ℕ → ℕ → ℕ → Answer) → Sound → Answer
on_sound k answer (sound x) = answer x.slot x.offset x.length
on_sound k answer (refused n p) = refusal_with (replicate k 0) n p

-- a call of k values at what a lookup found: plain storage, the rules of the record, then what the call goes on to with where its bytes
-- start and the bytes
unfoldable pub record_at : ℕ → List ℕ → Hit → (List ℕ → ℕ) → (ℕ → List ℕ → Answer) → Answer
record_at k s found fault answer = on_sound k (λ p offset size. answer offset (part s offset size)) (sound_in fault s (located_at s found))

-- the same on an image: opening and the lookup come first
abbrev pub record_of : ℕ → List ℕ → ℕ → ℕ → (List ℕ → ℕ) → (ℕ → List ℕ → Answer) → Answer
record_of k s tag ref fault answer = opened k s (record_at k s (find s tag ref) fault answer)

-- the bytes of the record
abbrev pub record_bytes : List ℕ → Hit → List ℕ
record_bytes s found = bytes_at s (located_at s found)

-- the record ends where its bytes do; it ends among them
abbrev pub exactly : {A : Type 0} → Layout A → List ℕ → Bool
exactly layout e = eqb (length e) (extent layout e 0)

abbrev pub within : {A : Type 0} → Layout A → List ℕ → Bool
within layout e = leb (extent layout e 0) (length e)
