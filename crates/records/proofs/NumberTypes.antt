-- Number types: the fault by the length, and the bytes as they are written, field by field. Assumes nothing.
use Prim.Native.Nat.{ℕ}
use mathlib.Core.Path.{◌≡◌, refl, sym}
use mathlib.Core.List.{List}
use lib.ListN.{length}
use borrow.Author.Tests.{eq-eqb, ne_eqb, eqb-true}
use Rattle.wire.specs.Numbers.{bytes, put, bytes_in}
use Rattle.answer.proofs.Search.{must_fails, passed, pass}
use Rattle.wire.specs.Layouts.{extent, pack}
use Rattle.records.specs.NumberTypes.{number_type_fault, number_type_bytes}
use Rattle.records.specs.declared.number_type.NumberType.{NumberType}
use Rattle.wire.proofs.Layouts.{put_field}

module _ (e : List ℕ) where
  pub four_bytes : length e ≡ 4 → number_type_fault e ≡ 0
  unfolding number_type_fault extent
  four_bytes h = pass _ 15 0 (eq-eqb (length e) 4 h) refl

  pub other_bytes : (length e ≡ 4 → ⊥) → number_type_fault e ≡ 15
  unfolding number_type_fault extent
  other_bytes z = must_fails _ 15 0 (ne_eqb (length e) 4 z)

  pub sound_bytes : number_type_fault e ≡ 0 → length e ≡ 4
  unfolding number_type_fault extent
  sound_bytes h = eqb-true (length e) 4 (passed _ 14 0 h).0

module _ (x : NumberType) where
  pub length_number_type : length (number_type_bytes x) ≡ 4
  unfolding number_type_bytes pack bytes_in
  length_number_type = refl

  -- four bytes written one after the other
  pub put_number_type : (out s₁ s₂ s₃ s₄ : List ℕ)
      → s₁ ≡ put out 0 (bytes 1 x.version)
      → s₂ ≡ put s₁ 1 (bytes 1 x.code)
      → s₃ ≡ put s₂ 2 (bytes 1 x.width)
      → s₄ ≡ put s₃ 3 (bytes 1 x.class)
      → s₄ ≡ put out 0 (number_type_bytes x)
  unfolding number_type_bytes pack put
  put_number_type out s₁ s₂ s₃ s₄ e₁ e₂ e₃ e₄ = rw (e₄, e₃, e₂, e₁) (sym (simp put_field))
