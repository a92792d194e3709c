-- Dimensions: the fault by the length and the interlace, and the bytes as they are written, field by field. Assumes nothing.
use Prim.Native.Nat.{ℕ, ◌<◌, ◌≤◌}
use mathlib.Core.Path.{◌≡◌, refl, sym}
use mathlib.Core.List.{List}
use lib.ListN.{length}
use borrow.Author.Tests.{eq-eqb, eqb-true, le-leb, lt-leb, leb-true}
use Rattle.wire.specs.Numbers.{be, bytes, put, bytes_in}
use Rattle.answer.proofs.Search.{must_fails, passed, pass}
use Rattle.wire.specs.Layouts.{read, extent, pack}
use Rattle.records.specs.Dimensions.{dimension_fault, dimension_bytes, dimension_pack_fault}
use Rattle.records.specs.declared.dimension.Dimension.{Dimension}
use Rattle.wire.proofs.Layouts.{put_field}

module _ (e : List ℕ) where
  pub whole_bytes : length e ≡ 20 → be 2 e 14 ≤ 2 → dimension_fault e ≡ 0
  unfolding dimension_fault extent read
  whole_bytes h l = pass _ 15 _ (eq-eqb (length e) 20 h) (pass _ 15 0 (le-leb (be 2 e 14) 2 l) refl)

  pub sound_bytes : dimension_fault e ≡ 0 → length e ≡ 20
  unfolding dimension_fault extent
  sound_bytes h = eqb-true (length e) 20 (passed _ 14 _ h).0

  pub sound_interlace : dimension_fault e ≡ 0 → be 2 e 14 ≤ 2
  unfolding dimension_fault read
  sound_interlace h = leb-true (be 2 e 14) 2 (passed _ 14 0 (passed _ 14 _ h).1).0

module _ (d : Dimension) where
  pub pack_refused : 2 < d.interlace → dimension_pack_fault d ≡ 15
  unfolding dimension_pack_fault
  pack_refused h = must_fails _ 15 0 (lt-leb d.interlace 2 h)

  pub pack_passed : d.interlace ≤ 2 → dimension_pack_fault d ≡ 0
  unfolding dimension_pack_fault
  pack_passed h = pass _ 15 0 (le-leb d.interlace 2 h) refl

  pub pack_sound : dimension_pack_fault d ≡ 0 → d.interlace ≤ 2
  unfolding dimension_pack_fault
  pack_sound h = leb-true d.interlace 2 (passed _ 14 0 h).0

  pub length_dimension : length (dimension_bytes d) ≡ 20
  unfolding dimension_bytes pack bytes_in
  length_dimension = refl

  -- eight numbers written one after the other
  pub put_dimension : (out s₁ s₂ s₃ s₄ s₅ s₆ s₇ s₈ : List ℕ)
      → s₁ ≡ put out 0 (bytes 4 d.x)
      → s₂ ≡ put s₁ 4 (bytes 4 d.y)
      → s₃ ≡ put s₂ 8 (bytes 2 d.type_tag)
      → s₄ ≡ put s₃ 10 (bytes 2 d.type_ref)
      → s₅ ≡ put s₄ 12 (bytes 2 d.elements)
      → s₆ ≡ put s₅ 14 (bytes 2 d.interlace)
      → s₇ ≡ put s₆ 16 (bytes 2 d.compression_tag)
      → s₈ ≡ put s₇ 18 (bytes 2 d.compression_ref)
      → s₈ ≡ put out 0 (dimension_bytes d)
  unfolding dimension_bytes pack put
  put_dimension out s₁ s₂ s₃ s₄ s₅ s₆ s₇ s₈ e₁ e₂ e₃ e₄ e₅ e₆ e₇ e₈ = rw (e₈, e₇, e₆, e₅, e₄, e₃, e₂, e₁) (sym (simp put_field))
