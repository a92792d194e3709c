-- The floats of a value that was read have bits. Assumes nothing.
use Prim.Native.Nat.{ℕ, ◌*◌, ◌^◌}
use mathlib.Core.Path.{sym, subst, ◌∙◌}
use mathlib.Core.Logic.{inl, inr}
use mathlib.Core.Bool.{Bool, not}
use mathlib.Core.List.{List}
use lib.Dec.{T, ltb, eqb}
use lib.Ieee.{binary32, binary64, nan_bits}
use lib.Ieee.Bits.{nan_bits_is}
use Rattle.answer.proofs.Tests.{test}
use Rattle.records.specs.Types.{Kind, signed, unsigned, float}
use Rattle.vdata.specs.Patterns.{signed_by, float32, float64, value_by, value_at}
use Rattle.vdata.specs.Values.{value_in}
use Rattle.hdf4.specs.VsetAnswers.{HasBits}

has32 : (n : ℕ) → HasBits (float32 n)
unfolding float32
has32 n =
    elim (test (nan_bits binary32 n)) [
      | inl e ↦ rw (float32, e) tt
      | inr e ↦ rw (float32, e) (subst (λ (b : Bool). T (not b)) (sym (sym (nan_bits_is binary32 n) ∙ e)) tt)
    ]

has64 : (n : ℕ) → HasBits (float64 n)
unfolding float64
has64 n =
    elim (test (nan_bits binary64 n)) [
      | inl e ↦ rw (float64, e) tt
      | inr e ↦ rw (float64, e) (subst (λ (b : Bool). T (not b)) (sym (sym (nan_bits_is binary64 n) ∙ e)) tt)
    ]

has_kind : (k : Kind) (width n : ℕ) → HasBits (value_by k width n)
unfolding value_by signed_by
has_kind signed width n = elim (test (ltb (2 * n) (256 ^ width))) [ inl e ↦ rw (signed_by, e) tt | inr e ↦ rw (signed_by, e) tt ]
has_kind unsigned width n = tt
has_kind float width n = elim (test (eqb width 8)) [ inl e ↦ rw (value_by, e) (has64 n) | inr e ↦ rw (value_by, e) (has32 n) ]

pub has_bits : (e v : List ℕ) (r i c : ℕ) → HasBits (value_in e v r i c)
unfolding value_in value_at
has_bits e v r i c = has_kind _ _ _
