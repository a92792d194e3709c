-- What a `Result` whose error was mapped tells of the one that it was made from. Assumes nothing.
use mathlib.Core.Path.{◌≡◌, refl}
use Rattle.std.specs.Prelude.{Result, Ok, Err}
use Rattle.std.specs.Result.{MatchResult, IsErrAnd}

module _ {T E D : Type 0} (P : E → D → Type 0) (r : Result T E) (q : Result T D) (made : MatchResult r (λ x. q ≡ Ok x) (λ e. IsErrAnd q (P e))) where
  pub mapped_err : (d : D) → q ≡ Err d → (e : E) × (r ≡ Err e) × P e d
  mapped_err d is = go r refl made
    where
      go : (p : Result T E) → r ≡ p → MatchResult p (λ x. q ≡ Ok x) (λ e. IsErrAnd q (P e)) → (e : E) × (r ≡ Err e) × P e d
      go (Ok x) e h = cc
      go (Err y) e h = (y, e, rw is at h)

  pub mapped_ok : (x : T) → q ≡ Ok x → r ≡ Ok x
  mapped_ok x is = go r refl made
    where
      go : (p : Result T E) → r ≡ p → MatchResult p (λ x. q ≡ Ok x) (λ e. IsErrAnd q (P e)) → r ≡ Ok x
      go (Ok y) e h = cc
      go (Err y) e h = absurd (rw is at h)
