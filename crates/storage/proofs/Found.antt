-- What a lookup in a chain of so many blocks tells: the slot that is found and where it may stand, or that there is none. Assumes nothing.
use Prim.Native.Nat.{ℕ, ◌≤◌}
use native.Mathlib.Omega.{arith}
use mathlib.Core.Path.{◌≡◌, sym, ◌∙◌}
use mathlib.Core.List.{List}
use Rattle.wire.specs.Numbers.{Bytes}
use Rattle.answer.specs.Search.{Hit, hit, miss}
use Rattle.directory.specs.Lookup.{has, find_in, hit_found}
use Rattle.directory.specs.Links.{slots_after}
use Rattle.directory.specs.Rules.{IsStored}
use Rattle.directory.specs.Steps.Cursors.{most_place}
use Rattle.answer.specs.declared.Refusal.{Refusal}
use Rattle.std.specs.Prelude.{Result, Ok}
use Rattle.answer.proofs.Search.{first_hit}
use Rattle.storage.specs.Elements.{element_at}
use Rattle.storage.specs.declared.element.Element.{Element}
use Rattle.storage.specs.declared.element.Element.TheVariants.{Extended}
use Rattle.storage.proofs.Elements.{slots_between, extended_at_lem}

-- what the first slot that passes is
module _ (s : List ℕ) (bytes : Bytes s) (blocks tag ref : ℕ) (r : Result ℕ Refusal) (answers : r ≡ hit_found (find_in s blocks tag ref)) where
  between : (p : ℕ) → find_in s blocks tag ref ≡ hit p → (6 ≤ p) × (p ≤ most_place)
  between p e = slots_between s bytes blocks 4 p (omega arith) (first_hit (has s tag ref) (slots_after s blocks 4) p e).0

  pub found_hit : (p : ℕ) → r ≡ Ok p → find_in s blocks tag ref ≡ hit p
  found_hit p e = go (find_in s blocks tag ref) (sym answers ∙ e)
    where
      go : (h : Hit) → hit_found h ≡ Ok p → h ≡ hit p
      go (hit q) h = cc
      go miss h = let z : ◌≡◌ {A = ℕ} 0 1 = cc in absurd (omega arith)

  pub found_low : (p : ℕ) → r ≡ Ok p → p ≤ most_place
  found_low p e = (between p (found_hit p e)).1

-- the slot of an extended element stands no further than numbers of 32 bits reach, and it is stored
pub extended_low : (s : List ℕ) → Bytes s → (blocks tag ref : ℕ) (x : Element) → x ≡ element_at s (find_in s blocks tag ref) → (p : ℕ) → x ≡ Extended p → (p ≤ most_place) × IsStored s p
extended_low s bytes blocks tag ref x is p e =
    let f = extended_at_lem s (find_in s blocks tag ref) p (sym is ∙ e) in
    ((slots_between s bytes blocks 4 p (omega arith) (first_hit (has s tag ref) (slots_after s blocks 4) p f.0).0).1, f.1)
