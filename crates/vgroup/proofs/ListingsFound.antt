-- What is listed of a group that a reference names, by what is found of it. Assumes nothing.
use Prim.Native.Nat.{ℕ, zero, suc, ◌-◌}
use native.Mathlib.Omega.{arith}
use mathlib.Core.Path.{◌≡◌, refl, sym, ap, ◌∙◌}
use mathlib.Core.List.{List}
use Rattle.std.specs.Prelude.{Err}
use Rattle.answer.specs.Refusals.{DEEP, number_of}
use Rattle.answer.specs.declared.Refusal.{Refusal}
use Rattle.wire.specs.Numbers.{put}
use Rattle.directory.specs.Lookup.{find, find_in}
use Rattle.directory.specs.Steps.Opens.{Opens}
use Rattle.directory.proofs.Opens.{opened_find}
use Rattle.storage.specs.Elements.{Located}
use Rattle.records.specs.Readings.{Sound, sound_of}
use Rattle.vgroup.specs.Limits.{group_tag}
use Rattle.vgroup.specs.Groups.{group_members, sound_group}
use Rattle.vgroup.specs.Listings.{Listing, stopped, members_from, entered, nested_from, list_from}
use Rattle.vgroup.specs.Steps.{Walks}

-- what is found in an image that opened
pub group_found : (s : List ℕ) (blocks ref : ℕ) → Opens s blocks → (l : Located) → sound_of l ≡ sound_group s (find_in s blocks group_tag ref) → (m : Located) → l ≡ m
    → sound_group s (find s group_tag ref) ≡ sound_of m
group_found s blocks ref o l is m e = sym (ap (sound_group s) (opened_find s blocks group_tag ref o)) ∙ sym is ∙ ap sound_of e

-- a group among the members, where so many more may be entered
module _ (s : List ℕ) (p ref room : ℕ) where
  pub nested_deep : (more : ℕ) → more ≡ 0 → nested_from more s p ref room ≡ stopped DEEP p
  unfolding nested_from
  nested_deep more z = rw z

  pub nested_enters : (more : ℕ) → (more ≡ 0 → ⊥) → (l : Sound) → sound_group s (find s group_tag ref) ≡ l → nested_from more s p ref room ≡ entered s (list_from more s) l room
  unfolding nested_from
  nested_enters zero z l e = absurd (z refl)
  nested_enters (suc more) z l e =
      let one : more ≡ suc more - 1 = omega arith in
      ap (λ x. entered s (λ q b left. members_from (nested_from more s q) (group_members b) left) x room) e
      ∙ ap (λ k. entered s (λ q b left. members_from (nested_from k s q) (group_members b) left) l room) one

-- a walk that found no group lists nothing
pub walks_nothing : (table : List ℕ) (at : ℕ) (r : Refusal) (l : Listing) → l ≡ stopped (number_of r.rule) r.place → Walks l at table table (Err r)
unfolding put
walks_nothing table at r l e = rw e (record { tells = (refl, refl); leaves = refl })
