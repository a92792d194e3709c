-- What comes of a walk over the blocks or the slots of a chain. Assumes nothing.
use Prim.Native.Nat.{ℕ, zero, suc, ◌-◌}
use native.Mathlib.Omega.{arith}
use mathlib.Core.Path.{◌≡◌, refl, sym, ap, ◌∙◌}
use mathlib.Core.List.{List, [], ◌∷◌}
use mathlib.Core.Bool.{Bool, true, false, ◌||◌, cond}
use Rattle.std.specs.Prelude.{Option, Some, None}
use Rattle.std.specs.Option.{unwrap_or, option_map}
use Rattle.std.specs.Iterator.{Drains}
use Rattle.std.specs.List.{list_any, last_or, find}
use Rattle.std.proofs.lemmas.List.{map-id}
use Rattle.std.proofs.lemmas.Iterator.{YieldsList, items_from_drains}
use Rattle.std.proofs.lemmas.Iterator.Adapters.{option_map_id}
use Rattle.std.proofs.lemmas.Iterator.Consumers.{YieldsList-from_shown}
use lib.ListN.{length}
use Rattle.answer.specs.Search.{any, Hit, hit, miss, first}
use Rattle.answer.specs.Links.{link_after, links_after}
use Rattle.directory.specs.Blocks.{next_block}
use Rattle.directory.specs.Links.{block_after, blocks_after}
use Rattle.directory.specs.declared.chain.Blocks.{Blocks}
use Rattle.directory.specs.declared.cursor.Slots.{Slots}
use Rattle.directory.specs.Steps.Walks.{blocks_left, GivesBlock, slots_left, GivesSlot}

-- a search of the library's is one of ours
pub any_list : (f : ℕ → Bool) (l : List ℕ) → list_any f l ≡ any f l
unfolding any
any_list f [] = refl
any_list f (x ∷ l) = ap (λ b. f x || b) (any_list f l)

abbrev pub hit_of : Option ℕ → Hit
hit_of None = miss
hit_of (Some x) = hit x

pub first_list : (f : ℕ → Bool) (l : List ℕ) → hit_of (find f l) ≡ first f l
unfolding first
first_list f [] = refl
first_list f (x ∷ l) = go (f x) (first_list f l)
  where
    go : (b : Bool) → hit_of (find f l) ≡ first f l → ◌≡◌ {A = Hit} (hit_of (cond b (Some x) (find f l))) (elim b [ true ↦ hit x | false ↦ first f l ])
    go true e = refl
    go false e = e

pub first_found : (f : ℕ → Bool) (l : List ℕ) (o : Option ℕ) → option_map (λ p. p) o ≡ find f l → first f l ≡ hit_of o
first_found f l o e = sym (ap hit_of (sym (option_map_id o) ∙ e) ∙ first_list f l)

-- ---- The slots

pub slots_come : (w : Slots) (l : List ℕ) → slots_left w ≡ l → YieldsList GivesSlot (λ p. p) w l
slots_come w l e = rw (← e) (YieldsList-from_shown GivesSlot (λ p. p) slots_left (λ s t k. ap length k.0.0) (λ s x t k. k.0) w)

-- ---- The blocks

pub blocks_come : (w : Blocks) (l : List ℕ) → blocks_left w ≡ l → YieldsList GivesBlock (λ b. b) w l
blocks_come w l e = rw (← e) (YieldsList-from_shown GivesBlock (λ b. b) blocks_left (λ s t k. ap length k.0.0) (λ s x t k. k.0) w)

last_link : (s : List ℕ) (o : Option ℕ) (k b : ℕ) → last_or o (blocks_after s (suc k) b) ≡ Some (block_after s k b)
unfolding links_after link_after
last_link s o zero b = refl
last_link s o (suc k) b = last_link s (Some b) k (next_block s b)

last_of_blocks : (s : List ℕ) (k : ℕ) → unwrap_or (last_or None (blocks_after s k 4)) 4 ≡ block_after s (k - 1) 4
unfolding links_after link_after
last_of_blocks s zero = refl
last_of_blocks s (suc k) = let n : suc k - 1 ≡ k = omega arith in rw (n, last_link s None k 4) refl

-- the last block is the last that comes
pub last_comes : (w : Blocks) (s : List ℕ) (k : ℕ) → blocks_left w ≡ blocks_after s k 4 → (xs : List ℕ) → Drains GivesBlock w xs → unwrap_or (last_or None xs) 4 ≡ block_after s (k - 1) 4
last_comes w s k e xs d =
    let come = items_from_drains {v = λ b. b} xs (d.1.0, d.1.1, λ u. (d.0, d.1.2)) (blocks_come w _ e) in
    rw (sym (map-id xs) ∙ come) (last_of_blocks s k)
