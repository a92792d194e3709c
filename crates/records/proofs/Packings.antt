-- What packing a record answers and leaves, case by case, and when it gives back what was read. Assumes nothing.
use Prim.Native.Nat.{ℕ, ◌<◌, ◌≤◌}
use mathlib.Core.Path.{◌≡◌, refl, sym, ap, ◌∙◌}
use mathlib.Core.List.{List, [], ◌∷◌}
use lib.ListN.{length}
use borrow.Author.Tests.{le-leb, lt-leb}
use Rattle.answer.specs.Refusals.{number_of}
use Rattle.answer.specs.declared.refusals.Rule.{Rule}
use Rattle.answer.specs.declared.refusals.Rule.TheVariants.{Small}
use Rattle.answer.specs.Answer.{grant, refuse, refusal}
use Rattle.answer.proofs.Answer.{number_positive, unless_passes, unless_stops, in_room_enough, in_room_short}
use Rattle.answer.proofs.Lent.{refuses, grants}
use Rattle.wire.specs.Numbers.{put}
use Rattle.wire.proofs.Numbers.{put_front}
use Rattle.records.specs.Packings.{pack_of, Packs, PacksBack}

pack_granted : (fault : ℕ) (bytes : List ℕ) (room : ℕ) → fault ≡ 0 → length bytes ≤ room → pack_of fault bytes room ≡ grant (length bytes ∷ [])
unfolding pack_of
pack_granted fault bytes room sound h = unless_passes 1 fault 0 _ sound ∙ in_room_enough 1 _ _ (le-leb _ _ h)

-- values that break no rule and have the bytes e
pub packs_back : (fault : ℕ) (bytes e : List ℕ) → fault ≡ 0 → bytes ≡ e → PacksBack fault bytes e
packs_back fault bytes e sound is = rw is (record { granted = λ room h. pack_granted fault e room sound h; bytes_are = refl })

module _ (fault : ℕ) (bytes out : List ℕ) where
  pub packs_fault : (r : Rule) → number_of r ≡ fault → Packs fault bytes out out (refusal 1 (record { rule = r; place = 0 }))
  unfolding pack_of
  packs_fault r e = refuses _ bytes out 1 _ (unless_stops 1 fault 0 _ (λ q. number_positive r (e ∙ q)) ∙ ap (λ n. refuse 1 n 0) (sym e))

  module _ (sound : fault ≡ 0) where
    pub packs_small : length out < length bytes → Packs fault bytes out out (refusal 1 (record { rule = Small; place = 0 }))
    unfolding pack_of
    packs_small h = refuses _ bytes out 1 (record { rule = Small; place = 0 }) (unless_passes 1 fault 0 _ sound ∙ in_room_short 1 _ _ (lt-leb _ _ h))

    pub packs_granted : length bytes ≤ length out → (n : ℕ) → n ≡ length bytes → (after : List ℕ) → after ≡ put out 0 bytes → Packs fault bytes out after (grant (n ∷ []))
    packs_granted h n e after q = grants _ bytes out (n ∷ []) (pack_granted fault bytes (length out) sound h ∙ rw e) after (q ∙ put_front out bytes h)
