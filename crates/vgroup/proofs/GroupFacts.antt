-- A group and its rules as facts: its element stands at its slot where all hold, and else the first that is broken gives the refusal.
-- Assumes nothing.
use Prim.Native.Nat.{ℕ, ◌*◌, ◌≤◌}
use native.Mathlib.Nat.{suc-ne-zero}
use native.Mathlib.Omega.{arith}
use mathlib.Core.Path.{◌≡◌, refl, sym, ap, ◌∙◌}
use mathlib.Core.Logic.{◌↔◌, ◌⊎◌, inl, inr}
use mathlib.Core.List.{List}
use lib.ListN.{length}
use lib.Dec.{leb}
use borrow.Author.Tests.{leb-true, leb-false, le-leb}
use Rattle.answer.specs.Search.{Hit}
use Rattle.answer.specs.Answer.{refuse}
use Rattle.answer.specs.Rules.{AllHold, FirstBroken}
use Rattle.answer.proofs.Rules.{Goes, goes_done, goes_rule, exactly}
use Rattle.answer.proofs.Tests.{test, same?}
use Rattle.answer.proofs.Answer.{unless_passes, unless_stops}
use Rattle.wire.specs.Numbers.{be, part}
use Rattle.wire.specs.Layouts.{read}
use Rattle.directory.specs.Lookup.{find}
use Rattle.storage.specs.Elements.{part_at, located_at}
use Rattle.storage.specs.declared.element.Part.{Part}
use Rattle.records.specs.Readings.{sound, refused, record_bytes}
use Rattle.records.specs.RecordRules.{slot_in}
use Rattle.records.proofs.Readings.{sound_refused, sound_broken, sound_passes, sound_plain, reads_bytes}
use Rattle.records.proofs.RecordRules.{goes_plain, By, by_same, by_room, by_opened, by_plain}
use Rattle.vgroup.specs.Groups.{group_fault, sound_group, group_at, group_of}
use Rattle.vgroup.specs.GroupRules.{group_rules, group_read_rules}
use Rattle.vgroup.proofs.Groups.{group_in, group_long, group_version, group_sound, group_passed}

-- where it is sound its element stands at its slot; else it is refused
abbrev Stands : List ℕ → Hit → Type 0
Stands s found = (offset : ℕ) × (size : ℕ) × (sound_group s found ≡ sound (part_at (slot_in found) offset size))

abbrev Refuses : List ℕ → Hit → ℕ → ℕ → Type 0
Refuses s found n p = sound_group s found ≡ refused n p

pub stands_bytes : (s : List ℕ) (found : Hit) (x : Part) → sound_group s found ≡ sound x → record_bytes s found ≡ part s x.offset x.length
stands_bytes s found x e = reads_bytes s found (located_at s found) refl x (sound_plain group_fault s (located_at s found) x e).0

-- ---- The rules of the record, one number for all

abbrev Sound : List ℕ → Type 0
Sound e = ((group_in e).tail.end ≤ length e) × ((group_in e).tail.version ≡ 3)

record_sound : (e : List ℕ) → Sound e ⊎ (Sound e → ⊥)
record_sound e = elim (same? (group_fault e) 0) [ inl f ↦ inl (group_passed e f) | inr f ↦ inr (λ h. f (group_sound e h.0 h.1)) ]

record_fault : (e : List ℕ) → (Sound e → ⊥) → group_fault e ≡ 15
record_fault e z =
    elim (test (leb (group_in e).tail.end (length e))) [
      | inr b ↦ group_long e (omega (arith, leb-false (group_in e).tail.end (length e) b))
      | inl b ↦ let l = leb-true (group_in e).tail.end (length e) b in group_version e l (λ v. z (l, v))
    ]

-- ---- The element of a group

-- the rules in their order
pub group_goes : (s : List ℕ) (found : Hit) → Goes (group_rules s found) (Stands s found) (Refuses s found)
group_goes s found =
    let e = record_bytes s found in
    goes_plain _ _ s _ found (λ x l. sound_refused group_fault s (located_at s found) x l)
    (λ o n l. let b = reads_bytes s found _ refl _ l in
    goes_rule _ _ 15 _ _ _ (record_sound e)
    (λ z. sound_broken group_fault s _ _ l e b 15 (sym (record_fault e z)) (suc-ne-zero 14))
    (λ h. goes_done _ _ (o, n, sound_passes group_fault s _ _ l e b (group_sound e h.0 h.1))))

-- and both directions
pub stands_exactly : (s : List ℕ) (found : Hit)
    → (Stands s found ↔ AllHold (group_rules s found)) × ((n p : ℕ) → Refuses s found n p ↔ FirstBroken (group_rules s found) n p)
stands_exactly s found =
    exactly (Stands s found) (Refuses s found) (group_rules s found) (group_goes s found)
    (λ x n p r. let q = sym x.2 ∙ r in let z : ◌≡◌ {A = ℕ} 0 1 = cc in omega arith)
    (λ n p m q a b. let e : refused m q ≡ refused n p = sym b ∙ a in (cc, cc))

-- ---- Reading a group

pub group_read_by : (s : List ℕ) (ref room : ℕ) → By 9 (group_read_rules s ref room) (group_of s ref room)
unfolding group_of group_at read
group_read_by s ref room =
    let found = find s 1965 ref in
    let e = record_bytes s found in
    by_opened 9 s _ _ (by_plain 9 s found group_fault _ _ (λ o.
    goes_rule _ _ 15 _ _ _ (record_sound e)
    (λ z. let f = record_fault e z in
    (unless_stops 9 (group_fault e) _ _ (λ q. suc-ne-zero 14 (sym f ∙ q)) ∙ ap (λ n. refuse 9 n (slot_in found)) f, suc-ne-zero 14))
    (λ h. by_same 9 _ _ _ (unless_passes 9 (group_fault e) _ _ (group_sound e h.0 h.1))
    (by_room 9 _ _ _ (leb-true (2 * be 2 e 0) room, le-leb (2 * be 2 e 0) room) refl))))
