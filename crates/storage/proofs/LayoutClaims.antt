-- The claims about the two layouts of a record of linked blocks, after request (iii) of document 02: what each is read into, which bytes of the element
-- each block gives, and that a record of 22 bytes answers as it did before. Assumes nothing.
use Prim.Native.Nat.{ℕ, suc, ◌+◌, ◌*◌, ◌-◌, ◌/◌, ◌<◌, ◌≤◌}
use native.Mathlib.Nat.{zero-mul, div-add-mod', mod-lt}
use native.Mathlib.Omega.{arith}
use mathlib.Core.Path.{◌≡◌, refl, sym, ap, ◌∙◌}
use mathlib.Core.Logic.{inl, inr}
use mathlib.Core.List.{List}
use mathlib.Core.Bool.{true, false, false≢true}
use lib.ListN.{length, take, replicate}
use Rattle.answer.specs.Answer.{refuse_carrying}
use Rattle.answer.specs.Links.{link_after}
use Rattle.answer.specs.Rules.{AllHold}
use Rattle.answer.proofs.Tests.{le?}
use Rattle.wire.specs.Numbers.{be, part}
use Rattle.directory.specs.Slots.{size_at, content_at}
use Rattle.directory.specs.Opening.{open_of}
use Rattle.directory.specs.Rules.{IsStored}
use Rattle.directory.specs.Named.{Named}
use Rattle.storage.specs.Elements.{extended_at}
use Rattle.storage.specs.Descriptions.{first_length, description_of, record_fault}
use Rattle.storage.specs.Tables.{linked_bytes, block_ref, block_bytes}
use Rattle.storage.specs.Links.{block_at, bytes_before, Needed, taken, LinkSlot, copy_rules, ReachesBlock, no_block}
use Rattle.storage.specs.Walks.{share}
use Rattle.storage.specs.Copies.{in_blocks, copy_at, copy_of, element_bytes}
use Rattle.storage.specs.Before.{fault_before, in_blocks_before}
use Rattle.storage.specs.declared.description.Description.{Description}
use Rattle.storage.proofs.Elements.{content_part, content_stored}
use Rattle.storage.proofs.Named.{named_extended}
use Rattle.storage.proofs.Descriptions
use Rattle.storage.proofs.Tables.{no_reference, has_reference, unwritten_gives, written_gives}
use Rattle.storage.proofs.Indices.{block_entry}
use Rattle.storage.proofs.Links.{slot_there}
use Rattle.storage.proofs.Bytes.{chain_block}
use Rattle.storage.proofs.Copies
use Rattle.storage.proofs.Before
use Rattle.storage.proofs.Claims.{copy_broken}

-- ---- What a record is read into

module _ (s r : List ℕ) where
  pub sparse_fields : length r ≡ 16 → let d = description_of s r in
      (d.length ≡ be 4 r 2) × (d.block ≡ be 4 r 6) × (d.entries ≡ be 4 r 10) × (d.table ≡ be 2 r 14) × (d.sparse ≡ true)
  sparse_fields e =
      let is = Descriptions.sparse_says r e s in
      (ap (λ d. d.length) is, ap (λ d. d.block) is, ap (λ d. d.entries) is, ap (λ d. d.table) is, ap (λ d. d.sparse) is)

  pub full_fields : length r ≡ 22 → let d = description_of s r in
      (d.length ≡ be 4 r 4)
      × (d.first ≡ be 4 r 8)
      × (d.block ≡ be 4 r 12)
      × (d.entries ≡ be 4 r 16)
      × (d.table ≡ be 2 r 20)
      × (d.sparse ≡ false)
  full_fields e =
      let is = Descriptions.full_says r (λ z. omega arith) s in
      (ap (λ d. d.length) is, ap (λ d. d.first) is, ap (λ d. d.block) is, ap (λ d. d.entries) is, ap (λ d. d.table) is, ap (λ d. d.sparse) is)

  -- the first length of one of 16 bytes: block 0 is named by the first table
  module _ (sparse : length r ≡ 16) (some : 1 ≤ be 4 r 10) where
    first_block : block_at s (description_of s r) 0 ≡ block_ref (linked_bytes s (be 2 r 14)) 0
    unfolding link_after
    first_block =
        let d = description_of s r in
        let f = sparse_fields sparse in
        let none : 0 * d.entries + 0 ≡ 0 = omega (arith, zero-mul d.entries) in
        ap (block_at s d) (sym none) ∙ block_entry s d 0 0 (omega (arith, f.2)) ∙ ap (λ t. block_ref (linked_bytes s t) 0) f.3

    first_is : (description_of s r).first ≡ first_length s (be 2 r 14) (be 4 r 6)
    first_is = ap (λ d. d.first) (Descriptions.sparse_says r sparse s)

    -- it is that of its own descriptor, or, where it was never written, the block length
    pub first_stored : (open_of s).number ≡ 0 → (q : ℕ) → LinkSlot s (block_at s (description_of s r) 0) q → (description_of s r).first ≡ size_at s q
    first_stored opens q l =
        first_is ∙ Descriptions.first_own s (be 2 r 14) (be 4 r 6) (block_at s (description_of s r) 0) first_block l.not_zero ∙ (slot_there s opens _ q l).holds

    pub first_unwritten : block_at s (description_of s r) 0 ≡ 0 → (description_of s r).first ≡ be 4 r 6
    first_unwritten e = first_is ∙ Descriptions.first_unwritten s (be 2 r 14) (be 4 r 6) (sym first_block ∙ e)

-- ---- Which bytes a block gives

-- every byte of an element lies in what is taken of one of its blocks
pub byte_in_block : (d : Description) → 1 ≤ d.block → (x : ℕ) → x < d.length → (j : ℕ) × Needed d j × (bytes_before d j ≤ x) × (x < bytes_before d j + taken d j)
unfolding bytes_before share
byte_in_block d some x inside =
    elim (le? d.first x) [
      | inr h ↦ (0, omega arith, omega arith, omega arith)
      | inl h ↦
          let k = (x - d.first) / d.block in
          let at = div-add-mod' (x - d.first) d.block in
          let rest = mod-lt (x - d.first) {m = d.block} (omega arith) in
          (suc k, omega arith, omega arith, omega arith)
    ]

module _ (s : List ℕ) (tag ref p room : ℕ) (named : Named s tag ref p) (extended : extended_at s p ≡ true) (granted : (copy_of s tag ref room).number ≡ 0) where
  opens : (open_of s).number ≡ 0
  opens = (Copies.granted_copy s tag ref room granted).1.sound

  -- it stands behind what the blocks before it give
  gives : (j : ℕ) → let d = description_of s (content_at s p) in
      Needed d j → part (element_bytes s tag ref) (bytes_before d j) (taken d j) ≡ block_bytes s d.sparse (block_at s d j) (taken d j)
  unfolding in_blocks
  gives j n =
      let d = description_of s (content_at s p) in
      let found = named_extended s tag ref p opens named (Copies.copied_stored s tag ref p room named granted) extended in
      let is = Copies.copy_goes s tag ref opens _ found room in
      let h = Copies.copy_passed room p (in_blocks s (content_at s p)) (ap (λ a. a.number) (sym is) ∙ granted) in
      let b = Copies.bytes_found_lem s tag ref opens _ found in
      ap (λ bs. part bs (bytes_before d j) (taken d j)) b ∙ chain_block s d h.2 j n

  -- a block that is stored gives the front of its own bytes, behind those of the blocks before it
  pub stored_block : (j q : ℕ) → let d = description_of s (content_at s p) in
      Needed d j → LinkSlot s (block_at s d j) q → part (element_bytes s tag ref) (bytes_before d j) (taken d j) ≡ take (taken d j) (content_at s q)
  stored_block j q n l =
      let d = description_of s (content_at s p) in
      let at = slot_there s opens (block_at s d j) q l in
      gives j n
      ∙ written_gives s d.sparse (block_at s d j) (taken d j) (has_reference d.sparse (block_at s d j) l.not_zero)
      ∙ ap (take (taken d j)) (at.bytes ∙ sym (content_part s q))

  -- one of reference 0, by a record of 16 bytes, gives zeros
  pub unwritten_block : length (content_at s p) ≡ 16 → (j : ℕ) → let d = description_of s (content_at s p) in
      Needed d j → block_at s d j ≡ 0 → part (element_bytes s tag ref) (bytes_before d j) (taken d j) ≡ replicate (taken d j) 0
  unwritten_block e j n z =
      let d = description_of s (content_at s p) in
      gives j n ∙ unwritten_gives s d.sparse (block_at s d j) (taken d j) (no_reference d.sparse (block_at s d j) z ∙ (sparse_fields s (content_at s p) e).4)

-- ---- A record of 22 bytes

module _ (s : List ℕ) (tag ref p room : ℕ) (opens : (open_of s).number ≡ 0) (named : Named s tag ref p) (extended : extended_at s p ≡ true) (full : length (content_at s p) ≡ 22) where
  stored : IsStored s p
  stored = content_stored s p (omega (arith, full))

  -- a block of reference 0 is not there
  pub full_zero : let d = description_of s (content_at s p) in
      AllHold (copy_rules (content_at s p) p room) → (j : ℕ) → ReachesBlock s d j → block_at s d j ≡ 0 → copy_of s tag ref room ≡ refuse_carrying 1 25 p j
  full_zero rules j reached z =
      let never = (full_fields s (content_at s p) full).5 in
      ((copy_broken s tag ref p room opens named stored extended 25 j).1 (
        rules,
        no_block refl (record {
          reached = reached;
          meant = λ u. false≢true (sym never ∙ u.allowed);
          missing = λ q l. l.not_zero z;
        }),
      )).0

  -- the answer, and the bytes, are those that there were
  pub full_as_before : (copy_of s tag ref room ≡ copy_at room p (in_blocks_before s (content_at s p))) × (element_bytes s tag ref ≡ (in_blocks_before s (content_at s p)).bytes)
  full_as_before =
      let found = named_extended s tag ref p opens named stored extended in
      let same = Before.full_same s (content_at s p) full in (
        Copies.copy_goes s tag ref opens _ found room ∙ ap (copy_at room p) same,
        Copies.bytes_found_lem s tag ref opens _ found ∙ ap (λ x. x.bytes) same,
      )

-- ---- A record of any other length

-- its number is the one that it was, but where its kind is 1 in 16 bits and not in 32, in four bytes or more: there 12 became 13
module _ (r : List ℕ) (other : length r ≡ 16 → ⊥) (neither : length r ≡ 22 → ⊥) where
  pub other_as_before : ((4 ≤ length r) × (be 2 r 0 ≡ 1) × (be 4 r 0 ≡ 1 → ⊥) → ⊥) → record_fault r ≡ fault_before r
  other_as_before = Before.other_fault_same r other neither

  pub other_changed : (4 ≤ length r) × (be 2 r 0 ≡ 1) × (be 4 r 0 ≡ 1 → ⊥) → (fault_before r ≡ 12) × (record_fault r ≡ 13)
  other_changed = Before.other_fault_changed r other neither
