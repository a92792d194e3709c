-- Laws of Vgroups read and packed in turn: what was read is packed as it stood, and what was packed is read as it was. Assumes nothing.
use Prim.Native.Nat.{ℕ, ◌+◌, ◌*◌, ◌-◌, ◌/◌, ◌<◌, ◌≤◌}
use native.Mathlib.Omega.{arith}
use mathlib.Core.Path.{◌≡◌, refl, sym, ap, ◌∙◌}
use mathlib.Core.List.{List, [], ◌∷◌, ◌++◌}
use lib.ListN.{length, get_or, drop, length-append}
use Rattle.wire.specs.Numbers.{be, part, Bytes}
use Rattle.wire.specs.Layouts.{read, extent, numbers, pack, given, numbers_at, Fits}
use Rattle.wire.proofs.Layouts.{length_numbers_at, pack_numbers, PackedAt, packed_at}
use Rattle.vset.specs.Columns.{rows2, every}
use Rattle.vset.specs.Tails.{tail, tail_numbers}
use Rattle.vset.specs.declared.tail.Tail.{Tail}
use Rattle.vset.specs.declared.tail.Ending.{Ending}
use Rattle.vset.proofs.Columns.{append_split, length_every, take_column, drop_column, every_small, rows2_first, rows2_second, rows2_every}
use Rattle.vset.proofs.Tails.{Narrow, tail_in, ending_of, tail_given, numbers_tail, given_tail, tail_fits, tail_parts, fault_sound, tail_own}
use Rattle.vgroup.specs.Groups.{group, group_fault, group_members, group_bytes, group_pack_fault}
use Rattle.vgroup.specs.declared.group.Group.{Group}
use Rattle.vgroup.proofs.Groups.{group_in, group_ends, group_passed, group_sound, tail_after, members_few, members_are, length_members, pack_tail_fault, PackSound}

-- the numbers of a group with these members, in the order of the record
abbrev numbers_of : List ℕ → List ℕ → List ℕ → Ending → List ℕ
numbers_of members name class x =
    let n = length members / 2 in n ∷ (every 0 2 n members ++ (every 1 2 n members ++ tail_numbers name class x))

-- ---- Packing what was read

-- those of a record with so many members, field by field
abbrev shape : List ℕ → ℕ → List ℕ
shape e n = n ∷ (numbers_at 2 n e 2 ++ (numbers_at 2 n e (2 + 2 * n) ++ numbers (tail (λ t. t)) e (2 + 4 * n)))

numbers_apart : (e : List ℕ) → numbers group e 0 ≡ shape e (group_in e).members
unfolding numbers read
numbers_apart e = let a : 2 + 4 * be 2 e 0 ≡ 2 + 2 * be 2 e 0 + 2 * be 2 e 0 = omega arith in rw a

module _ (e : List ℕ) (sound : group_fault e ≡ 0) where
  -- a sound record's numbers are those of its members, its name and its class
  own_numbers : let t = (group_in e).tail in
      numbers group e 0 ≡ numbers_of (group_members e) (part e t.name t.name_length) (part e t.class t.class_length) (ending_of t)
  own_numbers =
      let n = (group_in e).members in
      let tags = numbers_at 2 n e 2 in
      let refs = numbers_at 2 n e (2 + 2 * n) in
      let k : length (group_members e) / 2 ≡ n = omega (arith, length_members e) in
      let first : every 0 2 n (group_members e) ≡ tags = ap (every 0 2 n) (members_are e) ∙ rows2_first tags refs n (length_numbers_at 2 n e 2) (length_numbers_at 2 n e (2 + 2 * n)) in
      let second : every 1 2 n (group_members e) ≡ refs = ap (every 1 2 n) (members_are e) ∙ rows2_second tags refs n (length_numbers_at 2 n e 2) (length_numbers_at 2 n e (2 + 2 * n)) in
      let h : (tail_in e (2 + 4 * n)).end ≤ length e = omega (arith, (group_passed e sound).0, ap (λ t. t.end) (tail_after e)) in
      rw (k, first, second)
      (numbers_apart e
      ∙ ap (λ l. n ∷ (tags ++ (refs ++ l)))
      (numbers_tail (λ t. t) e (2 + 4 * n) h
      ∙ ap (λ t. tail_numbers (part e t.name t.name_length) (part e t.class t.class_length) (ending_of t)) (sym (tail_after e))))

  pub pack_own : Bytes e → let t = (group_in e).tail in
      group_bytes (group_members e) (part e t.name t.name_length) (part e t.class t.class_length) (ending_of t) ≡ part e 0 t.end
  unfolding group_bytes
  pack_own b =
      let h = (group_passed e sound).0 in
      ap (λ xs. pack group xs 0) (sym own_numbers)
      ∙ pack_numbers group e 0 b (omega (arith, group_ends e))
      ∙ ap (part e 0) (let z : extent group e 0 - 0 ≡ (group_in e).tail.end = omega (arith, group_ends e) in z)

  -- and what was read breaks no rule of packing
  pub own_passes : Bytes e → let t = (group_in e).tail in
      group_pack_fault (length (group_members e)) (length (part e t.name t.name_length)) (length (part e t.class t.class_length)) t.version ≡ 0
  own_passes b =
      let passed = group_passed e sound in
      let few : (group_in e).members < 65536 = members_few e b in
      pack_tail_fault _ _ _ _ (omega (arith, length_members e)) (omega (arith, length_members e))
      ∙ fault_sound _ _ _ (rw (tail_after e) (tail_own e _ b (rw tail_after at passed.0) (rw tail_after at passed.1))) 0

-- ---- Reading what was packed

module _ (members name class : List ℕ) (x : Ending) where
  -- the record as it is read back
  abbrev packed : Group
  packed = let n = length members / 2 in record { members = n; tags = 2; refs = 2 + 2 * n; tail = tail_given name class x (2 + 4 * n) }

  given_back : given group (numbers_of members name class x) 0 ≡ packed
  unfolding given
  given_back =
      let n = length members / 2 in
      let a : 2 + 2 * n + 2 * n ≡ 2 + 4 * n = omega arith in
      let f : Tail → Group = λ t. record { members = n; tags = 2; refs = 2 + 2 * n; tail = t } in
      simp drop_column (given_tail f name class x (2 + 2 * n + 2 * n) ∙ ap (λ k. f (tail_given name class x k)) a)

  -- what reading the bytes e gives back
  pub record ReadBack (e : List ℕ) : Type 0 where
    pub not_empty : 0 < length e
    pub read_is : group_in e ≡ packed
    pub sound : group_fault e ≡ 0
    pub members_are : group_members e ≡ members
    pub name_is : let t = packed.tail in part e t.name t.name_length ≡ name
    pub class_is : let t = packed.tail in part e t.class t.class_length ≡ class

  module _ (rules : PackSound (length members) (length name) (length class) x.version) (narrow : (i : ℕ) → get_or members i 0 < 65536)
      (named : Bytes name) (classed : Bytes class) (ending : Narrow x) where
    fits : Fits group (numbers_of members name class x) 0
    fits =
        let n = length members / 2 in
        let long : (k : ℕ) (l : List ℕ) → n ≤ length (every k 2 n members ++ l) = λ k l. omega (arith, length-append (every k 2 n members) l, length_every k 2 n members) in
        simp (take_column, drop_column) (
          omega arith,
          omega (arith, rules.few),
          (
            long 0 _,
            every_small 0 2 n members 65536 (omega arith) narrow,
            (
              long 1 _,
              every_small 1 2 n members 65536 (omega arith) narrow,
              tail_fits (λ t. t) name class x 0 named (omega (arith, rules.sound.name_short)) classed (omega (arith, rules.sound.class_short)) ending,
            ),
          ),
        )

    pub read_back : (e rest : List ℕ) → e ≡ group_bytes members name class x ++ rest → ReadBack e
    unfolding group_bytes
    read_back e rest is =
        let n = length members / 2 in
        let back : PackedAt group (numbers_of members name class x) e 0 = packed_at group (numbers_of members name class x) 0 fits [] rest e refl is in
        let r : group_in e ≡ packed = back.read_is ∙ given_back in
        let count : (group_in e).members ≡ n = ap (λ g. g.members) r in
        let inside : (group_in e).tail.end ≤ length e = omega (arith, group_ends e, back.ends, ap length is, length-append (group_bytes members name class x) rest) in
        let all : shape e n ≡ numbers_of members name class x = ap (shape e) (sym count) ∙ sym (numbers_apart e) ∙ back.numbers_are in
        let tags = append_split n (numbers_at 2 n e 2) (every 0 2 n members) _ _ (length_numbers_at 2 n e 2) (length_every 0 2 n members) (ap (drop 1) all) in
        let refs = append_split n (numbers_at 2 n e (2 + 2 * n)) (every 1 2 n members) _ _ (length_numbers_at 2 n e (2 + 2 * n)) (length_every 1 2 n members) tags.1 in
        let t : tail_in e (2 + 4 * n) ≡ tail_given name class x (2 + 4 * n) =
        ap (λ k. tail_in e (2 + 4 * k)) (sym count) ∙ sym (tail_after e) ∙ ap (λ g. g.tail) r in
        let parts = tail_parts (λ t. t) e (2 + 4 * n) name class x _ t (omega (arith, inside, ap (λ g. g.tail.end) r)) refs.1 in
        record {
          not_empty = omega (arith, inside, ap (λ g. g.tail.end) r);
          read_is = r;
          sound = group_sound e inside (ap (λ g. g.tail.version) r ∙ rules.sound.version_right);
          members_are =
              members_are e
              ∙ ap (λ k. rows2 (numbers_at 2 k e 2) (numbers_at 2 k e (2 + 2 * k))) count
              ∙ rw (tags.0, refs.0) (rows2_every n members (omega (arith, rules.even)));
          name_is = parts.0;
          class_is = parts.1;
        }
