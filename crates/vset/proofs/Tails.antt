-- Laws of the fields that a Vgroup and a Vdata head end in: what is read, what is packed, their rules, and where name and class lie. Assumes nothing.
use Prim.Native.Nat.{ℕ, zero, suc, ◌+◌, ◌*◌, ◌-◌, ◌%◌, ◌<◌, ◌≤◌}
use native.Mathlib.Nat.{one-mul}
use native.Mathlib.Omega.{arith}
use mathlib.Core.Path.{◌≡◌, refl, sym, ap, ◌∙◌}
use mathlib.Core.Logic.{inl, inr}
use mathlib.Core.List.{List, [], ◌∷◌, ◌++◌, append_assoc, append-nil}
use lib.ListN.{length, get_or, take, drop, length-append}
use lib.Seq.{take-append_seam, drop-append_seam}
use lib.Dec.{leb, eqb}
use borrow.Author.Tests.{leb-true, leb-false, le-leb, lt-leb, eqb-true, eq-eqb, ne_eqb}
use Rattle.wire.specs.Numbers.{be, bytes, put, part, Bytes, Reads, bytes_in}
use Rattle.wire.specs.declared.ByteOrder.TheVariants.{BigEndian}
use Rattle.wire.proofs.Numbers.{number_small, length_bytes, put_put, put_past, length_part}
use Rattle.directory.specs.Limits.{most_bytes}
use Rattle.directory.specs.Slots.{size_at, content_at}
use Rattle.answer.proofs.Tests.{test, same?}
use Rattle.answer.proofs.Search.{must_holds, must_fails, passed}
use Rattle.directory.proofs.Rules.{opens_kept}
use Rattle.storage.specs.Elements.{start_at}
use Rattle.storage.proofs.Elements.{FoundPlain}
use Rattle.records.specs.Limits.{most_count}
use Rattle.answer.specs.Refusals.{RECORD}
use Rattle.wire.specs.Layouts.{read, extent, numbers, pack, given, bytes_each, Fits}
use Rattle.wire.proofs.Layouts.{numbers_at_part}
use Rattle.vset.specs.Limits.{only_version}
use Rattle.vset.specs.Tails.{tail, tail_numbers, tail_pack_fault, names_end}
use Rattle.vset.specs.Steps.{text_bytes, ending_bytes}
use Rattle.vset.specs.declared.tail.Tail.{Tail}
use Rattle.vset.specs.declared.tail.Ending.{Ending}

-- ---- Names

-- names end after they start, with at least two bytes for each
pub names_low : (n : ℕ) (e : List ℕ) (at : ℕ) → at + 2 * n ≤ names_end e n at
unfolding names_end
names_low zero e at = omega arith
names_low (suc n) e at = omega (arith, names_low n e (at + 2 + be 2 e at))

-- a name more, of k bytes
pub names_next : (e : List ℕ) (n i end k : ℕ) → k ≡ be 2 e end → i < n → names_end e (n - (i + 1)) (end + (2 + k)) ≡ names_end e (n - i) end
unfolding names_end
names_next e n i end k is h =
    let m : n - i ≡ suc (n - (i + 1)) = omega arith in
    let a : end + (2 + k) ≡ end + 2 + be 2 e end = omega arith in
    rw (m, a)

pub names_done : (e : List ℕ) (n i end : ℕ) → n ≤ i → end ≡ names_end e (n - i) end
unfolding names_end
names_done e n i end h = let m : n - i ≡ 0 = omega arith in rw m

-- names one after the other
pub names_split : (i n : ℕ) (e : List ℕ) (at : ℕ) → names_end e (i + n) at ≡ names_end e n (names_end e i at)
unfolding names_end
names_split zero n e at = let z : 0 + n ≡ n = omega arith in ap (λ k. names_end e k at) z
names_split (suc i) n e at =
    let z : suc i + n ≡ suc (i + n) = omega arith in
    ap (λ k. names_end e k at) z ∙ names_split i n e (at + 2 + be 2 e at)

-- ---- A tail in bytes

-- what is read, number by number
pub tail_reads : (e : List ℕ) (at n k tag ref v m : ℕ) → Reads 2 e at n → Reads 2 e (at + 2 + n) k
    → Reads 2 e (at + 2 + n + 2 + k) tag → Reads 2 e (at + 2 + n + 2 + k + 2) ref → Reads 2 e (at + 2 + n + 2 + k + 4) v → Reads 2 e (at + 2 + n + 2 + k + 6) m
    → ◌≡◌ {A = Tail} (record {
      name = at + 2;
      name_length = n;
      class = at + 2 + n + 2;
      class_length = k;
      extension_tag = tag;
      extension_ref = ref;
      version = v;
      more = m;
      end = at + 2 + n + 2 + k + 8;
    }) (read (tail (λ t. t)) e at)
unfolding read
tail_reads e at n k tag ref v m rn rk rt rr rv rm =
    let last = at + 2 + n + 2 + k in
    let four : last + 2 + 2 ≡ last + 4 = omega arith in
    let six : last + 4 + 2 ≡ last + 6 = omega arith in
    let eight : last + 6 + 2 ≡ last + 8 = omega arith in
    rw (← rn.is, one-mul n, ← rk.is, one-mul k, ← rt.is, ← rr.is, four, ← rv.is, six, ← rm.is, eight)

-- bytes, one by one
pub bytes_each_lem : (xs : List ℕ) → Bytes xs → bytes_each 1 xs ≡ xs
unfolding bytes_each bytes_in
bytes_each_lem [] b = refl
bytes_each_lem (x ∷ xs) b = let e : x % 256 ≡ x = omega (arith, b 0) in rw (e, bytes_each_lem xs (λ i. b (suc i)))

-- the bytes of a tail
abbrev pub tail_bytes : List ℕ → List ℕ → Ending → List ℕ
tail_bytes name class x =
    bytes 2 (length name)
    ++ (name ++ (bytes 2 (length class)
    ++ (class ++ (bytes 2 x.extension_tag ++ (bytes 2 x.extension_ref ++ (bytes 2 x.version ++ bytes 2 x.more))))))

module _ {A : Type 0} (f : Tail → A) where
  pub pack_tail : (name class : List ℕ) (x : Ending) (at : ℕ) → Bytes name → Bytes class → pack (tail f) (tail_numbers name class x) at ≡ tail_bytes name class x
  unfolding pack
  pack_tail name class x at n k =
      rw (take-append_seam name, drop-append_seam name, take-append_seam class, drop-append_seam class, bytes_each_lem name n, bytes_each_lem class k, append-nil)

-- ---- A tail of any record

-- the last numbers of a tail that was read
abbrev pub ending_of : Tail → Ending
ending_of t = record { extension_tag = t.extension_tag; extension_ref = t.extension_ref; version = t.version; more = t.more }

-- the last numbers have 16 bits
pub record Narrow (x : Ending) : Type 0 where
  pub extension_tag : x.extension_tag < 65536
  pub extension_ref : x.extension_ref < 65536
  pub version : x.version < 65536
  pub more : x.more < 65536

-- where a tail with this name and class stands
abbrev pub tail_given : List ℕ → List ℕ → Ending → ℕ → Tail
tail_given name class x at =
    record {
      name = at + 2;
      name_length = length name;
      class = at + 2 + length name + 2;
      class_length = length class;
      extension_tag = x.extension_tag;
      extension_ref = x.extension_ref;
      version = x.version;
      more = x.more;
      end = at + 2 + length name + 2 + length class + 8;
    }

-- a tail that was read
abbrev pub tail_in : List ℕ → ℕ → Tail
tail_in e at = read (tail (λ t. t)) e at

module _ {A : Type 0} (f : Tail → A) where
  pub read_tail : (e : List ℕ) (at : ℕ) → read (tail f) e at ≡ f (tail_in e at)
  unfolding read
  read_tail e at = refl

  pub extent_tail : (e : List ℕ) (at : ℕ) → extent (tail f) e at ≡ (tail_in e at).end
  unfolding read extent
  extent_tail e at = refl

  pub numbers_tail : (e : List ℕ) (at : ℕ) → (tail_in e at).end ≤ length e
      → let t = tail_in e at in
      numbers (tail f) e at ≡ tail_numbers (part e t.name t.name_length) (part e t.class t.class_length) (ending_of t)
  unfolding read numbers
  numbers_tail e at h =
      let n = be 2 e at in
      let k = be 2 e (at + 2 + 1 * n) in
      let first : at + 2 + n ≤ length e = omega arith in
      let second : at + 2 + 1 * n + 2 + k ≤ length e = omega arith in
      rw (numbers_at_part n e (at + 2) first, length_part e (at + 2) n first, numbers_at_part k e (at + 2 + 1 * n + 2) second, length_part e (at + 2 + 1 * n + 2) k second)

  pub given_tail : (name class : List ℕ) (x : Ending) (at : ℕ) → given (tail f) (tail_numbers name class x) at ≡ f (tail_given name class x at)
  unfolding given
  given_tail name class x at =
      let last = at + 2 + length name + 2 + length class in
      let eight : last + 2 + 2 + 2 + 2 ≡ last + 8 = omega arith in
      rw (drop-append_seam name, drop-append_seam class, one-mul (length name), one-mul (length class), eight)

  pub tail_fits : (name class : List ℕ) (x : Ending) (at : ℕ) → Bytes name → length name < 65536 → Bytes class → length class < 65536 → Narrow x
      → Fits (tail f) (tail_numbers name class x) at
  tail_fits name class x at n nl k kl s =
      let last = x.extension_tag ∷ x.extension_ref ∷ x.version ∷ x.more ∷ [] in
      rw (take-append_seam name, drop-append_seam name, take-append_seam class, drop-append_seam class) (
        omega arith,
        nl,
        (
          omega (arith, length-append name (length class ∷ (class ++ last))),
          n,
          (
            omega arith,
            kl,
            (
              omega (arith, length-append class last),
              k,
              (omega arith, s.extension_tag, (omega arith, s.extension_ref, (omega arith, s.version, (omega arith, s.more, refl)))),
            ),
          ),
        ),
      )

-- name and class are told by the numbers
abbrev first_of : List ℕ → List ℕ
first_of xs = take (get_or xs 0 0) (drop 1 xs)

abbrev rest_of : List ℕ → List ℕ
rest_of xs = drop (get_or xs 0 0) (drop 1 xs)

module _ (name class : List ℕ) (x : Ending) where
  numbers_first : first_of (tail_numbers name class x) ≡ name
  numbers_first = take-append_seam name _

  numbers_second : first_of (rest_of (tail_numbers name class x)) ≡ class
  numbers_second = ap first_of (drop-append_seam name _) ∙ take-append_seam class _

-- where a tail of these numbers was read, its name and its class are the parts that it tells of
pub tail_parts : {A : Type 0} (f : Tail → A) (e : List ℕ) (at : ℕ) (name class : List ℕ) (x : Ending) (t : Tail) → tail_in e at ≡ t → t.end ≤ length e
    → numbers (tail f) e at ≡ tail_numbers name class x → (part e t.name t.name_length ≡ name) × (part e t.class t.class_length ≡ class)
tail_parts f e at name class x t is h q =
    let own = part e t.name t.name_length in
    let other = part e t.class t.class_length in
    let r : tail_numbers own other (ending_of t) ≡ tail_numbers name class x = rw is at (sym (numbers_tail f e at (rw is h)) ∙ q) in (
      sym (numbers_first own other (ending_of t)) ∙ ap first_of r ∙ numbers_first name class x,
      sym (numbers_second own other (ending_of t)) ∙ ap (λ l. first_of (rest_of l)) r ∙ numbers_second name class x,
    )

-- one after the other, into a buffer
pub put_follows : (s : List ℕ) (at b : ℕ) (vs ws : List ℕ) → b ≡ at + length vs → put (put s at vs) b ws ≡ put s at (vs ++ ws)
put_follows s at b vs ws e = rw e (put_put s at vs ws)

pub laid_text : (out text : List ℕ) (at : ℕ) (a b : List ℕ) → a ≡ put out at (bytes 2 (length text)) → b ≡ put a (at + 2) text → b ≡ put out at (text_bytes text)
laid_text out text at a b ea eb = rw (eb, ea) (put_follows _ _ _ _ _ (omega (arith, length_bytes BigEndian 2 (length text))))

pub laid_ending : (out : List ℕ) (at : ℕ) (x : Ending) (a b c d : List ℕ) → a ≡ put out at (bytes 2 x.extension_tag)
    → b ≡ put a (at + 2) (bytes 2 x.extension_ref) → c ≡ put b (at + 4) (bytes 2 x.version) → d ≡ put c (at + 6) (bytes 2 x.more)
    → d ≡ put out at (ending_bytes x)
laid_ending out at x a b c d ea eb ec ed =
    let two : (y : ℕ) → length (bytes 2 y) ≡ 2 = length_bytes BigEndian 2 in
    rw (ed, ec, eb, ea)
    (put_follows _ _ _ _ _ (omega (arith, two x.version))
    ∙ put_follows _ _ _ _ _ (omega (arith, two x.extension_ref))
    ∙ put_follows _ _ _ _ _ (omega (arith, two x.extension_tag)))

length_text : (text : List ℕ) → length (text_bytes text) ≡ 2 + length text
length_text text = simp (length-append, length_bytes)

pub laid_tail : (out name class : List ℕ) (at : ℕ) (x : Ending) → Bytes name → Bytes class → (a b c : List ℕ)
    → a ≡ put out at (text_bytes name) → b ≡ put a (at + 2 + length name) (text_bytes class)
    → c ≡ put b (at + 2 + length name + 2 + length class) (ending_bytes x)
    → c ≡ put out at (pack (tail (λ t. t)) (tail_numbers name class x) at)
laid_tail out name class at x n k a b c ea eb ec =
    rw (ec, eb, ea, pack_tail (λ t. t) name class x at n k)
    (put_follows _ _ _ _ _ (omega (arith, length_text class))
    ∙ put_follows _ _ _ _ _ (omega (arith, length_text name))
    ∙ ap (put out at) (simp append_assoc))

-- a buffer that ends before the class, and one that ends before the last numbers
module _ (out name class : List ℕ) (at : ℕ) (x : Ending) (n : Bytes name) (k : Bytes class) (a : List ℕ) (ea : a ≡ put out at (text_bytes name)) where
  pub laid_name : length a ≤ at + 2 + length name → a ≡ put out at (pack (tail (λ t. t)) (tail_numbers name class x) at)
  laid_name h =
      laid_tail out name class at x n k a a a ea (sym (put_past a (at + 2 + length name) (text_bytes class) h))
      (sym (put_past a (at + 2 + length name + 2 + length class) (ending_bytes x) (omega arith)))

  pub laid_class : (b : List ℕ) → b ≡ put a (at + 2 + length name) (text_bytes class) → length b ≤ at + 2 + length name + 2 + length class
      → b ≡ put out at (pack (tail (λ t. t)) (tail_numbers name class x) at)
  laid_class b eb h =
      laid_tail out name class at x n k a b b ea eb (sym (put_past b (at + 2 + length name + 2 + length class) (ending_bytes x) h))

-- ---- Rules

module _ (name class version : ℕ) where
  pub fault_name : (rest : ℕ) → most_count < name → tail_pack_fault name class version rest ≡ RECORD
  unfolding tail_pack_fault
  fault_name rest h = must_fails _ RECORD _ (lt-leb _ _ h)

  module _ (n : name ≤ most_count) where
    pub fault_class : (rest : ℕ) → most_count < class → tail_pack_fault name class version rest ≡ RECORD
    unfolding tail_pack_fault
    fault_class rest h = must_holds _ RECORD _ (le-leb _ _ n) ∙ must_fails _ RECORD _ (lt-leb _ _ h)

    module _ (k : class ≤ most_count) where
      pub fault_version : (rest : ℕ) → (version ≡ only_version → ⊥) → tail_pack_fault name class version rest ≡ RECORD
      unfolding tail_pack_fault
      fault_version rest h = must_holds _ RECORD _ (le-leb _ _ n) ∙ must_holds _ RECORD _ (le-leb _ _ k) ∙ must_fails _ RECORD _ (ne_eqb _ _ h)

      pub fault_none : (rest : ℕ) → version ≡ only_version → tail_pack_fault name class version rest ≡ rest
      unfolding tail_pack_fault
      fault_none rest h = must_holds _ RECORD _ (le-leb _ _ n) ∙ must_holds _ RECORD _ (le-leb _ _ k) ∙ must_holds _ RECORD _ (eq-eqb _ _ h)

  -- a tail that breaks no rule
  pub record Sound : Type 0 where
    pub name_short : name ≤ most_count
    pub class_short : class ≤ most_count
    pub version_right : version ≡ only_version

  pub fault_passed : (rest : ℕ) → tail_pack_fault name class version rest ≡ 0 → Sound × (rest ≡ 0)
  unfolding tail_pack_fault
  fault_passed rest e =
      let a = passed (leb name most_count) 14 _ e in
      let b = passed (leb class most_count) 14 _ a.1 in
      let d = passed (eqb version only_version) 14 rest b.1 in
      (record { name_short = leb-true _ _ a.0; class_short = leb-true _ _ b.0; version_right = eqb-true _ _ d.0 }, d.1)

  pub fault_sound : Sound → (rest : ℕ) → tail_pack_fault name class version rest ≡ rest
  fault_sound s rest = fault_none s.name_short s.class_short rest s.version_right

  -- the rules of the tail alone tell whether the rules after them are reached
  pub fault_goes : tail_pack_fault name class version 0 ≡ 0 → (rest : ℕ) → tail_pack_fault name class version rest ≡ rest
  fault_goes e rest = fault_sound (fault_passed 0 e).0 rest

  pub fault_stops : (tail_pack_fault name class version 0 ≡ 0 → ⊥) → (rest : ℕ) → tail_pack_fault name class version rest ≡ tail_pack_fault name class version 0
  fault_stops z rest =
      elim (test (leb name most_count)) [
        | inr a ↦ let h = leb-false _ _ a in fault_name rest h ∙ sym (fault_name 0 h)
        | inl a ↦ let n = leb-true _ _ a in elim (test (leb class most_count)) [
          | inr b ↦ let h = leb-false _ _ b in fault_class n rest h ∙ sym (fault_class n 0 h)
          | inl b ↦ let k = leb-true _ _ b in elim (same? version only_version) [
            | inl v ↦ absurd (z (fault_none n k 0 v))
            | inr v ↦ fault_version n k rest v ∙ sym (fault_version n k 0 v)
          ]
        ]
      ]

-- name and class of a tail that was read are no longer than their lengths allow
pub tail_own : (e : List ℕ) (at : ℕ) → Bytes e → (tail_in e at).end ≤ length e → (tail_in e at).version ≡ only_version → let t = tail_in e at in
    Sound (length (part e t.name t.name_length)) (length (part e t.class t.class_length)) t.version
unfolding read
tail_own e at b h version =
    let n = be 2 e at in
    let k = be 2 e (at + 2 + 1 * n) in
    record {
      name_short = omega (arith, length_part e (at + 2) n (omega arith), number_small BigEndian 2 e at b);
      class_short = omega (arith, length_part e (at + 2 + 1 * n + 2) k (omega arith), number_small BigEndian 2 e (at + 2 + 1 * n) b);
      version_right = version;
    }

-- ---- Places that an answer tells of lie inside the image

-- name and class of a tail that ends inside its element, counted from the start of the image
pub tail_places : (s : List ℕ) (tag ref p : ℕ) → FoundPlain s tag ref p (start_at s p) (size_at s p)
    → (t : Tail) (at : ℕ) → t ≡ tail_in (content_at s p) at → t.end ≤ length (content_at s p)
    → (start_at s p + t.name ≤ most_bytes) × (start_at s p + t.class ≤ most_bytes)
unfolding read
tail_places s tag ref p f t at is inside =
    let long = ap length (sym f.content) ∙ length_part s (start_at s p) (size_at s p) f.inside in
    let short = (opens_kept s f.sound).short in
    let last : (tail_in (content_at s p) at).end ≤ length (content_at s p) = rw is at inside in
    rw is (omega (arith, f.inside, last), omega (arith, f.inside, last))

-- a tail that stands at a place, by name
pub tail_named : (e : List ℕ) (at : ℕ)
    → let l = be 2 e at in let m = be 2 e (at + 2 + l) in let t = at + 2 + l + 2 + m in
    tail_in e at
    ≡ record {
      name = at + 2;
      name_length = l;
      class = at + 2 + l + 2;
      class_length = m;
      extension_tag = be 2 e t;
      extension_ref = be 2 e (t + 2);
      version = be 2 e (t + 4);
      more = be 2 e (t + 6);
      end = t + 8;
    }
unfolding read
tail_named e at =
    let l = be 2 e at in
    let m = be 2 e (at + 2 + l) in
    let t = at + 2 + l + 2 + m in
    let four : t + 2 + 2 ≡ t + 4 = omega arith in
    let six : t + 4 + 2 ≡ t + 6 = omega arith in
    let eight : t + 6 + 2 ≡ t + 8 = omega arith in
    rw (one-mul l, one-mul m, four, six, eight)
