-- The fields that a Vgroup and a Vdata head end in, after document 01, "Records". Assumes nothing.
use Rattle.std.specs.Prelude.{ℕ, zero, suc, ◌+◌, List, [], ◌∷◌, ◌++◌, length, leb, eqb}
use Rattle.wire.specs.Numbers.{be}
use Rattle.answer.specs.Search.{must}
use Rattle.records.specs.Limits.{most_count}
use Rattle.answer.specs.Refusals.{RECORD}
use Rattle.wire.specs.Layouts.{Layout, end, number, run}
use Rattle.vset.specs.Limits.{only_version}
use Rattle.vset.specs.declared.tail.Tail.{Tail}
use Rattle.vset.specs.declared.tail.Ending.{Ending}

-- a length and as many bytes, told where they start and how many they are
abbrev pub text : {A : Type 0} → (ℕ → ℕ → Layout A) → Layout A
text then = number 2 (λ size. run 1 size (λ at. then at size))

-- where so many names end, each with its length before it
unfoldable pub names_end : List ℕ → ℕ → ℕ → ℕ
names_end e zero at = at
names_end e (suc n) at = names_end e n (at + 2 + be 2 e at)

-- name length, name, class length, class, extension tag, extension reference, version, more; 16 bits each
abbrev pub tail : {A : Type 0} → (Tail → A) → Layout A
tail read =
    text (λ name name_length. text (λ class class_length.
    number 2 (λ extension_tag. number 2 (λ extension_ref. number 2 (λ version. number 2 (λ more.
    end (λ at. read (record {
      name = name;
      name_length = name_length;
      class = class;
      class_length = class_length;
      extension_tag = extension_tag;
      extension_ref = extension_ref;
      version = version;
      more = more;
      end = at;
    }))))))))

-- a tail in an answer: its places count from where the record's bytes start in the image
abbrev pub tail_values : ℕ → Tail → List ℕ
tail_values start t =
    (start + t.name) ∷ t.name_length ∷ (start + t.class) ∷ t.class_length
    ∷ t.extension_tag ∷ t.extension_ref ∷ t.version ∷ t.more ∷ []

-- the numbers of a tail
abbrev pub tail_numbers : List ℕ → List ℕ → Ending → List ℕ
tail_numbers name class x =
    length name ∷ (name ++ (length class ∷ (class ++ (x.extension_tag ∷ x.extension_ref ∷ x.version ∷ x.more ∷ []))))

-- version 3, name and class of lengths of 16 bits, then what the rules after them give
unfoldable pub tail_pack_fault : ℕ → ℕ → ℕ → ℕ → ℕ
tail_pack_fault name class version rest =
    must (leb name most_count) RECORD (must (leb class most_count) RECORD (must (eqb version only_version) RECORD rest))
