-- Number types, tag 106, after document 01, "Records". Assumes nothing.
use Rattle.std.specs.Prelude.{ℕ, List, [], ◌∷◌, Result, Ok, Err}
use Rattle.answer.specs.Answer.{Answer, grant, refusal}
use Rattle.answer.specs.Search.{must, Hit}
use Rattle.records.specs.Limits.{number_type_tag}
use Rattle.answer.specs.Refusals.{RECORD}
use Rattle.wire.specs.Layouts.{Layout, end, number, read, pack}
use Rattle.directory.specs.Opening.{opened}
use Rattle.directory.specs.Lookup.{find}
use Rattle.records.specs.Readings.{record_at, exactly}
use Rattle.records.specs.declared.number_type.NumberType.{NumberType}
use Rattle.answer.specs.declared.Refusal.{Refusal}

-- version, type, width, class: a byte each, any values
abbrev pub number_type : Layout NumberType
number_type =
    number 1 (λ version. number 1 (λ code. number 1 (λ width. number 1 (λ class. end (λ at. record { version = version; code = code; width = width; class = class })))))

abbrev pub number_type_values : NumberType → List ℕ
number_type_values x = x.version ∷ x.code ∷ x.width ∷ x.class ∷ []

abbrev pub number_type_numbers : Result NumberType Refusal → Answer
number_type_numbers (Ok x) = grant (number_type_values x)
number_type_numbers (Err r) = refusal 4 r

-- exactly 4 bytes
unfoldable pub number_type_fault : List ℕ → ℕ
number_type_fault e = must (exactly number_type e) RECORD 0

unfoldable pub number_type_at : List ℕ → Hit → Answer
number_type_at s found = record_at 4 s found number_type_fault (λ at e. grant (number_type_values (read number_type e 0)))

unfoldable pub number_type_of : List ℕ → ℕ → Answer
number_type_of s ref = opened 4 s (number_type_at s (find s number_type_tag ref))

unfoldable pub number_type_bytes : NumberType → List ℕ
number_type_bytes x = pack number_type (number_type_values x) 0
