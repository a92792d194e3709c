-- Dimensions, tags 300, 307 and 308, after document 01, "Records". Assumes nothing.
use Rattle.std.specs.Prelude.{ℕ, List, [], ◌∷◌, leb, Result, Ok, Err}
use Rattle.answer.specs.Answer.{Answer, grant, refusal}
use Rattle.answer.specs.Search.{must, Hit}
use Rattle.records.specs.Limits.{most_interlace}
use Rattle.answer.specs.Refusals.{RECORD}
use Rattle.wire.specs.Layouts.{Layout, end, number, read, pack}
use Rattle.directory.specs.Opening.{opened}
use Rattle.directory.specs.Lookup.{find}
use Rattle.records.specs.Readings.{record_at, exactly}
use Rattle.records.specs.declared.dimension.Dimension.{Dimension}
use Rattle.answer.specs.declared.Refusal.{Refusal}

-- x and y of 32 bits; type tag, type reference, elements, interlace, compression tag, compression reference of 16
abbrev pub dimension : Layout Dimension
dimension =
    number 4 (λ x. number 4 (λ y.
    number 2 (λ type_tag. number 2 (λ type_ref. number 2 (λ elements. number 2 (λ interlace. number 2 (λ compression_tag. number 2 (λ compression_ref.
    end (λ at. record {
      x = x;
      y = y;
      type_tag = type_tag;
      type_ref = type_ref;
      elements = elements;
      interlace = interlace;
      compression_tag = compression_tag;
      compression_ref = compression_ref;
    })))))))))

abbrev pub dimension_values : Dimension → List ℕ
dimension_values d =
    d.x ∷ d.y ∷ d.type_tag ∷ d.type_ref ∷ d.elements ∷ d.interlace ∷ d.compression_tag ∷ d.compression_ref ∷ []

abbrev pub dimension_numbers : Result Dimension Refusal → Answer
dimension_numbers (Ok d) = grant (dimension_values d)
dimension_numbers (Err r) = refusal 8 r

-- exactly 20 bytes, interlace 0 to 2
unfoldable pub dimension_fault : List ℕ → ℕ
dimension_fault e = must (exactly dimension e) RECORD (must (leb (read dimension e 0).interlace most_interlace) RECORD 0)

unfoldable pub dimension_at : List ℕ → Hit → Answer
dimension_at s found = record_at 8 s found dimension_fault (λ at e. grant (dimension_values (read dimension e 0)))

unfoldable pub dimension_of : List ℕ → ℕ → ℕ → Answer
dimension_of s tag ref = opened 8 s (dimension_at s (find s tag ref))

unfoldable pub dimension_bytes : Dimension → List ℕ
dimension_bytes d = pack dimension (dimension_values d) 0

unfoldable pub dimension_pack_fault : Dimension → ℕ
dimension_pack_fault d = must (leb d.interlace most_interlace) RECORD 0
