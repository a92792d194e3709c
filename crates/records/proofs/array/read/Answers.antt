-- `records::array::read` meets its contract. Assumes nothing.
use Prim.Native.Nat.{ℕ}
use mathlib.Core.List.{List}
use lib.ListN.{length}
use Rattle.answer.specs.Answer.{Answer}
use Rattle.answer.specs.Search.{Hit}
use Rattle.directory.proofs.Opens
use Rattle.records.specs.Limits.{array_tag}
use Rattle.records.specs.Readings.{record_bytes}
use Rattle.records.specs.Arrays.{array_at, array_of, array_sizes, array_pairs}
use Rattle.records.proofs.array.read.Goals as goal

pub returns-in_default : goal.returns-in_default
unfolding array_of
returns-in_default c =
    let o = c.open-opened.ensures in
    let told = c.unwrap_err.ensures in
    (Opens.unopened_does _ _ o 1 _ _ _ _ told, Opens.unopened_does _ _ o 1 _ _ _ _ told)

pub returns : goal.returns
unfolding array_of
returns c =
    let o = Opens.accepted_with _ _ c.open-opened.ensures _ c.in-Ok.is in
    let a = c.args in
    let answer : Hit → Answer = λ h. array_at a.image.now h (length a.sizes.now) (length a.pairs.now) in
    let sizes : Hit → List ℕ = λ h. array_sizes (record_bytes a.image.now h) in
    let pairs : Hit → List ℕ = λ h. array_pairs (record_bytes a.image.now h) in
    let d = c.read_in.ensures in
    (Opens.opened_does 1 _ _ array_tag a.reference o answer sizes _ _ _ d.0, Opens.opened_does 1 _ _ array_tag a.reference o answer pairs _ _ _ d.1)
