-- `hdf4::field_table::hdf4_read_fields` meets its contract. Assumes nothing.
use Prim.Native.Nat.{ℕ, ◌+◌}
use native.Mathlib.Omega.{arith}
use native.Mathlib.Numerals.{add-one}
use mathlib.Core.Path.{◌≡◌, refl, sym, ap, ◌∙◌}
use mathlib.Core.List.{List}
use lib.ListN.{set}
use Rattle.hdf4.specs.declared.field_table.Field.{Field}
use Rattle.hdf4.specs.declared.field_table.Reading.{Reading}
use Rattle.hdf4.specs.Steps.{field_in, filled}
use Rattle.hdf4.proofs.Tables.{filled_whole}
use Rattle.hdf4.proofs.field_table.hdf4_read_fields.Goals as goal

-- one field more
filled_next : (s : List ℕ) (r : Reading) (k : ℕ) (t : List Field) → filled s r (k + 1) t ≡ set (filled s r k t) k (field_in s r k)
unfolding filled
filled_next s r k t = rw (add-one k) refl

pub loop-i-init : goal.loop-i-init
unfolding filled
loop-i-init c = refl

pub loop-i-preserved : goal.loop-i-preserved
loop-i-preserved c = rw (c.loop-i.invariant, c.field_at.ensures) (sym (filled_next _ _ _ _))

pub returns : goal.returns
returns c =
    let l = c.loop-i in
    let read = c.read_head-r.ensures in
    let all : l.i ≡ c.read_head-r.result.fields = omega arith in
    record {
      answers = read.answers;
      leaves = l.invariant ∙ ap (λ k. filled c.args.image.now c.read_head-r.result k c.args.table.now) all ∙ filled_whole _ c.args.reference _ _ read;
    }
