-- `directory::key::has_lone` meets its contract. Assumes nothing.
use Prim.Native.Nat.{◌+◌, ◌*◌}
use mathlib.Core.Path.{refl, ◌∙◌}
use lib.Dec.{eqb}
use Rattle.std.proofs.Common.{rules, tests}
use Rattle.std.proofs.Math.Nat.{sub-zero}
use Rattle.std.proofs.lemmas.Iterator.{YieldsList-from_range}
use Rattle.std.proofs.lemmas.Iterator.Search.{any_from_yields_List}
use Rattle.directory.specs.Slots.{tag_at, base_tag}
use Rattle.directory.proofs.Keys
use Rattle.directory.proofs.key.has_lone.Goals as goal

pub returns : goal.returns
returns c =
    let a = c.args in
    any_from_yields_List (λ i. eqb (base_tag (tag_at a.image.now (a.from + 12 * i))) 107) c.any.new.self _ _ c.any.ensures.ran (YieldsList-from_range 0 a.count _ refl (sub-zero a.count)) (λ x b q k. search (rules, tests))
    ∙ Keys.rows_any (λ q. eqb (base_tag (tag_at a.image.now q)) 107) _ _
