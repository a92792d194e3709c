-- `storage::linked::Lookups::reference_in` meets its contract. Assumes nothing.
use native.Mathlib.Omega.{arith}
use mathlib.Core.Path.{◌≡◌}
use mathlib.Core.List.{[]}
use borrow.Author.Rules.{rules}
use Rattle.wire.specs.declared.ByteOrder.TheVariants.{BigEndian}
use Rattle.wire.specs.Numbers.{be}
use Rattle.wire.proofs.Numbers
use Rattle.storage.proofs.Tables
use Rattle.storage.proofs.linked.Lookups.reference_in.Goals as goal

pub returns : goal.returns
returns c =
    let none : be 2 [] c.args.place ≡ 0 = Numbers.number_past BigEndian 2 [] c.args.place (omega arith) in
    (Tables.read_bytes _ _ _ _ _ c.reach.ensures.0 _ _ c.map_or.ensures (λ t. be 2 t c.args.place) (λ x h. search (rules, h)) none, c.reach.ensures.1)
