-- `records::number_type::pack` meets its contract. Assumes nothing.
use mathlib.Core.Path.{refl, sym}
use Rattle.records.proofs.Packings
use Rattle.records.proofs.NumberTypes
use Rattle.records.proofs.number_type.pack.Goals as goal

pub returns-then-out-lt4 : goal.returns-then-out-lt4
returns-then-out-lt4 c = rw c.at.ensures (Packings.packs_small _ _ _ refl (rw NumberTypes.length_number_type c.if-out-lt4.true))

pub returns : goal.returns
returns c =
    let n = NumberTypes.length_number_type c.args.x in
    Packings.packs_granted _ _ _ refl (rw n c.if-out-lt4.false) _ (sym n) _
    (NumberTypes.put_number_type _ _ _ _ _ _ c.write8.ensures c.write8-2.ensures c.write8-3.ensures c.write8-4.ensures)
