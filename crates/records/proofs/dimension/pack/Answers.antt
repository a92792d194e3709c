-- `records::dimension::pack` meets its contract. Assumes nothing.
use mathlib.Core.Path.{sym}
use Rattle.answer.specs.declared.refusals.Rule.TheVariants.{Record}
use Rattle.records.proofs.Packings
use Rattle.records.proofs.Dimensions
use Rattle.records.proofs.dimension.pack.Goals as goal

pub returns-then-d-gt-MOST_INTERLACE : goal.returns-then-d-gt-MOST_INTERLACE
returns-then-d-gt-MOST_INTERLACE c = rw c.at.ensures (Packings.packs_fault _ _ _ Record (sym (Dimensions.pack_refused _ c.if-d-gt-MOST_INTERLACE.true)))

pub returns-then-out-lt20 : goal.returns-then-out-lt20
returns-then-out-lt20 c = rw c.at-then-out-lt20.ensures (Packings.packs_small _ _ _ (Dimensions.pack_passed _ c.if-d-gt-MOST_INTERLACE.false) (rw Dimensions.length_dimension c.if-out-lt20.true))

pub returns : goal.returns
returns c =
    let n = Dimensions.length_dimension c.args.d in
    Packings.packs_granted _ _ _ (Dimensions.pack_passed _ c.if-d-gt-MOST_INTERLACE.false) (rw n c.if-out-lt20.false) _ (sym n) _
    (Dimensions.put_dimension _ _ _ _ _ _ _ _ _ _ c.write32.ensures c.write32-2.ensures c.write16.ensures c.write16-2.ensures c.write16-3.ensures c.write16-4.ensures c.write16-5.ensures c.write16-6.ensures)
