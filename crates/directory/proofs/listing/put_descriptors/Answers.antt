-- `directory::listing::put_descriptors` meets its contract. The invariant: what is still to be filled in gives the whole. Assumes nothing.
use mathlib.Core.Path.{sym, ◌∙◌}
use Rattle.directory.proofs.Descriptors
use Rattle.directory.proofs.listing.put_descriptors.Goals as goal

pub put_descriptor-requires : goal.put_descriptor-requires
put_descriptor-requires c =
    let step = c.in-Some.ensures.steps in
    (step.1, Descriptors.entry_room _ _ _ _ _ _ _ (rw step.0 at c.loop-p.invariant.2) (λ h. c.if-read16-ne-FREE.true (c.read16.ensures.is ∙ h)))

pub loop-p-preserved-then-read16-ne-FREE : goal.loop-p-preserved-then-read16-ne-FREE
loop-p-preserved-then-read16-ne-FREE c =
    let filling = rw c.in-Some.ensures.steps.0 at c.loop-p.invariant.2 in
    (tt, tt, rw c.put_descriptor.ensures (Descriptors.next_live _ _ _ _ _ _ _ filling (λ h. c.if-read16-ne-FREE.true (c.read16.ensures.is ∙ h))))

pub loop-p-preserved : goal.loop-p-preserved
loop-p-preserved c =
    let filling = rw c.in-Some.ensures.steps.0 at c.loop-p.invariant.2 in
    (tt, tt, Descriptors.next_free _ _ _ _ _ _ _ filling (sym c.read16.ensures.is ∙ c.if-read16-ne-FREE.false))

pub returns : goal.returns
returns c = Descriptors.filled _ _ _ _ _ (rw c.in-None.ensures.steps.0.0 at c.loop-p.invariant.2)
