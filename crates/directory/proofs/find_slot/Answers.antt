-- `directory::find_slot` meets its contract. Assumes nothing.
use native.Mathlib.Omega.{arith}
use mathlib.Core.Path.{◌≡◌, sym, ap, ◌∙◌}
use Rattle.std.specs.Prelude.{Err}
use Rattle.answer.specs.Search.{first}
use Rattle.directory.specs.Links.{slots_after}
use Rattle.directory.specs.Lookup.{has, hit_found}
use Rattle.directory.specs.Steps.Cursors.{Stands}
use Rattle.directory.specs.Steps.Resuming.{since, head_of}
use Rattle.directory.proofs.Resuming
use Rattle.directory.proofs.find_slot.Goals as goal
use Rattle.directory.proofs.find_slot.Goals.{After-find_ahead-at}

-- the cursor stands at the first slot that is searched for
found : (c : After-find_ahead-at) → let a = c.args in Stands a.image.now c.find_ahead-at.result (since (has a.image.now a.tag a.reference) (slots_after a.image.now a.blocks 4))
found c = rw c.start-first.ensures.is at c.find_ahead-at.ensures

-- which is what a search of the slots gives
hit : (c : After-find_ahead-at) → let a = c.args in let f = has a.image.now a.tag a.reference in
    head_of (since f (slots_after a.image.now a.blocks 4)) ≡ first f (slots_after a.image.now a.blocks 4)
hit c = Resuming.since_first _ _

pub returns-then-at-eq0 : goal.returns-then-at-eq0
returns-then-at-eq0 c =
    let g = (goal.at.returns-then-at-eq0 c).After-find_ahead-at in
    ap Err c.at.ensures ∙ ap hit_found (sym (Resuming.stands_miss _ _ _ (found g) c.if-at-eq0.true) ∙ hit g)

pub returns : goal.returns
returns c =
    let g = (goal.at.returns c).After-find_ahead-at in
    ap hit_found (sym (Resuming.stands_hit _ _ _ (found g) (omega (arith, c.if-at-eq0.false))) ∙ hit g)
