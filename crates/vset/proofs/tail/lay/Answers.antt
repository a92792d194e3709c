-- `vset::tail::lay` meets its contract. Assumes nothing.
use mathlib.Core.Path.{sym}
use Rattle.wire.proofs.Numbers.{put_past}
use Rattle.vset.proofs.Tails
use Rattle.vset.proofs.tail.lay.Goals as goal

pub returns-then-out-at : goal.returns-then-out-at
returns-then-out-at c = sym (put_past _ _ _ c.if-out-at.true)

pub returns-then-out-second : goal.returns-then-out-second
returns-then-out-second c =
    let a = c.args in
    Tails.laid_name _ a.name.now a.class.now _ a.x (λ i. (c.type_inv.name i).fits) (λ i. (c.type_inv.class i).fits) _ c.lay_text.ensures c.if-out-second.true

pub returns-then-out-last : goal.returns-then-out-last
returns-then-out-last c =
    let a = c.args in
    Tails.laid_class _ a.name.now a.class.now _ a.x (λ i. (c.type_inv.name i).fits) (λ i. (c.type_inv.class i).fits) _ c.lay_text.ensures _ c.lay_text-2.ensures c.if-out-last.true

pub returns : goal.returns
returns c =
    let a = c.args in
    Tails.laid_tail _ a.name.now a.class.now _ a.x (λ i. (c.type_inv.name i).fits) (λ i. (c.type_inv.class i).fits) _ _ _ c.lay_text.ensures c.lay_text-2.ensures c.lay_ending.ensures
