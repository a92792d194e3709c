-- `wire::write_whole` meets its contract. The invariant: the first i bytes are put in place. Assumes nothing.
use native.Mathlib.Omega.{arith}
use mathlib.Core.Path.{refl, ap, ◌∙◌}
use lib.Seq.{take_all}
use Rattle.wire.specs.Numbers.{bytes, put}
use Rattle.wire.specs.declared.ByteOrder.TheVariants.{BigEndian}
use Rattle.wire.proofs.Numbers
use Rattle.wire.proofs.write_whole.Goals as goal

pub loop-i-init : goal.loop-i-init
unfolding put
loop-i-init g c = refl

pub loop-i-preserved : goal.loop-i-preserved
loop-i-preserved g c =
    let l = c.loop-i in
    let n = Numbers.length_bytes BigEndian g.row.WIDTH c.args.x in
    Numbers.put_more _ _ (bytes g.row.WIDTH c.args.x) _ l.i _ l.invariant (omega arith) c.byte.ensures

pub returns : goal.returns
returns g c =
    let all = take_all c.loop-i.i (bytes g.row.WIDTH c.args.x) (omega (arith, Numbers.length_bytes BigEndian g.row.WIDTH c.args.x)) in
    c.loop-i.invariant ∙ ap (put c.args.s.now c.args.at) all
