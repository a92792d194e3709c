-- `wire::write` meets its contract. The invariant: the first i bytes are put in place. Assumes nothing.
use Prim.Native.Nat.{◌+◌}
use native.Mathlib.Omega.{arith}
use mathlib.Core.Path.{◌≡◌, refl, sym, ap, ◌∙◌}
use lib.ListN.{set, get_or}
use lib.Seq.{set_out, take_all}
use Rattle.wire.specs.Numbers.{bytes, put}
use Rattle.wire.specs.declared.ByteOrder.TheVariants.{BigEndian}
use Rattle.wire.proofs.Numbers
use Rattle.wire.proofs.write.Goals as goal
use Rattle.wire.proofs.write.Goals.{then-i-room, else-i-room}

pub loop-i-init : goal.loop-i-init
unfolding put
loop-i-init g c = refl

pub loop-i-preserved : goal.loop-i-preserved
loop-i-preserved g c =
    let l = c.loop-i in
    let at = c.args.at + l.i in
    let v = get_or (bytes g.row.WIDTH c.args.x) l.i 0 in
    let n = Numbers.length_bytes BigEndian g.row.WIDTH c.args.x in
    let stored : c.if-i-room.s ≡ set l.s at v =
    elim c.if-i-room.branch [
      | then-i-room w ↦ w.s-is ∙ ap (set l.s at) w.byte.ensures
      | else-i-room w ↦ w.s-is ∙ sym (set_out l.s at v (omega arith))
    ] in
    stored ∙ Numbers.put_more _ _ (bytes g.row.WIDTH c.args.x) _ l.i v l.invariant (omega arith) refl

pub returns : goal.returns
returns g c =
    let all = take_all c.loop-i.i (bytes g.row.WIDTH c.args.x) (omega (arith, Numbers.length_bytes BigEndian g.row.WIDTH c.args.x)) in
    c.loop-i.invariant ∙ ap (put c.args.s.now c.args.at) all
