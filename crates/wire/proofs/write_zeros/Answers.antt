-- `wire::write_zeros` meets its contract. The invariant: the first i zeros are put in place. Assumes nothing.
use Prim.Native.Nat.{ℕ, ◌+◌}
use native.Mathlib.Omega.{arith}
use mathlib.Core.Path.{◌≡◌, refl, sym, ap, ◌∙◌}
use lib.ListN.{set, replicate, length-replicate, get_or-replicate}
use lib.Seq.{set-get_or}
use Rattle.wire.specs.Numbers.{put}
use Rattle.wire.proofs.Numbers
use Rattle.wire.proofs.write_zeros.Goals as goal
use Rattle.wire.proofs.write_zeros.Goals.{then-s-at-ne0, else-s-at-ne0}

-- the byte is 0 behind the test, whether it was written or not
cleared : (c : goal.Joined-s-at-ne0) → let l = c.loop-i in c.if-s-at-ne0.s ≡ set l.s (c.args.at + l.i) 0
cleared c =
    let l = c.loop-i in
    let at = c.args.at + l.i in
    elim c.if-s-at-ne0.branch [
      | then-s-at-ne0 w ↦ w.s-is
      | else-s-at-ne0 w ↦ w.s-is ∙ sym (ap (set l.s at) (sym w.if-s-at-ne0.false) ∙ set-get_or l.s at 0)
    ]

pub loop-i-init : goal.loop-i-init
unfolding put
loop-i-init c = refl

pub loop-i-preserved : goal.loop-i-preserved
loop-i-preserved c =
    let l = c.loop-i in
    let count = c.args.count in
    cleared c
    ∙ Numbers.put_more _ _ (replicate count 0) _ l.i 0 l.invariant (omega (arith, length-replicate {A = ℕ} count 0)) (sym (get_or-replicate count l.i 0 0 (omega arith)))

pub returns : goal.returns
returns c = Numbers.put_all _ _ (replicate c.args.count 0) _ c.loop-i.i c.loop-i.invariant (omega (arith, length-replicate {A = ℕ} c.args.count 0))
