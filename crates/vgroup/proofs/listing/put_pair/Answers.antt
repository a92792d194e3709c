-- `vgroup::listing::put_pair` meets its contract. Assumes nothing.
use native.Mathlib.Omega.{arith}
use native.Mathlib.Numerals.{add-one}
use mathlib.Core.Path.{sym}
use lib.ListN.{length-set}
use lib.Seq.{set_out}
use Rattle.wire.specs.Numbers.{put}
use Rattle.wire.proofs.Numbers.{put_past}
use Rattle.vgroup.proofs.listing.put_pair.Goals as goal

pub returns-then-table-at : goal.returns-then-table-at
returns-then-table-at c = sym (put_past _ _ _ c.if-table-at.true)

pub returns-then-table-at-lt2 : goal.returns-then-table-at-lt2
unfolding put
returns-then-table-at-lt2 c = let h = rw length-set at c.if-table-at-lt2.true in sym (set_out _ _ _ (rw length-set (omega (arith, h, c.if-table-at.false))))

pub returns : goal.returns
unfolding put
returns c = rw add-one
