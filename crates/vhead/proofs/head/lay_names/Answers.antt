-- `vhead::head::lay_names` meets its contract. The invariant: the names that are left, laid on what is there, give the whole. Assumes nothing.
use Rattle.vhead.proofs.HeadsPacked
use Rattle.vhead.proofs.head.lay_names.Goals as goal

pub loop-i-init : goal.loop-i-init
loop-i-init c = HeadsPacked.names_start _ _ _ _

pub loop-i-preserved : goal.loop-i-preserved
loop-i-preserved c =
    HeadsPacked.names_step _ _ _ _ _ _ _ c.loop-i.invariant c.loop-i-test.true c.requires.0 _ _ _
    c.write16.ensures c.part.ensures c.write_bytes.ensures

pub returns : goal.returns
returns c = HeadsPacked.names_done _ _ _ _ _ _ _ c.loop-i.invariant c.loop-i-test.false
