-- `vset::column::lay_column` meets its contract. Assumes nothing.
use mathlib.Core.Path.{sym, ◌∙◌}
use Rattle.vset.proofs.Columns
use Rattle.vset.proofs.column.lay_column.Goals as goal

pub loop-i-preserved : goal.loop-i-preserved
loop-i-preserved c = rw (c.write16.ensures, c.entry-number.ensures) (Columns.lays _ _ _ _ _ _ _ c.loop-i-test.true) ∙ c.loop-i.invariant

pub returns : goal.returns
returns c = sym (Columns.laid _ _ _ _ _ _ _ c.loop-i-test.false) ∙ c.loop-i.invariant ∙ Columns.laying_all _ _ _ _ _ _
