-- `journal::change::carries` meets its contract. Assumes nothing.
use native.Mathlib.Omega.{arith}
use mathlib.Core.Path.{sym, ap₂, ◌∙◌}
use lib.Dec.{eqb}
use borrow.Author.Tests.{lt-leb}
use Rattle.journal.proofs.Trailers
use Rattle.journal.proofs.change.carries.Goals as goal

pub returns-then-size_of-n : goal.returns-then-size_of-n
returns-then-size_of-n c = ap₂ eqb c.read32.ensures.is c.closing_of.ensures ∙ sym (Trailers.carries_long _ _ (omega (arith, c.if-size_of-n.true, c.size_of.ensures)))

pub returns-else-size_of-n : goal.returns-else-size_of-n
returns-else-size_of-n c = lt-leb _ _ c.if-size_of-n.false ∙ sym (Trailers.carries_short _ _ (omega (arith, c.if-size_of-n.false, c.size_of.ensures)))
