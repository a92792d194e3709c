-- `directory::is_hdf` meets its contract. Assumes nothing.
use mathlib.Core.Path.{sym, ap, ◌∙◌}
use borrow.Author.Tests.{lt-leb}
use lib.Dec.{eqb}
use Rattle.directory.specs.Limits.{magic}
use Rattle.directory.proofs.Opening
use Rattle.directory.proofs.is_hdf.Goals as goal

pub returns-then-image-ge4 : goal.returns-then-image-ge4
returns-then-image-ge4 c = ap (λ n. eqb n magic) c.read32.ensures.is ∙ sym (Opening.headed_magic _ c.if-image-ge4.true)

pub returns-else-image-ge4 : goal.returns-else-image-ge4
returns-else-image-ge4 c = lt-leb _ _ c.if-image-ge4.false ∙ sym (Opening.headed_short _ c.if-image-ge4.false)
