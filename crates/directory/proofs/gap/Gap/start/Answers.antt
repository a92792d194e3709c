-- `directory::gap::Gap::start` meets its contract. Assumes nothing.
use mathlib.Core.Logic.{inl}
use borrow.Author.Tests.{not-false}
use Rattle.directory.proofs.Gaps
use Rattle.directory.proofs.gap.Gap.start.Goals as goal

pub returns-then-not-shape : goal.returns-then-not-shape
returns-then-not-shape c = inl c.none-first.ensures

pub returns : goal.returns
returns c = Gaps.starts c.args.shape _ _ _ (not-false _ c.if-not-shape.false) _ c.none-first.ensures _ c.later.ensures _ c.later-2.ensures
