-- `journal::bad_tag` meets its contract. Assumes nothing.
use native.Mathlib.Omega.{arith}
use mathlib.Core.Path.{sym}
use mathlib.Core.Logic.{inl, inr}
use Rattle.journal.proofs.Outcomes
use Rattle.journal.proofs.bad_tag.Goals as goal

pub returns-in-0 : goal.returns-in-0
returns-in-0 c = sym (Outcomes.tag_other _ (λ g. omega arith))

pub returns-in-0-2 : goal.returns-in-0-2
returns-in-0-2 c = sym (Outcomes.tag_other _ (λ g. omega arith))

pub returns-in-0-3 : goal.returns-in-0-3
returns-in-0-3 c = sym (Outcomes.tag_other _ (λ g. omega arith))

pub returns-in_default : goal.returns-in_default
returns-in_default c = sym (Outcomes.tag_bad _ (λ e. omega arith, λ e. omega arith, λ e. omega arith, inl (omega arith)))

pub returns-in_default-2 : goal.returns-in_default-2
returns-in_default-2 c = sym (Outcomes.tag_bad _ (λ e. omega arith, λ e. omega arith, λ e. omega arith, inr (omega arith)))
