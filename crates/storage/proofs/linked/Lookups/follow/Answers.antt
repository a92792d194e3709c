-- `storage::linked::Lookups::follow` meets its contract. The invariant: what is left of the walk is what the walk comes to. Assumes nothing.
use Prim.Native.Nat.{◌+◌, ◌*◌}
use native.Mathlib.Omega.{arith}
use mathlib.Core.Path.{◌≡◌, refl, ap, ◌∙◌}
use Rattle.wire.specs.Numbers.{be}
use Rattle.storage.specs.Tables.{linked_bytes}
use Rattle.std.specs.Prelude.{Ok}
use Rattle.storage.specs.Steps.{LookedUp, next_fault}
use Rattle.storage.proofs.Mapped
use Rattle.std.proofs.lemmas.Result.{err_from_is_err_and}
use Rattle.storage.proofs.Steps
use borrow.Author.Rules.{rules}
use Rattle.storage.proofs.linked.Lookups.follow.Goals as goal
use Rattle.storage.proofs.linked.Lookups.follow.Goals.{In_ok-table, In-loop-left}

-- bytes are left
missed : (c : In-loop-left) → c.loop-left.left ≡ 0 → ⊥
missed c z = omega (arith, c.loop-left-test.true)

-- the table breaks no rule, and its bytes
whole : (c : In_ok-table) → let a = c.args in let l = c.loop-left in
    LookedUp a.self.now l.reference (next_fault a.self.now a.d l.count l.reference) (2 + 2 * a.d.entries) (Ok c.in_ok-table.table) × (c.reach_table.new.self ≡ a.self.now)
whole c =
    let m = Mapped.mapped_ok _ c.reach_table.result _ c.map_err.ensures.cases _ c.in_ok-table.was in
    rw (c.loop-left.invariant.1, m) at c.reach_table.ensures

sound : (c : In_ok-table) → let l = c.loop-left in let a = c.args in next_fault a.self.now a.d l.count l.reference ≡ 0
sound c = (whole c).0.0

bytes : (c : In_ok-table) → c.in_ok-table.table.now ≡ linked_bytes c.args.self.now c.loop-left.reference
bytes c = (whole c).0.1

same : (c : In_ok-table) → c.reach_table.new.self ≡ c.args.self.now
same c = (whole c).1

pub loop-left-init : goal.loop-left-init
loop-left-init c = (Steps.following_start _ _ _ _ (search rules), refl)

pub returns-in_err-table : goal.returns-in_err-table
returns-in_err-table c =
    let p = err_from_is_err_and c.from_residual.result c.from_residual.ensures.1 in
    let m = Mapped.mapped_err _ c.reach_table.result _ c.map_err.ensures.cases _ c.in_err-table.was in
    let w : c.in_err-table.field-0.0 ≡ record { rule = m.0; index = c.loop-left.count } = search (rules, m.2) in
    let h = rw (c.loop-left.invariant.1, m.1) at c.reach_table.ensures in
    rw (p.1, p.2 ∙ w) (Steps.followed_fault _ _ _ _ _ _ _ _ _ c.loop-left.invariant.0 (missed (goal.at.returns-in_err-table c).In-loop-left) _ h.0, h.1)

pub returns-in_err-left : goal.returns-in_err-left
returns-in_err-left c =
    let p = err_from_is_err_and c.from_residual-in_err-left.result c.from_residual-in_err-left.ensures.1 in
    let g = goal.at.returns-in_err-left c in
    let t = rw (same g.In_ok-table, bytes g.In_ok-table) at c.in_err-left.ensures in
    rw (p.1, p.2) (Steps.followed_broken _ _ _ _ _ _ _ _ _ c.loop-left.invariant.0 (missed g.In-loop-left) (sound g.In_ok-table) _ _ t.0, t.1)

pub loop-left-smaller : goal.loop-left-smaller
loop-left-smaller c =
    let g = goal.at.loop-left-smaller c in
    omega (arith, Steps.fewer _ _ _ _ _ _ _ _ _ c.loop-left.invariant.0 (missed g.In-loop-left) (sound g.In_ok-table))

pub loop-left-preserved : goal.loop-left-preserved
loop-left-preserved c =
    let g = goal.at.loop-left-preserved c in
    let t = rw (same g.In_ok-table, bytes g.In_ok-table) at c.in_ok-left.ensures in (
      rw (c.read16-reference.ensures.is ∙ ap (λ t. be 2 t 0) (bytes g.In_ok-table), c.set.ensures, c.mark_of.ensures)
          (Steps.following_next _ _ _ _ _ _ _ _ _ c.loop-left.invariant.0 (missed g.In-loop-left) (sound g.In_ok-table) _ _ t.0 c.requires.entries),
      t.1,
    )

pub returns : goal.returns
returns c =
    let z : c.loop-left.left ≡ 0 = omega (arith, c.loop-left-test.false) in
    (Steps.followed_all _ _ _ _ _ _ _ _ _ c.loop-left.invariant.0 z, c.loop-left.invariant.1)
