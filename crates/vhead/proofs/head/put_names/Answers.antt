-- `vhead::head::put_names` meets its contract. The invariant: the names that are left, put on what is there, give the whole. Assumes nothing.
use Prim.Native.Nat.{◌+◌, ◌*◌, ◌-◌}
use native.Mathlib.Omega.{arith}
use mathlib.Core.Path.{◌≡◌, sym, ap, ◌∙◌}
use lib.Seq.{sets}
use Rattle.vhead.specs.Heads.{name_rows}
use Rattle.vset.proofs.Columns
use Rattle.vhead.proofs.Heads
use Rattle.vhead.proofs.head.put_names.Goals as goal

pub loop-i-init : goal.loop-i-init
loop-i-init c =
    let a = c.args in
    let z : a.fields - 0 ≡ a.fields = omega arith in
    (omega arith, Columns.filling_start _ _ _ _ _ (ap (λ n. name_rows a.start a.part.now n (10 + 8 * a.fields)) z))

pub loop-i-preserved : goal.loop-i-preserved
loop-i-preserved c =
    let l = c.loop-i in
    let next : l.at + 2 + c.read16-length.result ≡ l.at + (2 + c.read16-length.result) = omega arith in (
      omega (arith, l.invariant.0, c.read16-length.ensures.small),
      rw (← next, c.read16-length.ensures.is)
          (Columns.filling_two c.loop-i-test.true l.invariant.1 (Heads.name_next _ _ _ _ _ c.loop-i-test.true)),
    )

pub returns : goal.returns
returns c =
    Columns.filling_done c.loop-i.invariant.1 (Heads.name_none _ _ _ _ _ c.loop-i-test.false) ∙ ap (λ n. sets c.args.list.now 0 (name_rows c.args.start c.args.part.now n (10 + 8 * n))) c.requires.0 ∙ ap (sets c.args.list.now 0) (sym (Heads.names_are c.args.start c.args.part.now))
