-- `vhead::head::field_at` meets its contract. Assumes nothing.
use Prim.Native.Nat.{◌+◌, ◌*◌}
use native.Mathlib.Omega.{arith}
use mathlib.Core.Path.{◌≡◌, sym}
use Rattle.vhead.proofs.Heads
use Rattle.vhead.proofs.head.field_at.Goals as goal

pub returns : goal.returns
returns c =
    let p = c.args in
    let second : 10 + 2 * p.i + 2 * p.fields ≡ 10 + 2 * p.fields + 2 * p.i = omega arith in
    let third : 10 + 2 * p.i + 2 * (2 * p.fields) ≡ 10 + 4 * p.fields + 2 * p.i = omega arith in
    let fourth : 10 + 2 * p.i + 3 * (2 * p.fields) ≡ 10 + 6 * p.fields + 2 * p.i = omega arith in
    let a = c.read16.ensures in
    let b = c.read16-2.ensures in
    let d = c.read16-3.ensures in
    let e = c.read16-4.ensures in (
      rw (a.is, b.is, d.is, e.is, second, third, fourth) (sym (Heads.field_is _ _ _ c.requires.0)),
      record { code = a.small; size = b.small; offset = d.small; order = e.small },
    )
