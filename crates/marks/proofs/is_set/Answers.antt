-- `marks::is_set` meets its contract. Assumes nothing.
use Prim.Native.Nat.{◌/◌}
use Rattle.std.proofs.Common.{rules}
use mathlib.Core.Path.{◌≡◌, refl, sym}
use lib.ListN.{get_or}
use Rattle.marks.specs.Marks.{marked}
use Rattle.marks.proofs.Marks.{none_outside}
use Rattle.marks.proofs.is_set.Goals as goal

pub returns-in-Some : goal.returns-in-Some
unfolding marked
returns-in-Some c =
    let word : c.in-Some.field-0.now ≡ get_or c.args.marks.now (c.args.n / 64) 0 = let h = c.in-Some.ensures in search rules in
    rw word refl

pub returns-in-None : goal.returns-in-None
returns-in-None c = sym (none_outside _ _ (let h = c.in-None.ensures in search rules))
