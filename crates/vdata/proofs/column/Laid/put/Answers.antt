-- `vdata::column::Laid::put` meets its contract. Assumes nothing.
use mathlib.Core.Path.{sym, ◌∙◌}
use native.Mathlib.Omega.{arith}
use Rattle.vdata.proofs.Widths
use Rattle.vdata.proofs.column.Laid.put.Goals as goal

pub put_by-requires-in_default : goal.put_by-requires-in_default
put_by-requires-in_default c =
    let eight = Widths.width_eight _ _ c.width.ensures.0 c.args.self.now.there.known (λ e. omega arith) (λ e. omega arith) (λ e. omega arith) in
    (eight, sym c.in-BigEndian.is ∙ c.byte_order.ensures, c.requires)

pub put_by-requires-in_default-width : goal.put_by-requires-in_default-width
put_by-requires-in_default-width c =
    let eight = Widths.width_eight _ _ c.width-in-LittleEndian.ensures.0 c.args.self.now.there.known (λ e. omega arith) (λ e. omega arith) (λ e. omega arith) in
    (eight, sym c.in-LittleEndian.is ∙ c.byte_order.ensures, c.requires)
