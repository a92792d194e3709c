-- `vdata::column::read_after` meets its contract. Assumes nothing.
use Prim.Native.Nat.{◌<◌}
use native.Mathlib.Omega.{arith}
use mathlib.Core.Path.{◌≡◌, sym, ap, ◌∙◌}
use Rattle.vhead.specs.Heads.{field_at}
use Rattle.std.proofs.lemmas.Result.{err_from_is_err_and}
use Rattle.answer.specs.Refusals.{fault_of}
use Rattle.vhead.proofs.Heads
use Rattle.vdata.specs.Values.{field_fault}
use Rattle.vdata.proofs.Values
use Rattle.vdata.proofs.Columns
use Rattle.vdata.proofs.column.read_after.Goals as goal
use Rattle.vdata.proofs.column.read_after.Goals.{In_ok-check_field}

-- the indices break no rule
inside : (c : In_ok-check_field) → let a = c.args in let h = c.parse-h.result in field_fault h (field_at a.part.now h a.field) a.field a.component ≡ 0
inside c = sym c.check_field.ensures ∙ ap fault_of c.in_ok-check_field.was

-- the numbers of the head are small
small : (c : In_ok-check_field) → let h = c.parse-h.result in (h.records < 4294967296) × (h.record_size < 65536)
small c = Values.head_small _ _ c.parse-h.ensures (λ k. (c.type_inv.part k).fits)

pub returns-in_err-check_field : goal.returns-in_err-check_field
returns-in_err-check_field c =
    let p = err_from_is_err_and c.from_residual.result c.from_residual.ensures.1 in
    rw (p.1, p.2)
    (Columns.column_index _ _ _ _ _ _ _ c.parse-h.ensures _ (sym (ap fault_of c.in_err-check_field.was) ∙ c.check_field.ensures))

pub overflow_cast-field : goal.overflow_cast-field
overflow_cast-field c =
    omega (arith, (Values.field_inside _ _ _ _ (inside c)).0, ap (λ h. h.fields) c.parse-h.ensures, Heads.fields_few c.args.part.now (λ k. (c.type_inv.part k).fits))

pub returns-then-h-eq0 : goal.returns-then-h-eq0
returns-then-h-eq0 c =
    Columns.column_none _ _ _ _ _ _ _ c.parse-h.ensures (inside (goal.at.returns-then-h-eq0 c).In_ok-check_field) _ c.numbers_at-f.ensures.0 _ c.of_type-kind.ensures c.if-h-eq0.true

pub returns-in_err-found : goal.returns-in_err-found
returns-in_err-found c =
    let r = c.from_residual-in_err-found in
    let p = err_from_is_err_and r.result r.ensures.1 in
    rw (p.1, p.2) (Columns.column_refused _ _ _ _ _ _ _ c.parse-h.ensures (inside (goal.at.returns-in_err-found c).In_ok-check_field) _ c.numbers_at-f.ensures.0 _ c.of_type-kind.ensures c.if-h-eq0.false _ c.locate.ensures _ c.in_err-found.was)

pub overflow_mul-h : goal.overflow_mul-h
overflow_mul-h c = let x = small (goal.at.overflow_mul-h c).In_ok-check_field in omega (arith, Values.small_product _ _ x.0 x.1)

pub returns-then-values-h : goal.returns-then-values-h
returns-then-values-h c =
    rw c.at.ensures
    (Columns.column_short _ _ _ _ _ _ _ c.parse-h.ensures (inside (goal.at.returns-then-values-h c).In_ok-check_field) _ c.numbers_at-f.ensures.0 _ c.of_type-kind.ensures c.if-h-eq0.false _ c.locate.ensures _ c.in_ok-found.was _ c.part-values.ensures c.if-values-h.true)

pub returns-then-out-h : goal.returns-then-out-h
returns-then-out-h c =
    rw c.at-then-out-h.ensures
    (Columns.column_small _ _ _ _ _ _ _ c.parse-h.ensures (inside (goal.at.returns-then-out-h c).In_ok-check_field) _ c.numbers_at-f.ensures.0 _ c.of_type-kind.ensures c.if-h-eq0.false _ c.locate.ensures _ c.in_ok-found.was _ c.part-values.ensures c.if-values-h.false c.if-out-h.true)

pub put_column-requires : goal.put_column-requires
put_column-requires c =
    let i = Values.field_inside _ _ _ _ (inside (goal.at.put_column-requires c).In_ok-check_field) in
    let x = small (goal.at.put_column-requires c).In_ok-check_field in
    let n = c.numbers_at-f.ensures in
    let parsed = c.parse-h.ensures in
    let f = Values.same_field _ _ parsed _ _ n.0 in
    let component : c.args.component < c.numbers_at-f.result.order = omega (arith, i.1, ap (λ f. f.order) f) in
    let y = Columns.column_sound _ c.requires _ parsed _ _ _ f i.0 component _ c.if-values-h.false in
    (Values.reach _ _ _ _ x.0 x.1 n.1 (omega (arith, c.if-h-eq0.false)) component, c.if-out-h.false, y)

pub returns : goal.returns
returns c =
    Columns.column_put _ _ _ _ _ _ _ c.parse-h.ensures (inside (goal.at.returns c).In_ok-check_field) _ c.numbers_at-f.ensures.0 _ c.of_type-kind.ensures c.if-h-eq0.false _ c.locate.ensures _ c.in_ok-found.was _ c.part-values.ensures c.if-values-h.false c.if-out-h.false _ c.put_column.ensures
