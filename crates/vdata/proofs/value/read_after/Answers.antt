-- `vdata::value::read_after` meets its contract. Assumes nothing.
use Prim.Native.Nat.{◌<◌}
use native.Mathlib.Omega.{arith}
use mathlib.Core.Path.{◌≡◌, refl, sym, ap, ◌∙◌}
use Rattle.vhead.specs.Heads.{head_in, field_at}
use Rattle.std.proofs.lemmas.Result.{err_from_is_err_and}
use Rattle.answer.specs.Refusals.{fault_of}
use Rattle.vhead.proofs.Heads
use Rattle.vdata.specs.Values.{index_fault}
use Rattle.vdata.proofs.Values
use Rattle.vdata.proofs.value.read_after.Goals as goal
use Rattle.vdata.proofs.value.read_after.Goals.{In_ok-check_index}

-- the indices break no rule
inside : (c : In_ok-check_index) → let a = c.args in let e = a.part.now in index_fault (head_in e) (field_at e (head_in e) a.field) a.«record» a.field a.component ≡ 0
inside c = sym (Values.same_fault _ _ c.parse-h.ensures _ _ _ _ c.check_index.ensures) ∙ ap fault_of c.in_ok-check_index.was

-- the numbers of the head are small
small : (c : In_ok-check_index) → let h = c.parse-h.result in (h.records < 4294967296) × (h.record_size < 65536)
small c = Values.head_small _ _ c.parse-h.ensures (λ k. (c.type_inv.part k).fits)

pub returns-in_err-check_index : goal.returns-in_err-check_index
returns-in_err-check_index c =
    let p = err_from_is_err_and c.from_residual.result c.from_residual.ensures.1 in
    rw (p.1, p.2)
    (Values.after_index _ _ _ _ _ _ _ (sym (ap fault_of c.in_err-check_index.was) ∙ Values.same_fault _ _ c.parse-h.ensures _ _ _ _ c.check_index.ensures) _)

pub returns-in_err-found : goal.returns-in_err-found
returns-in_err-found c =
    let r = c.from_residual-in_err-found in
    let p = err_from_is_err_and r.result r.ensures.1 in
    rw (p.1, p.2) (Values.after_refused _ _ _ _ _ _ (inside (goal.at.returns-in_err-found c).In_ok-check_index) _ c.locate.ensures _ c.in_err-found.was _)

pub overflow_mul-h : goal.overflow_mul-h
overflow_mul-h c = let x = small (goal.at.overflow_mul-h c).In_ok-check_index in omega (arith, Values.small_product _ _ x.0 x.1)

pub returns-then-values-h : goal.returns-then-values-h
returns-then-values-h c =
    rw c.at.ensures
    (Values.after_short _ _ _ _ _ _ (inside (goal.at.returns-then-values-h c).In_ok-check_index) _ c.locate.ensures _ c.in_ok-found.was _ c.part-values.ensures (rw c.parse-h.ensures at c.if-values-h.true) _)

pub overflow_cast-field : goal.overflow_cast-field
overflow_cast-field c =
    omega (arith, (Values.index_inside _ _ _ _ _ (inside (goal.at.overflow_cast-field c).In_ok-check_index)).1, Heads.fields_few c.args.part.now (λ k. (c.type_inv.part k).fits))

pub place-requires : goal.place-requires
place-requires c =
    let i = Values.index_inside _ _ _ _ _ (inside (goal.at.place-requires c).In_ok-check_index) in
    let x = small (goal.at.place-requires c).In_ok-check_index in
    Values.reach _ _ _ _ x.0 x.1 c.numbers_at-f.ensures.1 (omega (arith, i.0, ap (λ h. h.records) c.parse-h.ensures)) (omega (arith, i.2, ap (λ f. f.order) c.numbers_at-f.ensures.0))

pub returns : goal.returns
returns c =
    Values.after_given _ _ _ _ _ _ (inside (goal.at.returns c).In_ok-check_index) _ c.locate.ensures _ c.in_ok-found.was _ c.part-values.ensures (rw c.parse-h.ensures at c.if-values-h.false) _
    (Values.value_is _ _ c.parse-h.ensures _ _ c.numbers_at-f.ensures.0 _ _ refl _ _ _ c.place.ensures _ c.value_at.ensures)
