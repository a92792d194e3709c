-- `vhead::head::read_in` meets its contract. Assumes nothing.
use Prim.Native.Nat.{◌*◌, ◌≤◌}
use native.Mathlib.Omega.{arith}
use mathlib.Core.Path.{sym, ap, subst, ◌∙◌}
use Rattle.std.proofs.lemmas.Result.{err_from_is_err_and}
use lib.ListN.{length}
use Rattle.answer.specs.Search.{miss}
use Rattle.directory.specs.Lookup.{find_in}
use Rattle.vhead.specs.Limits.{head_tag}
use Rattle.vhead.specs.Heads.{head_in}
use Rattle.vhead.specs.Steps.{HeadHeld}
use Rattle.vhead.proofs.HeadsRead
use Rattle.vhead.proofs.head.read_in.Goals as goal
use Rattle.vhead.proofs.head.read_in.Goals.{In_ok-found}

-- room for the fields of the head that was found
enough : (c : In_ok-found) → let a = c.args in let n = c.in_ok-found.found.head.fields in
    (4 * n ≤ length a.fields.now) × (2 * n ≤ length a.names.now)
enough c = let a = c.args in HeadsRead.enough a.image.now miss a.fields.now a.names.now _ c.min-room.ensures _ c.in_ok-found.ensures.held.fits

pub returns-in_err-found : goal.returns-in_err-found
returns-in_err-found c =
    let p = err_from_is_err_and c.from_residual.result c.from_residual.ensures.1 in
    let f = c.find_in in
    rw (p.1, p.2) (record { answer = HeadsRead.left _ _ _ _ _ c.min-room.ensures _ f.ensures.answer _ c.in_err-found.was; held = tt })

pub put_fields-requires : goal.put_fields-requires
put_fields-requires c =
    let k = c.in_ok-found.ensures.held in
    (ap (λ h. h.fields) k.parsed ∙ ap (λ e. (head_in e).fields) (sym c.part-part.ensures), k.few, (enough (goal.at.put_fields-requires c).In_ok-found).0)

pub put_names-requires : goal.put_names-requires
put_names-requires c =
    let k = c.in_ok-found.ensures.held in
    (ap (λ h. h.fields) k.parsed ∙ ap (λ e. (head_in e).fields) (sym c.part-part.ensures), k.few, (enough (goal.at.put_names-requires c).In_ok-found).1, omega (arith, k.inside, k.short))

pub returns : goal.returns
returns c =
    let a = c.args in
    let k = c.in_ok-found.ensures.held in
    let x = c.in_ok-found.found in
    let rooms = c.min-room.ensures in
    record {
      answer = HeadsRead.listed _ _ _ _ _ rooms _ c.find_in.ensures.answer _ _ _ c.in_ok-found.was k _ c.part-part.ensures _ _ c.put_fields.ensures c.put_names.ensures;
      held = subst (λ n. HeadHeld a.image.now (find_in a.image.now a.blocks head_tag a.reference) n x.start x.size x.head) rooms k;
    }
