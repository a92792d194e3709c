-- `storage::view::numbers` meets its contract. Assumes nothing.
use mathlib.Core.Path.{◌≡◌, sym, ap, ◌∙◌}
use Rattle.std.proofs.lemmas.Result.{err_from_is_err_and}
use Rattle.storage.specs.Views.{viewed_numbers, view_of}
use Rattle.directory.proofs.Opens
use Rattle.storage.proofs.Views
use Rattle.storage.proofs.view.numbers.Goals as goal
use Rattle.storage.proofs.view.numbers.Goals.{After-locate}

pub returns-in_default : goal.returns-in_default
unfolding view_of
returns-in_default c = sym (Opens.refused_is _ _ c.open-opened.ensures 2 _ _ c.unwrap_err.ensures)

-- what was located is the answer
located : (c : After-locate) → let a = c.args in viewed_numbers c.locate.result ≡ view_of a.image.now a.tag a.reference
located c = Views.view_opened _ _ _ _ (Opens.accepted_with _ _ c.open-opened.ensures _ c.in-Ok.is) _ c.locate.ensures

pub returns-in_err-found : goal.returns-in_err-found
returns-in_err-found c =
    let p = err_from_is_err_and c.from_residual.result c.from_residual.ensures.1 in
    rw (p.1, p.2) (sym (ap viewed_numbers c.in_err-found.was) ∙ located (goal.at.returns-in_err-found c).After-locate)

pub returns : goal.returns
returns c = sym (ap viewed_numbers c.in_ok-found.was) ∙ located (goal.at.returns c).After-locate
