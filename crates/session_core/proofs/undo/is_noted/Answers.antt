use Rattle.std.proofs.Common.{◌≡◌}
use Rattle.std.proofs.lemmas.Bool.{eqb-true}
use Rattle.session_core.proofs.UndoLemmas.{noted_again}
use Rattle.session_core.proofs.undo.is_noted.Goals as goal

pub returns-in-Some-Replaced-default : goal.returns-in-Some-Replaced-default
returns-in-Some-Replaced-default c same entries next =
    let case = c.in-Some-Replaced-default in
    let place : case.place ≡ c.args.at = eqb-true case.place c.args.at same in
    let last = rw (case.field-0-0-is, place) at case.ensures.cases.0 in
    noted_again c.args.changes.now case.field-0-1.now c.args.at case.field-0-0-1 next entries last
