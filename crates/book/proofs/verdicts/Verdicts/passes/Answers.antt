use Rattle.std.proofs.Common.{◌≡◌, ◌∙◌, ap, map, subst, Option}
use Rattle.fleet_model.specs.Keys.{key_rows}
use Rattle.fleet_model.specs.State.{State}
use Rattle.fleet_model.specs.Values.{cols_of}
use Rattle.screens.specs.Asked.{IsScreen}
use Rattle.screens.specs.declared.screens.Screens.{Screens}
use Rattle.std.specs.Prelude.{IfSome}
use Rattle.book_rows.specs.Shown.{of_peer}
use Rattle.book.proofs.Screening.{meets_none}
use Rattle.book.proofs.verdicts.Verdicts.passes.Goals as goal

pub returns-in-Some-of_key_at-clause-unmet : goal.returns-in-Some-of_key_at-clause-unmet
returns-in-Some-of_key_at-clause-unmet c = λ stopped.
    let state : State = c.args.machine.now in
    meets_none state c.args.table c.args.key.now c.in-Some.screens c.in-Some-of_key_at.rows
    (c.in-Some-of_key_at.ensures.value
    ∙ ap (λ (s : State). key_rows s.rows c.args.table c.args.key.now) c.machine.view_is)
    (subst (λ (o : Option Screens). IfSome o (IsScreen (cols_of state.config.tables c.args.table)
    state.config.filters c.args.table)) c.in-Some.is c.requires)
    (c.stop.ensures stopped)
