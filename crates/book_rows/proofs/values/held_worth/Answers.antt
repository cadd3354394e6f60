use Rattle.std.proofs.Common.{rules, ◌≡◌, ◌∙◌, Some, ap, refl, sym, true, arith}
use Rattle.fleet_model.specs.Moments.{is_live}
use Rattle.fleet_model.specs.Values.{cell_worth}
use Rattle.book_rows.specs.Placed.{found_in}
use Rattle.book_rows.specs.Shown.{as_arrival, cell_of}
use Rattle.book_rows.proofs.Placing.{row_holds}
use Rattle.book_rows.proofs.values.held_worth.Goals as goal

pub returns : goal.returns
returns c = λ cols col place is holds.
    let lives : is_live c.args.t (as_arrival c.args.row.now) ≡ true = search rules in
    c.cell_worth.ensures
    ∙ ap (λ arrived. cell_worth c.args.period c.saturating_sub.result
    (cell_of arrived c.args.held)) c.arrived.ensures
    ∙ ap (λ since. cell_worth c.args.period since (cell_of c.args.row.now.arrived c.args.held))
    (omega arith)
    ∙ row_holds cols col c.args.t c.args.row.now (found_in cols col) place c.args.period
    (Some c.args.held) lives refl is (sym holds)
