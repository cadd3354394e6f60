use Rattle.std.proofs.Common.{rules, ◌≡◌, ◌∙◌, Some, None, ap, sym, true, arith}
use Rattle.fleet_model.specs.Moments.{is_live}
use Rattle.fleet_model.specs.Values.{cell_worth}
use Rattle.book_rows.specs.Shown.{as_arrival, cell_of}
use Rattle.book_rows.proofs.Placing.{row_holds, row_lives}
use Rattle.book_rows.proofs.values.row_worth.Goals as goal

pub returns-in-None : goal.returns-in-None
returns-in-None c = λ cols col is.
    let lives : is_live c.args.t (as_arrival c.args.row.now) ≡ true = search rules in
    row_lives cols col c.args.t c.args.row.now None lives (sym c.in-None.is ∙ is)

pub returns-in-None-get : goal.returns-in-None-get
returns-in-None-get c = λ cols col is.
    let lives : is_live c.args.t (as_arrival c.args.row.now) ≡ true = search rules in
    let some : c.args.found ≡ Some (c.in-Some.place, c.in-Some.period) = search rules in
    row_holds cols col c.args.t c.args.row.now c.args.found c.in-Some.place c.in-Some.period None
    lives is some (sym c.in-None-get.is ∙ c.get.ensures)

pub returns-in-Some-get : goal.returns-in-Some-get
returns-in-Some-get c = λ cols col is.
    let lives : is_live c.args.t (as_arrival c.args.row.now) ≡ true = search rules in
    let some : c.args.found ≡ Some (c.in-Some.place, c.in-Some.period) = search rules in
    c.cell_worth.ensures
    ∙ ap (λ arrived. cell_worth c.in-Some.period c.saturating_sub.result
    (cell_of arrived c.in-Some-get.held)) c.arrived.ensures
    ∙ ap (λ since. cell_worth c.in-Some.period since (cell_of c.args.row.now.arrived
    c.in-Some-get.held)) (omega arith)
    ∙ row_holds cols col c.args.t c.args.row.now c.args.found c.in-Some.place c.in-Some.period
    (Some c.in-Some-get.held) lives is some (sym c.in-Some-get.is ∙ c.get.ensures)
