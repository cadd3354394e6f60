use Rattle.std.proofs.Common.{rules, ◌≡◌, ◌+◌, ◌-◌, ◌*◌, ◌∙◌, true, false}
use Rattle.std.proofs.Common.{Some, nat_lt, refl, arith}
use Rattle.std.proofs.lemmas.Bool.Decides.{nat_tests}
use Rattle.std.specs.Prelude.{slice_get}
use Rattle.fleet_model.specs.Keys.{row_worth}
use Rattle.fleet_model.specs.Moments.{is_live}
use Rattle.period_rate.specs.Rate.{elapsed_at}
use Rattle.peer_rows.specs.declared.row.Held.TheVariants.{Rate}
use Rattle.book_rows.specs.Shown.{as_arrival}
use Rattle.book_rows.proofs.Placing.{ended_row, rate_over}
use Rattle.book_machine.proofs.nothing.over_from.Goals as goal

pub returns-in-None-clause-over : goal.returns-in-None-clause-over
returns-in-None-clause-over c = λ cols col t place over.
    let holds : Some (Rate c.in-Some-Rate.rate) ≡ slice_get c.args.row.now.cells c.args.place =
    search rules in
    rate_over cols col t c.args.place c.args.period c.args.row.now c.in-Some-Rate.rate place holds
    (omega arith)

pub returns-in-Some-clause-over : goal.returns-in-Some-clause-over
returns-in-Some-clause-over c = λ cols col t place over.
    let row = c.args.row.now in
    let holds : Some (Rate c.in-Some-Rate.rate) ≡ slice_get row.cells c.args.place = search rules in
    let end : is_live t (as_arrival row) ≡ nat_lt t c.in-Some.end = search rules in
    let told : c.saturating_sub-over.result ≡ row.arrived + (2 * c.args.period + 1)
    - elapsed_at c.in-Some-Rate.rate row.arrived = omega arith in
    elim (nat_lt t c.in-Some.end) as (λ b. nat_lt t c.in-Some.end ≡ b
    → row_worth cols col t (as_arrival row) ≡ 0) [
      | true ↦ λ e. rate_over cols col t c.args.place c.args.period row c.in-Some-Rate.rate place
          holds (grind (arith, nat_tests, told, over, e))
      | false ↦ λ e. ended_row cols col t row (end ∙ e)
    ] refl
