use Rattle.std.proofs.Common.{rules, ◌≡◌, ◌<◌, ◌^◌, ℕ, List, Option, Some}
use Rattle.std.proofs.Common.{IfSome, subst, arith}
use Rattle.std.specs.Borrow.{Bor}
use Rattle.crossing.specs.First.{IsDropAt}
use Rattle.book_rows.specs.Shown.{found_worth, rows_worth}
use Rattle.peer_rows.specs.declared.row.Row.{Row}
use Rattle.book_machine.proofs.FoundAhead.{drop_of_found}
use Rattle.book_machine.proofs.nothing.found_drop.Goals as goal

pub returns-in-Some : goal.returns-in-Some
returns-in-Some c = λ all table key are.
    let cols = c.args.cols.now in
    let col = c.args.col in
    let told = c.nothing_from.result in
    let one : 1 ≡ c.args.bound = omega arith in
    let fits : IfSome told (λ t. t < 2 ^ 64) = search rules in
    let some : Some c.in-Some.rows ≡ c.args.rows = search rules in
    let drop = subst (λ (o : Option (Bor (List (ℕ × Row)))). IfSome told
    (IsDropAt c.args.from (λ t. found_worth cols col t o) c.args.bound)) some
    (subst (λ (n : ℕ). IfSome told
    (IsDropAt c.args.from (λ t. rows_worth cols col t c.in-Some.rows.now) n)) one
    c.nothing_from.ensures) in
    drop_of_found told all table key cols col c.args.from c.args.bound c.args.rows fits are drop
