use Rattle.std.proofs.Common.{rules, ◌≡◌, ◌-◌, ◌≤◌, ◌∙◌, ℕ, Option, Some}
use Rattle.std.proofs.Common.{IfSome, ap, sym, subst, arith}
use Rattle.std.specs.Borrow.{Bor}
use Rattle.std.specs.Prelude.{slice_get}
use Rattle.fleet_model.specs.Keys.{row_worth}
use Rattle.book_rows.specs.Placed.{found_in}
use Rattle.book_rows.specs.Shown.{as_arrival, rows_worth}
use Rattle.peer_rows.specs.declared.row.Held.{Held}
use Rattle.peer_rows.specs.declared.row.Row.{Row}
use Rattle.book_machine.proofs.nothing.nothing_from.Goals as goal

abbrev Told : Type 0
Told = Option (Bor Row × Held) × ℕ

pub returns : goal.returns
returns c =
    let cols = c.args.cols.now in
    let col = c.args.col in
    let at = c.in_ok-known.at in
    let place : found_in cols col ≡ Some (c.in_ok-place.place, c.in_ok-place.period) =
    search rules in
    let told : c.last_of.result ≡ Some (c.in_ok-known.known, at) = search rules in
    let last = c.in_ok-last.last in
    let held = c.in_ok-last.held in
    let some : c.in_ok-known.known ≡ Some (last, held) = search rules in
    let kept : IfSome c.in_ok-known.known (λ (own : Bor Row × Held).
    slice_get own.0.now.cells c.in_ok-place.place ≡ Some own.1) =
    subst (λ (o : Option Told). IfSome o (λ told. IfSome told.0
    (λ own. slice_get own.0.now.cells c.in_ok-place.place ≡ Some own.1))) told
    c.last_of.ensures.held in
    let holds : slice_get last.now.cells c.in_ok-place.place ≡ Some held =
    subst (λ (o : Option (Bor Row × Held)). IfSome o (λ own.
    slice_get own.0.now.cells c.in_ok-place.place ≡ Some own.1)) some kept in
    let own : c.held_worth.result ≡ row_worth cols col (at - 1) (as_arrival last.now) =
    c.held_worth.ensures cols col c.in_ok-place.place place holds in
    let one : IfSome c.in_ok-known.known (λ (own : Bor Row × Held). row_worth cols col (at - 1)
    (as_arrival own.0.now) ≤ rows_worth cols col (at - 1) c.duplicate.result) =
    subst (λ (o : Option Told). IfSome o (λ last. IfSome last.0 (λ own. row_worth cols col (at - 1)
    (as_arrival own.0.now) ≤ rows_worth cols col (at - 1) c.duplicate.result))) told
    (c.last_of.ensures.one cols col (at - 1)) in
    let under : row_worth cols col (at - 1) (as_arrival last.now)
    ≤ rows_worth cols col (at - 1) c.duplicate.result =
    subst (λ (o : Option (Bor Row × Held)). IfSome o (λ own. row_worth cols col (at - 1)
    (as_arrival own.0.now) ≤ rows_worth cols col (at - 1) c.duplicate.result)) some one in
    let gone : at ≤ at → rows_worth cols col at c.duplicate.result ≡ 0 =
    subst (λ (o : Option Told). IfSome o (λ last. last.1 ≤ at
    → rows_worth cols col at c.duplicate.result ≡ 0)) told
    (c.last_of.ensures.over cols col at place) in
    let nothing : rows_worth cols col at c.args.rows.now ≡ 0 =
    sym (ap (rows_worth cols col at) c.duplicate.ensures) ∙ gone (omega arith) in
    let same : rows_worth cols col (at - 1) c.duplicate.result
    ≡ rows_worth cols col (at - 1) c.args.rows.now =
    ap (rows_worth cols col (at - 1)) c.duplicate.ensures in
    record {
      later = omega arith;
      below = omega (arith, nothing);
      not_yet = omega (arith, own, under, same);
    }
