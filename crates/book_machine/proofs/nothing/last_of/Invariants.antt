use Rattle.std.proofs.Common.{◌≡◌, ℕ, ◌≤◌, List, IfSome, Some}
use Rattle.std.specs.Prelude.{slice_get}
use Rattle.agg_types.specs.declared.column.Col.{Col}
use Rattle.fleet_model.specs.Keys.{row_worth}
use Rattle.book_rows.specs.Placed.{found_in}
use Rattle.book_rows.specs.Shown.{as_arrival, rows_worth}
use Rattle.book_machine.proofs.nothing.last_of.Given as goal

abbrev pub invariant-loop-row : goal.invariant-loop-row
invariant-loop-row l = record {
  among : (cols : List (Col × ℕ)) (col : Col) (t : ℕ) → rows_worth cols col t l.row-iterator
      ≤ rows_worth cols col t l.fn.rows;
  last : (cols : List (Col × ℕ)) (col : Col) (t : ℕ) → IfSome l.last
      (λ own. row_worth cols col t (as_arrival own.0.now) ≤ rows_worth cols col t l.fn.rows);
  held : IfSome l.last (λ own. slice_get own.0.now.cells l.fn.place ≡ Some own.1);
  over : (cols : List (Col × ℕ)) (col : Col) (t : ℕ)
      → found_in cols col ≡ Some (l.fn.place, l.fn.period) → l.latest ≤ t
      → rows_worth cols col t l.fn.rows ≡ rows_worth cols col t l.row-iterator;
}
