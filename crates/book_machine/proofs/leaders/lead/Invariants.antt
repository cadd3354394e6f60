use Rattle.std.proofs.Common.{ℕ, ◌<◌, Option}
use Rattle.agg_types.specs.Whats.{lent_cells}
use Rattle.fleet_model.specs.Machine.{with_row}
use Rattle.fleet_model.specs.Rows.{arrival_of}
use Rattle.ranked.specs.Leaders.{bounds_of}
use Rattle.book_machine.specs.Leading.{AreLed, IsLed, rank_at}
use Rattle.book_rows.specs.Planned.{place_at}
use Rattle.book_machine.proofs.leaders.lead.Given as goal

abbrev pub invariant-loop-list : goal.invariant-loop-list
invariant-loop-list l = record {
  led : AreLed l.tables l.ranks l.rows.rows l.t l.leaders;
  put : (life : Option ℕ) (other : ℕ) → other < l.list
      → IsLed l.tables (with_row l.t l.rows.rows (place_at l.at)
      (arrival_of l.tables l.at.table l.t life (lent_cells l.cells))) l.t (rank_at l.ranks other)
      (bounds_of l.leaders other);
}
