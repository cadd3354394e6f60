use Rattle.std.proofs.Common.{◌≡◌}
use Rattle.fleet_model.specs.Filters.{dropped, is_added}
use Rattle.book_frame.proofs.standing.added_at.Given as goal

abbrev pub invariant-loop-place : goal.invariant-loop-place
invariant-loop-place l = record {
  same : dropped l.configured l.name l.filters ≡ dropped l.place l.name l.filters;
  there : is_added l.configured l.filters l.name ≡ is_added l.place l.filters l.name;
}
