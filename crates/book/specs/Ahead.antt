-- A filter that is to be added, as it judges the keys of its table one by one.
use Rattle.std.specs.Prelude.{◌≡◌, ℕ, map}
use Rattle.std.specs.Cmp.Lexicographic.{slice_cmp}
use Rattle.std.specs.List.{AllByRecursion, IsDistinct}
use Rattle.std.specs.Map.{keys_of}
use Rattle.std.specs.Ordering.{eq_by_cmp, nat_cmp}
use Rattle.fleet_model.specs.Keys.{key_rows}
use Rattle.fleet_model.specs.State.{State}
use Rattle.peer_rows.specs.Places.{Keys}
use Rattle.standing_filters.specs.Laws.{AreVerdictsBut}
use Rattle.standing_filters.specs.Watched.{Watched}
use Rattle.book.specs.Verdicts.{living_in, sums_in}
use Rattle.book_rows.specs.Shown.{of_peer}

-- keys of a table that lie ahead, each once with its rows; every other has its verdict
pub record AreAhead (state : State) (table : ℕ) (walk : Keys) (w : Watched) : Type 0 where
  pub once : IsDistinct (eq_by_cmp (slice_cmp nat_cmp)) (keys_of walk)
  pub rows : AllByRecursion
      (λ e. map (of_peer table e.0) e.1 ≡ key_rows state.rows table e.0) walk
  pub verdicts : AreVerdictsBut (sums_in state) (living_in state) state.moment (keys_of walk) w
