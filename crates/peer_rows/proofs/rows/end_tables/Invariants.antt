use Rattle.std.proofs.Common.{◌≡◌, ◌<◌, ◌≤◌, ℕ, slice_get}
use Rattle.std.specs.Option.{option_map}
use Rattle.peer_rows.specs.Ends.{ended}
use Rattle.peer_rows.proofs.rows.end_tables.Given as goal

abbrev pub invariant-loop-table : goal.invariant-loop-table
invariant-loop-table l = record {
  done : (i : ℕ) → i < l.table
      → slice_get l.tables.items i ≡ option_map (ended l.t) (slice_get l.fn.tables.items i);
  still : (i : ℕ) → l.table ≤ i → slice_get l.tables.items i ≡ slice_get l.fn.tables.items i;
}
