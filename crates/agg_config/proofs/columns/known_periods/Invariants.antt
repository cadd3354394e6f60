use Rattle.std.proofs.Common.{◌≡◌, drop}
use Rattle.agg_config.specs.Columns.{known_period}
use Rattle.agg_config.specs.ReadResults.{read_each}
use Rattle.agg_config.proofs.Each.{with_front}
use Rattle.agg_config.proofs.columns.known_periods.Given as goal

abbrev pub invariant-loop-col : goal.invariant-loop-col
invariant-loop-col l = with_front l.known.items (read_each known_period (drop l.col-index l.cols))
    ≡ read_each known_period l.cols
