use Rattle.std.proofs.Common.{◌≡◌, drop}
use Rattle.agg_config.specs.Filters.{known_bound}
use Rattle.agg_config.specs.ReadResults.{read_each}
use Rattle.agg_config.proofs.Each.{with_front}
use Rattle.agg_config.proofs.filters.known_bounds.Given as goal

abbrev pub invariant-loop-cond : goal.invariant-loop-cond
invariant-loop-cond l = with_front l.known.items (read_each known_bound (drop l.cond-index l.conds))
    ≡ read_each known_bound l.conds
