use Rattle.std.proofs.Common.{◌≡◌, ◌-◌}
use Rattle.agg_config.specs.Filters.{conditions}
use Rattle.agg_config.proofs.Each.{with_front}
use Rattle.agg_config.proofs.filters.conditions.Given as goal

abbrev pub invariant-loop : goal.invariant-loop
invariant-loop l = with_front l.conds.items (conditions (4 - l.counter) l.words)
    ≡ conditions 4 l.fn.words
