use Rattle.std.proofs.Common.{◌≡◌, length}
use Rattle.line_words.specs.Words.{parts}
use Rattle.agg_config.specs.Columns.{item}
use Rattle.agg_config.specs.ReadResults.{read_each}
use Rattle.agg_config.proofs.Each.{with_front}
use Rattle.agg_config.proofs.columns.items.Given as goal

abbrev pub invariant-items : goal.invariant-items
invariant-items l = with_front l.cols.items (read_each (item l.place) (parts 44 l.left))
    ≡ read_each (item l.place) (parts 44 l.list)

abbrev pub decreases-items : goal.decreases-items
decreases-items l = length l.left
