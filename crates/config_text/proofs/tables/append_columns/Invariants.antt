use Rattle.std.proofs.Common.{◌≡◌, ◌++◌, drop}
use Rattle.std.specs.List.{flat_map}
use Rattle.config_text.specs.Spaced.{column_behind}
use Rattle.config_text.proofs.tables.append_columns.Given as goal

-- what is written and what is left to write are all
abbrev pub invariant-loop-col : goal.invariant-loop-col
invariant-loop-col l =
    l.out.items ++ flat_map column_behind (drop l.col-index l.cols)
    ≡ l.fn.out.items ++ flat_map column_behind l.cols
