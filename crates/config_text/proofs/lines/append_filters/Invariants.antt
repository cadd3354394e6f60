use Rattle.std.proofs.Common.{◌≡◌, ◌++◌, drop}
use Rattle.std.specs.List.{flat_map}
use Rattle.config_text.specs.Spaced.{filter_line, filter_lines}
use Rattle.config_text.proofs.lines.append_filters.Given as goal

-- what is written and what is left to write are all
abbrev pub invariant-loop-filter : goal.invariant-loop-filter
invariant-loop-filter l =
    l.out.items ++ flat_map (filter_line l.config.tables) (drop l.filter-index l.config.filters)
    ≡ l.fn.out.items ++ filter_lines l.config
