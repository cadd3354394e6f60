use Rattle.std.proofs.Common.{◌≡◌, ◌++◌, drop}
use Rattle.std.specs.List.{flat_map}
use Rattle.config_text.specs.Spaced.{table_line}
use Rattle.config_text.proofs.lines.append_tables.Given as goal

-- what is written and what is left to write are all
abbrev pub invariant-loop-table : goal.invariant-loop-table
invariant-loop-table l =
    l.out.items ++ flat_map table_line (drop l.table-index l.tables)
    ≡ l.fn.out.items ++ flat_map table_line l.tables
