use Rattle.std.proofs.Common.{◌≡◌, drop, fold}
use Rattle.web_text.specs.Standing.{rows_together, with_rows}
use Rattle.web_text.proofs.summary.together.Given as goal

-- what was added and what is left are all
abbrev pub invariant-loop-table : goal.invariant-loop-table
invariant-loop-table l =
    fold with_rows l.held (drop l.table-index l.tables) ≡ rows_together l.tables
