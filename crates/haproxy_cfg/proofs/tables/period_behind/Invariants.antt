use Rattle.std.proofs.Common.{◌≡◌, length}
use Rattle.line_words.specs.Words.{words}
use Rattle.haproxy_cfg.specs.Tables.{period_behind}
use Rattle.haproxy_cfg.proofs.tables.period_behind.Given as goal

abbrev pub invariant-words : goal.invariant-words
invariant-words l = period_behind l.col (words l.left) ≡ period_behind l.col (words l.line)

abbrev pub decreases-words : goal.decreases-words
decreases-words l = length l.left
