use Rattle.std.proofs.Common.{◌≡◌, take}
use Rattle.line_words.specs.Words.{words}
use Rattle.haproxy_cfg.specs.Tables.{cols_by}
use Rattle.haproxy_cfg.proofs.tables.cols_by.Given as goal

abbrev pub invariant-loop-col : goal.invariant-loop-col
invariant-loop-col l = l.cols ≡ cols_by (take l.col-index l.order) (words l.line)
