use Rattle.std.proofs.Common.{◌≡◌, length}
use Rattle.line_words.specs.Words.{parts}
use Rattle.haproxy_cfg.specs.Tables.{in_list}
use Rattle.haproxy_cfg.proofs.tables.in_list.Given as goal

abbrev pub invariant-items : goal.invariant-items
invariant-items l = in_list l.col (parts 44 l.left) ≡ in_list l.col (parts 44 l.list)

abbrev pub decreases-items : goal.decreases-items
decreases-items l = length l.left
