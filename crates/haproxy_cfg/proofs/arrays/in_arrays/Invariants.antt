use Rattle.std.proofs.Common.{◌≡◌, length}
use Rattle.line_words.specs.Words.{parts}
use Rattle.haproxy_cfg.specs.Arrays.{in_arrays}
use Rattle.haproxy_cfg.proofs.arrays.in_arrays.Given as goal

abbrev pub invariant-items : goal.invariant-items
invariant-items l = in_arrays l.col (parts 44 l.left) ≡ in_arrays l.col (parts 44 l.list)

abbrev pub decreases-items : goal.decreases-items
decreases-items l = length l.left
