use Rattle.std.proofs.Common.{◌≡◌, length}
use Rattle.line_words.specs.Words.{words}
use Rattle.haproxy_cfg.specs.Arrays.{array_behind}
use Rattle.haproxy_cfg.proofs.arrays.array_behind.Given as goal

abbrev pub invariant-words : goal.invariant-words
invariant-words l = array_behind l.col (words l.left) ≡ array_behind l.col (words l.line)

abbrev pub decreases-words : goal.decreases-words
decreases-words l = length l.left
