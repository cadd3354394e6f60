use Rattle.std.proofs.Common.{◌≡◌, length}
use Rattle.line_words.specs.Words.{words}
use Rattle.haproxy_cfg.specs.Values.{behind_word}
use Rattle.haproxy_cfg.proofs.values.value_of.Given as goal

abbrev pub invariant-words : goal.invariant-words
invariant-words l = behind_word l.key (words l.left) ≡ behind_word l.key (words l.line)

abbrev pub decreases-words : goal.decreases-words
decreases-words l = length l.left
