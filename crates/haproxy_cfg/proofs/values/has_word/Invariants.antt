use Rattle.std.proofs.Common.{◌≡◌, length}
use Rattle.std.specs.List.{list_any}
use Rattle.std.specs.Str.{bytes_eq}
use Rattle.line_words.specs.Words.{words}
use Rattle.haproxy_cfg.proofs.values.has_word.Given as goal

abbrev pub invariant-words : goal.invariant-words
invariant-words l = list_any (λ word. bytes_eq word l.wanted) (words l.left)
    ≡ list_any (λ word. bytes_eq word l.wanted) (words l.line)

abbrev pub decreases-words : goal.decreases-words
decreases-words l = length l.left
