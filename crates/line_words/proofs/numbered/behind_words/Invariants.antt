use Rattle.std.proofs.Common.{◌≡◌, drop, length}
use Rattle.line_words.specs.Words.{words}
use Rattle.line_words.proofs.numbered.behind_words.Given as goal

-- the words wanted are as far ahead of what is left
abbrev pub invariant-words : goal.invariant-words
invariant-words l = drop l.ahead (words l.left) ≡ drop l.count (words l.line)

abbrev pub decreases-words : goal.decreases-words
decreases-words l = length l.left
