use Rattle.std.proofs.Common.{◌≡◌, drop, length}
use Rattle.line_words.specs.Words.{lines_of}
use Rattle.config_text.proofs.explained.behind_lines.Given as goal

-- the lines wanted are as far ahead of what is left
abbrev pub invariant-lines : goal.invariant-lines
invariant-lines l = drop l.ahead (lines_of l.left) ≡ drop l.count (lines_of l.text)

abbrev pub decreases-lines : goal.decreases-lines
decreases-lines l = length l.left
