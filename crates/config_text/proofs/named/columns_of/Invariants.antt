use Rattle.std.proofs.Common.{◌≡◌, length, take}
use Rattle.line_words.specs.Words.{lines_of}
use Rattle.config_text.specs.Named.{columns_of}
use Rattle.config_text.proofs.named.columns_of.Given as goal

abbrev pub invariant-lines : goal.invariant-lines
invariant-lines l = columns_of l.table (take l.ahead (lines_of l.left))
    ≡ columns_of l.table (take l.count (lines_of l.text))

abbrev pub decreases-lines : goal.decreases-lines
decreases-lines l = length l.left
