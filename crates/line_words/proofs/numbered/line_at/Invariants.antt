use Rattle.std.proofs.Common.{◌≡◌, ◌-◌, [], length}
use Rattle.std.specs.Prelude.{slice_index_or}
use Rattle.line_words.specs.Words.{lines_of}
use Rattle.line_words.proofs.numbered.line_at.Given as goal

-- the line wanted is as far ahead of what is left
abbrev pub invariant-lines : goal.invariant-lines
invariant-lines l = slice_index_or (lines_of l.left) l.ahead []
    ≡ slice_index_or (lines_of l.text) (l.number - 1) []

abbrev pub decreases-lines : goal.decreases-lines
decreases-lines l = length l.left
