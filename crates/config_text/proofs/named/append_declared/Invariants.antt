use Rattle.std.proofs.Common.{◌≡◌, ◌++◌, length}
use Rattle.line_words.specs.Words.{lines_of}
use Rattle.config_text.specs.Named.{listed, names_in, start}
use Rattle.config_text.proofs.named.append_declared.Given as goal

abbrev pub invariant-lines : goal.invariant-lines
invariant-lines l =
    l.out.items ++ listed l.label l.listing (names_in l.kind l.ahead (lines_of l.left))
    ≡ l.fn.out.items ++ listed l.label start (names_in l.kind l.count (lines_of l.text))

abbrev pub decreases-lines : goal.decreases-lines
decreases-lines l = length l.left
