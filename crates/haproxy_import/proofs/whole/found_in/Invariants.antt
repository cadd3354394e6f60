use Rattle.std.proofs.Common.{◌≡◌, fold, length, option_map}
use Rattle.line_words.specs.Words.{lines_of}
use Rattle.haproxy_import.specs.Found.{behind, found, said}
use Rattle.haproxy_import.proofs.whole.found_in.Given as goal

abbrev pub invariant-lines : goal.invariant-lines
invariant-lines l = fold (λ state line. behind state (said line)) l.found (lines_of l.left)
    ≡ found (option_map (λ name. name.now) l.me) (lines_of l.text)

abbrev pub decreases-lines : goal.decreases-lines
decreases-lines l = length l.left
