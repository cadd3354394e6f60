use Rattle.std.proofs.Common.{◌≡◌, drop}
use Rattle.line_words.specs.Words.{words}
use Rattle.line_words.proofs.parts.without_spaces.Given as goal

abbrev pub invariant-loop-i : goal.invariant-loop-i
invariant-loop-i l = words (drop l.i l.line) ≡ words l.line
