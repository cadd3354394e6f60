use Rattle.std.proofs.Common.{◌≡◌, length}
use Rattle.line_words.specs.Words.{parts}
use Rattle.config_text.specs.Spelled.{period_in}
use Rattle.config_text.proofs.spelled.period_in.Given as goal

abbrev pub invariant-items : goal.invariant-items
invariant-items l = period_in (parts 44 l.left) ≡ period_in (parts 44 l.list)

abbrev pub decreases-items : goal.decreases-items
decreases-items l = length l.left
