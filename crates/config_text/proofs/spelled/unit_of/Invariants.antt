use Rattle.std.proofs.Common.{◌≡◌, length}
use Rattle.config_text.specs.Spelled.{unit_of}
use Rattle.config_text.proofs.spelled.unit_of.Given as goal

abbrev pub invariant-digits : goal.invariant-digits
invariant-digits l = unit_of l.left ≡ unit_of l.word

abbrev pub decreases-digits : goal.decreases-digits
decreases-digits l = length l.left
