use Rattle.std.proofs.Common.{◌≡◌, ◌≤◌, length}
use Rattle.config_text.specs.Spelled.{figure_from}
use Rattle.config_text.specs.declared.spelled.TheConstants.{MOST_FIGURE}
use Rattle.config_text.proofs.spelled.figure.Given as goal

abbrev pub invariant-digits : goal.invariant-digits
invariant-digits l = record {
  bound : l.value ≤ MOST_FIGURE;
  value : figure_from l.value l.left ≡ figure_from 0 l.word;
}

abbrev pub decreases-digits : goal.decreases-digits
decreases-digits l = length l.left
