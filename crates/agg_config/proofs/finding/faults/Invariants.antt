use Rattle.std.proofs.Common.{◌≡◌, ◌+◌, ◌≤◌, ◌++◌, List, ℕ, length}
use Rattle.line_words.specs.Words.{lines_of}
use Rattle.agg_config.specs.Faults.{AreFaults}
use Rattle.agg_config.specs.Lines.{HasJudged, lines_judged}
use Rattle.agg_config.specs.declared.causes.LineFault.{LineFault}
use Rattle.agg_config.proofs.finding.faults.Given as goal

-- the lines so far were judged, the faulty ones left blank, and the others are left; the faults so
-- far, and then those of these lines, are those of the text
pub record Parted (text left : List ℕ) (faults : List LineFault) (Has : List (List ℕ) → Type 0)
    : Type 0 where
  pub before : List (List ℕ)
  pub has : Has before
  pub whole : (others : List LineFault) → AreFaults (before ++ lines_of left) others
      → AreFaults (lines_of text) (faults ++ others)

abbrev pub invariant-lines : goal.invariant-lines
invariant-lines l = record {
  parted : Parted l.text l.left l.faults.items (HasJudged l.checker);
  room : lines_judged l.checker + length l.left ≤ length l.text;
}

abbrev pub decreases-lines : goal.decreases-lines
decreases-lines l = length l.left
