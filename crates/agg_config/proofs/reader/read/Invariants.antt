use Rattle.std.proofs.Common.{◌≡◌, ◌+◌, ◌≤◌, ◌++◌, List, ℕ, length}
use Rattle.line_words.specs.Words.{lines_of}
use Rattle.agg_config.specs.Lines.{HasRead, lines_read}
use Rattle.agg_config.proofs.reader.read.Given as goal

-- the lines so far were read, and the others are left
pub record Parted (text left : List ℕ) (Has : List (List ℕ) → Type 0) : Type 0 where
  pub before : List (List ℕ)
  pub has : Has before
  pub whole : before ++ lines_of left ≡ lines_of text

abbrev pub invariant-lines : goal.invariant-lines
invariant-lines l = record {
  parted : Parted l.text l.left (HasRead l.reader);
  room : lines_read l.reader + length l.left ≤ length l.text;
}

abbrev pub decreases-lines : goal.decreases-lines
decreases-lines l = length l.left
