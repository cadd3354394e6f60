-- A script is cut at its line `start`.
use Rattle.std.specs.Prelude.{◌≡◌, ℕ, ◌+◌, List, [], length, take, drop, slice_index_or, Option}
use Rattle.std.specs.Prelude.{None, Some}
use Rattle.agg_config.specs.Lines.{HasRead}
use Rattle.line_words.specs.Reader.{left_of}
use Rattle.replay.specs.Script.{opening_of}
use Rattle.replay.specs.declared.start.Start.{Start}

-- the lines before a line `start` are read; its number, what it says, and the lines behind it
pub record Cuts (lines : List (List ℕ)) (at : ℕ) (rest : List (List ℕ)) (start : Start)
    : Type 0 where
  pub before : HasRead start.config (take at lines)
  pub number : start.number ≡ at + 1
  pub opening : start.opening ≡ opening_of (left_of (slice_index_or lines at []))
  pub behind : rest ≡ drop (at + 1) lines

-- a script is cut at its first line `start`, or has none
abbrev pub IsCutAt : List (List ℕ) → Option ℕ → List (List ℕ) → Start → Type 0
IsCutAt lines None rest start = (start.number ≡ length lines + 1) × (start.opening ≡ None)
IsCutAt lines (Some at) rest start = Cuts lines at rest start
