-- Lines and words by their numbers.
use Rattle.std.specs.Prelude.{ℕ, ◌-◌, List, [], slice_index_or}

-- the line of this number, from 1; empty where there is none
abbrev pub line_at : ℕ → List (List ℕ) → List ℕ
line_at number lines = slice_index_or lines (number - 1) []

-- the word of this number, from 1; empty where there is none
abbrev pub word_at : ℕ → List (List ℕ) → List ℕ
word_at number words = slice_index_or words (number - 1) []
