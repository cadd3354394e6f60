-- The lines that an answer may have, of which a refusal's is none.
use Rattle.std.specs.Prelude.{◌≡◌, ℕ, Bool, true, ◌&&◌, not, ◌==◌, nat_eq, List, [], ◌∷◌, ◌++◌}
use Rattle.std.specs.Prelude.{codes, length}
use Rattle.std.specs.List.{flat_map, list_all, starts_with}
use Rattle.line_words.specs.Words.{lines_of}

-- whether a line may stand in an answer: it isn't empty, and doesn't begin as a refusal's does
abbrev pub is_answer_line : List ℕ → Bool
is_answer_line line = not (length line == 0) && not (starts_with nat_eq line (codes "refused "))

-- a text is lines, each ended by LF, and each of them may stand in an answer
pub record AreAnswerLines (text : List ℕ) : Type 0 where
  pub whole : flat_map (λ line. line ++ 10 ∷ []) (lines_of text) ≡ text
  pub each : list_all is_answer_line (lines_of text) ≡ true
