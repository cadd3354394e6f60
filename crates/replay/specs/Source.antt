-- The lines of a source, of which the first are taken one by one.
use Rattle.std.specs.Prelude.{◌≡◌, ⊤, ℕ, ◌≤◌, List, [], ◌++◌, length, Option, None, Some}
use Rattle.line_words.specs.Words.{lines_of}

-- a text's first line with its LF, or nothing where there is none, and what stands behind it
pub record FirstLine (text rest bytes : List ℕ) : Type 0 where
  pub parted : lines_of text ≡ lines_of bytes ++ lines_of rest
  pub single : length (lines_of bytes) ≤ 1
  pub ended : lines_of bytes ≡ [] → lines_of rest ≡ []

-- known bytes lose their first line, which is this
abbrev pub TakesLine : Option (List ℕ) → Option (List ℕ) → List ℕ → Type 0
TakesLine None after bytes = ⊤
TakesLine (Some text) None bytes = ⊥
TakesLine (Some text) (Some rest) bytes = FirstLine text rest bytes

-- it holds of the lines of known bytes, and of the lines that are left of them
abbrev pub OfLines : Option (List ℕ) → Option (List ℕ)
    → (List (List ℕ) → List (List ℕ) → Type 0) → Type 0
OfLines None after Holds = ⊤
OfLines (Some text) None Holds = ⊥
OfLines (Some text) (Some rest) Holds = Holds (lines_of text) (lines_of rest)
