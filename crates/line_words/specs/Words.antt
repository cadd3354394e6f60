use Rattle.std.specs.Prelude.{◌≡◌, ℕ, Bool, true, not, ◌==◌, List, [], ◌∷◌, length, filter}
use Rattle.std.specs.Prelude.{slice_index, Option, None, Some, MatchOption}
use Rattle.std.specs.Borrow.{Bor}
use Rattle.std.specs.List.{slice_split}
use Rattle.std.specs.Str.Lines.{lines}

-- the parts of a text between the bytes of this value, the empty ones too
unfoldable pub parts : ℕ → List ℕ → List (List ℕ)
parts between text = slice_split (λ byte. byte == between) text

-- the words of a line: what stands between its spaces
unfoldable pub words : List ℕ → List (List ℕ)
words line = filter (λ word. not (length word == 0)) (slice_split (λ byte. byte == 32) line)

-- the lines of a text, without their LF and a CR before it; what follows the last LF is one if it
-- isn't empty
unfoldable pub lines_of : List ℕ → List (List ℕ)
lines_of text = lines text

-- nothing is left, or the first piece and the text behind it, which has the other pieces
abbrev pub TakesFirst :
    (List ℕ → List (List ℕ)) → List ℕ → Option (Bor (List ℕ) × Bor (List ℕ)) → Type 0
TakesFirst pieces text found =
    MatchOption found (pieces text ≡ []) (λ first. pieces text ≡ first.0.now ∷ pieces first.1.now)

-- whether a line of these words says nothing: it has none, or the first begins with `#`
abbrev pub are_comment : List (List ℕ) → Bool
are_comment [] = true
are_comment (first ∷ rest) = slice_index first 0 == 35

-- a text begins with this part, and what follows it has the other parts
abbrev pub BeginsParts : ℕ → List ℕ → List ℕ → Option (List ℕ) → Type 0
BeginsParts between text part None = parts between text ≡ part ∷ []
BeginsParts between text part (Some rest) = parts between text ≡ part ∷ parts between rest
