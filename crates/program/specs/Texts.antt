-- Where the text of a configuration comes from.
use Rattle.std.specs.Prelude.{ℕ, List, [], ◌∷◌, ◌++◌, fold, Option, None, Some}
use Rattle.std.specs.Borrow.{Bor}

-- the known bytes of a configuration: of the file that is named, or else of standard input
abbrev pub read_from : (List ℕ → Option (List ℕ)) → Option (Bor (List ℕ)) → Option (List ℕ)
    → Option (List ℕ)
read_from holds None input = input
read_from holds (Some name) input = holds name.now

-- a known text with one more behind it, if that is known, and an LF
abbrev pub with_more : Option (List ℕ) → Option (List ℕ) → Option (List ℕ)
with_more None more = None
with_more (Some text) None = None
with_more (Some text) (Some more) = Some (text ++ more ++ 10 ∷ [])

-- the known texts of these files, one behind the other, each with an LF behind it
abbrev pub joined_of : (List ℕ → Option (List ℕ)) → List (Bor (List ℕ)) → Option (List ℕ)
joined_of holds names = fold (λ text name. with_more text (holds name.now)) (Some []) names

-- the same, or that of standard input where no file is named
abbrev pub texts_from : (List ℕ → Option (List ℕ)) → List (Bor (List ℕ)) → Option (List ℕ)
    → Option (List ℕ)
texts_from holds [] input = input
texts_from holds (name ∷ names) input = joined_of holds (name ∷ names)
