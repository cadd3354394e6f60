-- The first part, line and word of a text.
use Rattle.std.proofs.Common.{◌≡◌, ◌≢◌, ℕ, ◌+◌, ◌<◌, ◌≤◌, Bool, false, not, eqb, List, [], ◌∷◌}
use Rattle.std.proofs.Common.{length, length-take-le, get_or, take, drop, filter, Some, None, zero}
use Rattle.std.proofs.Common.{suc, refl, add-one, arith}
use Rattle.std.proofs.Math.Seq.{drop-cons}
use Rattle.std.specs.List.{slice_split, position_or_len, position}
use Rattle.std.specs.Str.Lines.{lines_of_parts, strip_carriage_return}
use Rattle.std.proofs.lemmas.Bool.{ne_eqb, eqb-true, ltb-true, ltb-false}
use Rattle.std.proofs.lemmas.List.Sums.{fails_before_first}
use Rattle.std.proofs.lemmas.List.Quantifiers.{position-Some}
use Rattle.std.proofs.lemmas.List.Splits.{slice_split_first, slice_split_none, length-slice_split}
use Rattle.line_words.specs.Words.{parts, words, lines_of}

pub position-is : {X : Type 0} (p : X → Bool) (xs : List X) (i : ℕ) → position p xs ≡ Some i
    → (position_or_len p xs < length xs) × (position_or_len p xs ≡ i)
position-is p xs i e = grind (arith, ltb-true)

pub position-none : {X : Type 0} (p : X → Bool) (xs : List X) → position p xs ≡ None
    → length xs ≤ position_or_len p xs
position-none p xs e = grind (arith, ltb-false)

-- the part before the first byte that parts, and the rest behind it
pub slice_split-at_position : (p : ℕ → Bool) (xs : List ℕ) (i : ℕ) → position p xs ≡ Some i
    → slice_split p xs ≡ take i xs ∷ slice_split p (drop (i + 1) xs)
slice_split-at_position p xs i e =
    let at = position-is p xs i e in
    rw (← at.1) (slice_split_first p xs 0 at.0)

-- one part, where no byte parts
pub slice_split-no_position : (p : ℕ → Bool) (xs : List ℕ) → position p xs ≡ None
    → slice_split p xs ≡ xs ∷ []
slice_split-no_position p xs e =
    slice_split_none p xs (λ k d h. fails_before_first p xs k d
    (omega (arith, position-none p xs e)))

pub parts_at : (between : ℕ) (text : List ℕ) (i : ℕ) → position (λ byte. eqb byte between) text
    ≡ Some i → parts between text ≡ take i text ∷ parts between (drop (i + 1) text)
unfolding parts
parts_at between text i e = slice_split-at_position (λ byte. eqb byte between) text i e

pub parts_none : (between : ℕ) (text : List ℕ) → position (λ byte. eqb byte between) text ≡ None
    → parts between text ≡ text ∷ []
unfolding parts
parts_none between text e = slice_split-no_position (λ byte. eqb byte between) text e

-- the lines behind a first one that LF ends
lines-behind : (line : List ℕ) (rest : List (List ℕ)) → 0 < length rest
    → lines_of_parts (line ∷ rest) ≡ strip_carriage_return line ∷ lines_of_parts rest
lines-behind line [] h = absurd (omega arith)
lines-behind line (next ∷ rest) h = refl

pub lines_of_first : (text line rest : List ℕ) → parts 10 text ≡ line ∷ parts 10 rest
    → lines_of text ≡ strip_carriage_return line ∷ lines_of rest
unfolding parts lines_of
lines_of_first text line rest e =
    rw e (lines-behind line (slice_split (λ byte. eqb byte 10) rest)
    (omega (arith, length-slice_split (λ byte. eqb byte 10) rest)))

pub lines_of_last : (text : List ℕ) → eqb (length text) 0 ≡ false → parts 10 text ≡ text ∷ []
    → lines_of text ≡ text ∷ lines_of []
unfolding parts lines_of
lines_of_last text h e = rw (e, h) refl

pub lines_of_empty : (text : List ℕ) → length text ≡ 0 → lines_of text ≡ []
unfolding lines_of
lines_of_empty [] e = refl
lines_of_empty (byte ∷ text) e = absurd (omega (arith, e))

positive : (line : List ℕ) (i : ℕ) → get_or line i 0 ≡ 32 → get_or line 0 0 ≢ 32 → 0 < i
positive line zero at begins = absurd (begins at)
positive line (suc i) at begins = omega arith

pub words_skip : (line : List ℕ) → words (32 ∷ line) ≡ words line
unfolding words
words_skip line = refl

-- a space before the words is none of them
pub words_behind : (line : List ℕ) (i : ℕ) → i < length line → get_or line i 0 ≡ 32
    → words (drop (i + 1) line) ≡ words (drop i line)
words_behind line i h e = rw (drop-cons line i 0, e, words_skip, add-one) refl

pub words_empty : (line : List ℕ) → length line ≡ 0 → words line ≡ []
unfolding words
words_empty [] e = refl
words_empty (byte ∷ line) e = absurd (omega (arith, e))

-- the words of a first part that isn't empty
words-parts : (line : List ℕ) (parts : List (List ℕ)) → 0 < length line
    → filter (λ word. not (eqb (length word) 0)) (line ∷ parts)
    ≡ line ∷ filter (λ word. not (eqb (length word) 0)) parts
words-parts line parts h =
    let e : eqb (length line) 0 ≡ false = ne_eqb (length line) 0 (λ z. omega (arith, z)) in
    rw e refl

-- the first word, where a space ends it
pub words_first : (line : List ℕ) (i : ℕ) → position (λ byte. eqb byte 32) line ≡ Some i
    → get_or line 0 0 ≢ 32 → words line ≡ take i line ∷ words (drop (i + 1) line)
unfolding words
words_first line i e begins =
    let at = position-Some (λ byte. eqb byte 32) line i 0 e in
    let long : 0 < i = positive line i (eqb-true _ _ at.1) begins in
    rw (slice_split-at_position (λ byte. eqb byte 32) line i e)
    (words-parts (take i line) (slice_split (λ byte. eqb byte 32) (drop (i + 1) line))
    (omega (arith, at.0, length-take-le i line)))

-- the first word, where it is the last
pub words_last : (line : List ℕ) → position (λ byte. eqb byte 32) line ≡ None → 0 < length line
    → words line ≡ line ∷ words []
unfolding words
words_last line e long = rw (slice_split-no_position (λ byte. eqb byte 32) line e)
    (words-parts line [] long)

-- what shows the first piece of a text, by the first byte that ends it
pub ruleset first_part = (parts_at, parts_none)

pub ruleset first_line = (lines_of_first, lines_of_last, lines_of_empty)

pub ruleset first_word = (words_first, words_last, words_empty)
