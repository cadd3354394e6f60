-- Reading a line word by word.
use Rattle.std.specs.Prelude.{◌≡◌, ℕ, ◌+◌, Bool, true, false, List, [], ◌∷◌, codes, take, drop}
use Rattle.std.specs.Prelude.{find, if◌then◌else◌, Option, None, Some, Result, Ok, Err}
use Rattle.std.specs.Result.{result_ok}
use Rattle.std.specs.Str.{bytes_eq}
use Rattle.agg_types.specs.Col.{all_cols, col_name}
use Rattle.agg_types.specs.declared.column.Col.{Col}
use Rattle.agg_types.specs.declared.config.Op.{Op}
use Rattle.line_words.specs.Numbers.{number_of}
use Rattle.line_words.specs.Operators.{operator_of}
use Rattle.line_words.specs.Words.{words}
use Rattle.line_words.specs.declared.misread.Expected.{Expected}
use Rattle.line_words.specs.declared.misread.Expected.TheVariants.{Keyword, End, Number, Column}
use Rattle.line_words.specs.declared.misread.Expected.TheVariants.{Condition, Operator}
use Rattle.line_words.specs.declared.misread.Misread.{Misread}

-- what a line has left: its words, and the number of the next of them, from 1
pub record Left : Type 0 where
  pub number : ℕ
  pub words : List (List ℕ)

-- a line before its first word is read
abbrev pub left_of : List ℕ → Left
left_of line = record { number = 1; words = words line }

-- whether the first of these words is this one
abbrev pub next_is : List ℕ → List (List ℕ) → Bool
next_is wanted [] = false
next_is wanted (first ∷ rest) = bytes_eq first wanted

infixl 10 ◌>>=◌
-- goes on with what was read; the first fault ends it
abbrev pub ◌>>=◌ : {A B E : Type 0} → Result A E → (A → Result B E) → Result B E
(Ok x) >>= f = f x
(Err fault) >>= f = Err fault

-- the line ends where this had to stand
abbrev pub missing : ℕ → Expected → Misread
missing number expected = record { word = number; is_missing = true; expected = expected }

-- the word of this number is none of these
abbrev pub wrong : ℕ → Expected → Misread
wrong number expected = record { word = number; is_missing = false; expected = expected }

abbrev pub word_at : Expected → ℕ → List (List ℕ) → Result (List ℕ × Left) Misread
word_at expected number [] = Err (missing number expected)
word_at expected number (first ∷ rest) =
    Ok (first, record { number = number + 1; words = rest })

-- the next word, and what is left behind it
abbrev pub word : Expected → Left → Result (List ℕ × Left) Misread
word expected left = word_at expected left.number left.words

-- what a word says, which has to say something
abbrev pub or_wrong : {A : Type 0} → ℕ → Expected → Option A → Result A Misread
or_wrong number expected None = Err (wrong number expected)
or_wrong number expected (Some x) = Ok x

-- what the next word says, and what is left behind it
abbrev pub said_by : {A : Type 0} →
    Expected → (List ℕ → Option A) → Left → Result (A × Left) Misread
said_by expected says left = do
  found ← word expected left
  x ← or_wrong left.number expected (says found.0)
  Ok (x, found.1)

-- the next word is this one
abbrev pub keyword : List ℕ → Left → Result (Unit {0} × Left) Misread
keyword wanted left =
    said_by Keyword (λ found. if bytes_eq found wanted then Some tt else None) left

-- no word is left
abbrev pub end_at : Left → List (List ℕ) → Result (Unit {0} × Left) Misread
end_at left [] = Ok (tt, left)
end_at left (first ∷ rest) = Err (wrong left.number End)

abbrev pub end : Left → Result (Unit {0} × Left) Misread
end left = end_at left left.words

-- the number that a word writes; one that writes none is a fault by itself
abbrev pub numeral : ℕ → List ℕ → Result ℕ Misread
numeral place found = or_wrong place Number (result_ok (number_of found))

abbrev pub number : Left → Result (Result ℕ Misread × Left) Misread
number left = do
  found ← word Number left
  Ok (numeral left.number found.0, found.1)

-- the column of a name
abbrev pub column_named : List ℕ → Option Col
column_named name = find (λ col. bytes_eq (col_name col) name) all_cols

abbrev pub column : Left → Result (Col × Left) Misread
column left = said_by Column column_named left

abbrev pub operator : Left → Result (Op × Left) Misread
operator left = said_by Operator operator_of left

-- the column that `data.` and its name say
abbrev pub data_column_named : ℕ → List ℕ → Result Col Misread
data_column_named place found =
    if bytes_eq (take 5 found) (codes "data.")
    then or_wrong place Column (column_named (drop 5 found)) else Err (wrong place Condition)

abbrev pub data_column : Left → Result (Col × Left) Misread
data_column left = do
  found ← word Condition left
  col ← data_column_named left.number found.0
  Ok (col, found.1)

-- what a condition says behind its column: an operator, and a number or why it is none
abbrev pub comparison : Left → Result ((Op × Result ℕ Misread) × Left) Misread
comparison left = do
  op ← operator left
  bound ← number op.1
  Ok ((op.0, bound.0), bound.1)

-- a call gives what reading gives, and leaves what that leaves
abbrev pub Reads : {X Y : Type 0} →
    (X → Y) → Result (Y × Left) Misread → Result X Misread → Left → Type 0
Reads view read (Ok x) left = read ≡ Ok (view x, left)
Reads view read (Err fault) left = read ≡ Err fault
