-- What the words of a line behind `start` say.
use Rattle.std.specs.Prelude.{◌≡◌, ⊤, true, ℕ, nat_lt, if◌then◌else◌, List, codes, Result, Ok, Err}
use Rattle.std.specs.Str.{bytes_eq}
use Rattle.agg_types.specs.declared.config.Config.{Config}
use Rattle.agg_types.specs.declared.limits.TheConstants.{LAST_MOMENT}
use Rattle.fleet_core.specs.Possible.{does_fit}
use Rattle.fleet_core.specs.declared.step.Step.{Step}
use Rattle.fleet_core.specs.declared.step.Step.TheVariants as steps
use Rattle.hex.specs.Hex.{decode_of}
use Rattle.hex.specs.declared.error.FromHexError.{FromHexError}
use Rattle.line_words.specs.Reader.{◌>>=◌, Left, end, number, word, wrong}
use Rattle.line_words.specs.Words.{are_comment}
use Rattle.line_words.specs.declared.misread.Expected.{Expected}
use Rattle.line_words.specs.declared.misread.Expected.TheVariants as expected
use Rattle.line_words.specs.declared.misread.Misread.{Misread}
use Rattle.replay.specs.declared.steps.Meaning.{Meaning}
use Rattle.replay.specs.declared.steps.Meaning.TheVariants.{Nothing, Does, BadStep, Asks}

-- `connect` stands alone
unfoldable pub connect_in : Left → Result Step Misread
connect_in left = do
  none ← end left
  Ok steps.Connect

-- the number that the last word writes
unfoldable pub last_number : Left → Result ℕ Misread
last_number left = do
  found ← number left
  n ← found.0
  none ← end found.1
  Ok n

-- behind `lost` and `told` is the number of a connection
unfoldable pub lost_in : Left → Result Step Misread
lost_in left = last_number left >>= λ conn. Ok (steps.Lost conn)

unfoldable pub told_in : Left → Result Step Misread
told_in left = last_number left >>= λ conn. Ok (steps.Told conn)

-- the moment of at most LAST_MOMENT that the last word says
unfoldable pub last_moment : Left → Result ℕ Misread
last_moment left = do
  moment ← last_number left
  if nat_lt LAST_MOMENT moment then Err (wrong left.number expected.Moment) else Ok moment

-- behind `moment` is one
unfoldable pub moment_in : Left → Result Step Misread
moment_in left = last_moment left >>= λ moment. Ok (steps.Moment moment)

-- the number of a connection, and digits with the number of their word
unfoldable pub bytes_of : Left → Result (ℕ × ℕ × List ℕ) Misread
bytes_of left = do
  found ← number left
  conn ← found.0
  digits ← word expected.Hexadecimal found.1
  none ← end digits.1
  Ok (conn, found.1.number, digits.0)

-- the bytes that hexadecimal digits of either case write
abbrev pub bytes_by : ℕ → ℕ → Result (List ℕ) FromHexError → Result Step Misread
bytes_by conn place (Ok bytes) = Ok (steps.Bytes conn bytes)
bytes_by conn place (Err fault) = Err (wrong place expected.Hexadecimal)

abbrev pub hex_of : ℕ → ℕ → List ℕ → Result Step Misread
hex_of conn place digits = bytes_by conn place (decode_of digits)

-- behind `bytes` stand both
abbrev pub bytes_in : Left → Result Step Misread
bytes_in left = bytes_of left >>= λ found. hex_of found.0 found.1 found.2

-- the step that is read, or the word that is wrong or missing
abbrev pub said : Result Step Misread → Meaning
said (Ok step) = Does step
said (Err at) = BadStep at

-- by the first word
abbrev pub meaning_by : List ℕ → Left → Meaning
meaning_by first left =
    if bytes_eq first (codes "connect") then said (connect_in left)
    else if bytes_eq first (codes "bytes") then said (bytes_in left)
    else if bytes_eq first (codes "lost") then said (lost_in left)
    else if bytes_eq first (codes "moment") then said (moment_in left)
    else if bytes_eq first (codes "told") then said (told_in left)
    else Asks

abbrev pub meaning_with : Result (List ℕ × Left) Misread → Meaning
meaning_with (Ok first) = meaning_by first.0 first.1
meaning_with (Err at) = BadStep at

abbrev pub meaning_of : Left → Meaning
meaning_of left =
    if are_comment left.words then Nothing else meaning_with (word expected.Keyword left)

-- what is printed of a bad step, by what had to stand in its wrong word's place
abbrev pub fault_text : Expected → List ℕ
fault_text expected.Hexadecimal = codes ": hex\n"
fault_text other = codes ": step\n"

-- a step that fits every configuration
abbrev pub FitsAlways : Step → Type 0
FitsAlways step = (config : Config) → does_fit config step ≡ true

-- a step that a line says fits every configuration
abbrev pub AlwaysFits : Meaning → Type 0
AlwaysFits Nothing = ⊤
AlwaysFits (Does step) = (config : Config) → does_fit config step ≡ true
AlwaysFits (BadStep at) = ⊤
AlwaysFits Asks = ⊤
