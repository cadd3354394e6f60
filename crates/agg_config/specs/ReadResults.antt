-- Reading the words of a line, from the front.
use Rattle.std.specs.Prelude.{◌≡◌, List, [], ◌∷◌, Result, Ok, Err, IsOk}
use Rattle.line_words.specs.Reader.{◌>>=◌}
use Rattle.line_words.specs.declared.misread.Misread.{Misread}
use Rattle.agg_config.specs.declared.causes.Unread.{Unread}
use Rattle.agg_config.specs.declared.causes.Unread.TheVariants as unread

-- what reading fails with, unless an allocation failed
abbrev pub Fails : {Y : Type 0} → Unread → Result Y Misread → Type 0
Fails unread.NoMemory read = Unit {0}
Fails (unread.Misread fault) read = read ≡ Err fault

-- what was returned is what reading gives, unless an allocation failed
abbrev pub Gives : {X Y : Type 0} → (X → Y) → Result X Unread → Result Y Misread → Type 0
Gives view (Ok x) read = read ≡ Ok (view x)
Gives view (Err cause) read = Fails cause read

-- the same, where memory is taken only for what was read to its end
abbrev pub GivesWhole : {X Y : Type 0} → (X → Y) → Result X Unread → Result Y Misread → Type 0
GivesWhole view (Ok x) read = read ≡ Ok (view x)
GivesWhole view (Err unread.NoMemory) read = IsOk read
GivesWhole view (Err (unread.Misread fault)) read = read ≡ Err fault

-- what reading gives of each, in order; the first fault ends it
abbrev pub read_each : {A B : Type 0} → (A → Result B Misread) → List A → Result (List B) Misread
read_each read [] = Ok []
read_each read (x ∷ xs) = do
  first ← read x
  rest ← read_each read xs
  Ok (first ∷ rest)
