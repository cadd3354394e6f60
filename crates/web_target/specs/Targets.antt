-- What the target of a request asks for: its path, and the words of its query.
use Rattle.std.specs.Prelude.{◌≡◌, ◌≢◌, ℕ, ◌==◌, ◌-◌, ◌||◌, Bool, if◌then◌else◌, nat_eq, nat_lt}
use Rattle.std.specs.Prelude.{List, [], ◌∷◌}
use Rattle.std.specs.Prelude.{codes, drop, length, map, position, take, Option, None, Some, is_some}
use Rattle.std.specs.Prelude.{Result, Ok, Err, MatchResult}
use Rattle.std.specs.List.{starts_with}
use Rattle.std.specs.Str.{bytes_eq}
use Rattle.line_words.specs.Numbers.{number_of}
use Rattle.line_words.specs.Words.{parts}
use Rattle.line_words.specs.declared.numbers.NumberFault.{NumberFault}
use Rattle.percent_encoding.specs.Percent.{percent_decode}
use Rattle.web_target.specs.declared.question.Part.{Part}
use Rattle.web_target.specs.declared.question.Question.{Question}
use Rattle.web_target.specs.declared.question.Question.TheVariants as asks
use Rattle.web_target.specs.declared.question.TargetFault.{TargetFault}
use Rattle.web_target.specs.declared.question.TargetFault.TheVariants.{NotFound, Unknown, Twice}
use Rattle.web_target.specs.declared.question.TargetFault.TheVariants.{BadLimit, BadSince, NoMemory}
use Rattle.web_target.specs.declared.question.Words.{Words}
use Rattle.web_target.specs.declared.question.TheConstants.{FEWEST, MOST, USUAL}

-- what was read, or the first fault
abbrev pub Read : Type 0 → Type 0
Read X = Result X TargetFault

-- what comes next is read if there is no fault so far
infixl 10 ◌>>=◌
abbrev pub ◌>>=◌ : {A B : Type 0} → Read A → (A → Read B) → Read B
Ok x >>= f = f x
Err fault >>= f = Err fault

-- a result tells what is expected; where an allocation failed it tells only that
abbrev pub Reads : {A : Type 0} → Read A → Read A → Type 0
Reads expected result = MatchResult result (λ x. expected ≡ Ok x)
    (λ fault. fault ≢ NoMemory → expected ≡ Err fault)

-- where words tell what is expected of them, a result tells what is made of that
abbrev pub ReadsBehind : {A B : Type 0} → (Read A → Read B) → Read A → Read B → Type 0
ReadsBehind {A} make words result =
    (expected : Read A) → Reads expected words → Reads (make expected) result

-- a `+` of a query stands for a space
abbrev pub plus_to_space : ℕ → ℕ
plus_to_space byte = if byte == 43 then 32 else byte

-- the bytes that a text of a query stands for
abbrev pub query_bytes : List ℕ → List ℕ
query_bytes text = percent_decode (map plus_to_space text)

-- a number of entries that may be asked for
abbrev pub if_limit : Result ℕ NumberFault → Read ℕ
if_limit (Ok limit) = if nat_lt limit FEWEST || nat_lt MOST limit then Err BadLimit else Ok limit
if_limit (Err fault) = Err BadLimit

-- how many entries a text asks for
abbrev pub limit_of : List ℕ → Read ℕ
limit_of text = if_limit (number_of text)

unfoldable pub with_limit : Words → List ℕ → Read Words
with_limit words text =
    if is_some words.limit then Err Twice
    else limit_of text >>= λ limit. Ok (record words { limit = Some limit })

-- a number from which on changes are told
abbrev pub if_since : Result ℕ NumberFault → Read ℕ
if_since (Ok since) = Ok since
if_since (Err fault) = Err BadSince

-- the number that a text tells changes from
abbrev pub since_of : List ℕ → Read ℕ
since_of text = if_since (number_of text)

unfoldable pub with_since : Words → List ℕ → Read Words
with_since words text =
    if is_some words.since then Err Twice
    else since_of text >>= λ since. Ok (record words { since = Some since })

-- the text of a word that may stand there once
abbrev pub text_once : Option (List ℕ) → List ℕ → Read (Option (List ℕ))
text_once had text = if is_some had then Err Twice else Ok (Some (query_bytes text))

unfoldable pub with_after : Words → List ℕ → Read Words
with_after words text = text_once words.after text >>= λ after. Ok (record words { after = after })

unfoldable pub with_conds : Words → List ℕ → Read Words
with_conds words text = text_once words.conds text >>= λ conds. Ok (record words { conds = conds })

-- a piece that gives no text: a number, or it means nothing
unfoldable pub with_number : Words → List ℕ → Read Words
with_number words piece =
    if starts_with nat_eq piece (codes "since=") then with_since words (drop 6 piece)
    else Err Unknown

-- a piece that is no limit
unfoldable pub with_text : Words → List ℕ → Read Words
with_text words piece =
    if starts_with nat_eq piece (codes "after=") then with_after words (drop 6 piece)
    else if starts_with nat_eq piece (codes "where=") then with_conds words (drop 6 piece)
    else with_number words piece

-- words with one more piece of a query; an empty one says nothing
unfoldable pub with_piece : Words → List ℕ → Read Words
with_piece words piece =
    if length piece == 0 then Ok words
    else if starts_with nat_eq piece (codes "limit=") then with_limit words (drop 6 piece)
    else with_text words piece

-- words with the pieces of a query, one after the other
abbrev pub words_from : Words → List (List ℕ) → Read Words
words_from words [] = Ok words
words_from words (piece ∷ pieces) = with_piece words piece >>= λ more. words_from more pieces

-- what stands between the `&`s of a query
abbrev pub pieces_of : Option (List ℕ) → List (List ℕ)
pieces_of None = []
pieces_of (Some query) = parts 38 query

abbrev pub no_words : Words
no_words = record { limit = None; after = None; conds = None; since = None }

-- the words of a query
unfoldable pub words_in : Option (List ℕ) → Read Words
words_in query = words_from no_words (pieces_of query)

-- a value that may be left out
abbrev pub or_else : {A : Type 0} → A → Option A → A
or_else usual None = usual
or_else usual (Some x) = x

-- which entries words ask for
abbrev pub entries_of : Words → Part
entries_of words = record { limit = or_else USUAL words.limit; after = words.after }

-- which entries words ask for, where nothing else may be
abbrev pub part_of : Words → Read Part
part_of words =
    if is_some words.conds || is_some words.since then Err Unknown else Ok (entries_of words)

-- whether words say which entries are asked for
abbrev pub are_entries : Words → Bool
are_entries words = is_some words.limit || is_some words.after || is_some words.conds

unfoldable pub peers_of : Words → Read Question
peers_of words = part_of words >>= λ part. Ok (asks.Peers part)

unfoldable pub table_of : List ℕ → Words → Read Question
table_of name words =
    if is_some words.since then Err Unknown
    else Ok (asks.Table name (or_else [] words.conds) (entries_of words))

unfoldable pub filter_of : List ℕ → Words → Read Question
filter_of name words = part_of words >>= λ part. Ok (asks.Filter name part)

-- what changed of a filter, since a number that need not be there
unfoldable pub changes_of : List ℕ → Words → Read Question
changes_of name words =
    if are_entries words then Err Unknown else Ok (asks.Changes name words.since)

-- the name of a filter, where `/changes` stands behind it
abbrev pub filter_split : List ℕ → Option (List ℕ)
filter_split text =
    if bytes_eq (drop (length text - 8) text) (codes "/changes")
    then Some (take (length text - 8) text) else None

-- the keys of a filter, or what changed of them
abbrev pub filter_or_changes : List ℕ → Option (List ℕ) → Words → Read Question
filter_or_changes text None words = filter_of (percent_decode text) words
filter_or_changes text (Some name) words = changes_of (percent_decode name) words

-- the same, of what stands behind `filters/`
abbrev pub in_filters : List ℕ → Read Words → Read Question
in_filters text words = words >>= filter_or_changes text (filter_split text)

unfoldable pub rank_of : List ℕ → Words → Read Question
rank_of name words = part_of words >>= λ part. Ok (asks.Rank name part)

-- the name of a table and the text of a key, where `/keys/` stands behind the name
abbrev pub split_at : List ℕ → Option ℕ → Option (List ℕ × List ℕ)
split_at text None = None
split_at text (Some at) =
    if starts_with nat_eq (drop at text) (codes "/keys/")
    then Some (take at text, drop 6 (drop at text)) else None

abbrev pub key_split : List ℕ → Option (List ℕ × List ℕ)
key_split text = split_at text (position (λ byte. byte == 47) text)

-- one key of a table, of which no word of a query tells more
unfoldable pub key_of : List ℕ → List ℕ → Words → Read Question
key_of table key words =
    if are_entries words || is_some words.since then Err Unknown
    else Ok (asks.Key table key)

-- a table, or one key of it
abbrev pub table_or_key : List ℕ → Option (List ℕ × List ℕ) → Words → Read Question
table_or_key text None words = table_of (percent_decode text) words
table_or_key text (Some names) words =
    key_of (percent_decode names.0) (percent_decode names.1) words

-- the same, of what stands behind `tables/`
abbrev pub in_tables : List ℕ → Read Words → Read Question
in_tables text words = words >>= table_or_key text (key_split text)

-- a list of keys
unfoldable pub listed_of : List ℕ → Read Words → Read Question
listed_of path words =
    if starts_with nat_eq path (codes "filters/")
    then in_filters (drop 8 path) words
    else if starts_with nat_eq path (codes "ranks/")
    then (words >>= λ said. rank_of (percent_decode (drop 6 path)) said)
    else Err NotFound

-- a list of a name
unfoldable pub named_of : List ℕ → Read Words → Read Question
named_of path words =
    if starts_with nat_eq path (codes "tables/")
    then in_tables (drop 7 path) words
    else listed_of path words

-- behind `/api/v1/`
unfoldable pub called_of : List ℕ → Read Words → Read Question
called_of path words =
    if bytes_eq path (codes "overview") then Ok asks.Overview
    else if bytes_eq path (codes "peers") then (words >>= peers_of)
    else named_of path words

-- what a path asks for whose query counts
unfoldable pub asked_of : List ℕ → Read Words → Read Question
asked_of path words =
    if starts_with nat_eq path (codes "/api/v1/") then called_of (drop 8 path) words
    else Err NotFound

-- what a target asks for; the query of the first four says nothing
unfoldable pub question_of : List ℕ → Option (List ℕ) → Read Question
question_of path query =
    if bytes_eq path (codes "/") then Ok asks.Page
    else if bytes_eq path (codes "/healthz") then Ok asks.Health
    else if bytes_eq path (codes "/metrics") then Ok asks.Metrics
    else if bytes_eq path (codes "/api/v1") then Ok asks.Index
    else asked_of path (words_in query)
