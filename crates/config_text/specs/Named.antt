-- The names that are told of a fault: those that the lines before it declare.
use Rattle.std.specs.Prelude.{ℕ, ◌-◌, Bool, true, false, ◌||◌, if◌then◌else◌, ◌==◌, nat_lt, List}
use Rattle.std.specs.Prelude.{[], ◌∷◌, ◌++◌, length, drop, take, slice_index_or, codes}
use Rattle.std.specs.List.{flat_map}
use Rattle.std.specs.Str.{bytes_eq}
use Rattle.agg_types.specs.declared.check.ConfigFault.{ConfigFault}
use Rattle.agg_types.specs.declared.check.ConfigFault.TheVariants.{UnknownTable, UnknownColumn}
use Rattle.agg_types.specs.declared.check.ConfigFault.TheVariants.{UnknownFilter}
use Rattle.agg_config.specs.declared.causes.LineCause.{LineCause}
use Rattle.agg_config.specs.declared.causes.LineCause.TheVariants.{Check}
use Rattle.key_text.specs.Printed.{escaped}
use Rattle.line_words.specs.Numbered.{word_at}
use Rattle.line_words.specs.Words.{parts, words}
use Rattle.config_text.specs.declared.named.Listing.{Listing}
use Rattle.config_text.specs.declared.named.TheConstants.{MOST_NAMES}

-- the name that the words of a line of this kind declare, empty where it is none
abbrev pub name_in : List ℕ → List (List ℕ) → List ℕ
name_in kind words = if bytes_eq (word_at 1 words) kind then word_at 2 words else []

-- nothing was listed yet
abbrev pub start : Listing
start = record { room = MOST_NAMES; is_first = true; is_full = false }

-- a listing behind one more name: an empty one is none, and one that has no room ends it
abbrev pub after : Listing → List ℕ → Listing
after listing name =
    if listing.is_full || (length name == 0) then listing
    else if nat_lt listing.room (length name)
    then record { room = listing.room; is_first = false; is_full = true }
    else record { room = listing.room - length name; is_first = false; is_full = false }

-- what stands before a name
abbrev pub separator : List ℕ → Bool → List ℕ
separator label is_first = if is_first then label else codes ", "

-- a name that has room, and else two dots
abbrev pub name_or_dots : ℕ → List ℕ → List ℕ
name_or_dots room name =
    if nat_lt room (length name) then codes ".." else flat_map escaped name

-- what is told of the next name
abbrev pub told : List ℕ → Listing → List ℕ → List ℕ
told label listing name =
    if listing.is_full || (length name == 0) then []
    else separator label listing.is_first ++ name_or_dots listing.room name

-- names behind a label, with commas between, so many bytes of them
abbrev pub listed : List ℕ → Listing → List (List ℕ) → List ℕ
listed label listing [] = []
listed label listing (name ∷ names) =
    told label listing name ++ listed label (after listing name) names

-- the names that so many lines declare of this kind, an empty one for each other line
abbrev pub names_in : List ℕ → ℕ → List (List ℕ) → List (List ℕ)
names_in kind ahead [] = []
names_in kind ahead (line ∷ lines) =
    if ahead == 0 then []
    else name_in kind (words line) ∷ names_in kind (ahead - 1) lines

-- what stands behind the first `store`
abbrev pub behind_store : List (List ℕ) → List ℕ
behind_store [] = []
behind_store (first ∷ rest) =
    if bytes_eq first (codes "store") then slice_index_or rest 0 [] else behind_store rest

-- the columns of a table's line: behind its name, type and size or length
abbrev pub columns_in : List (List ℕ) → List ℕ
columns_in words = behind_store (drop 6 words)

-- those of the first line that declares this table
abbrev pub columns_of : List ℕ → List (List ℕ) → List ℕ
columns_of table [] = []
columns_of table (line ∷ lines) =
    if bytes_eq (name_in (codes "table") (words line)) table then columns_in (words line)
    else columns_of table lines

-- the names of a list's columns, without their periods
abbrev pub column_names : List (List ℕ) → List (List ℕ)
column_names [] = []
column_names (item ∷ items) = slice_index_or (parts 40 item) 0 [] ∷ column_names items

-- what there is of what a line of these words names in vain, by so many lines
abbrev pub check_names : ConfigFault → List (List ℕ) → ℕ → List (List ℕ) → List ℕ
check_names UnknownTable words ahead lines =
    listed (codes "; tables before it: ") start (names_in (codes "table") ahead lines)
check_names UnknownFilter words ahead lines =
    listed (codes "; filters before it: ") start (names_in (codes "filter") ahead lines)
check_names UnknownColumn words ahead lines =
    listed (codes "; it stores: ") start
    (column_names (parts 44 (columns_of (word_at 3 words) (take ahead lines))))
check_names fault words ahead lines = []

-- the same of what is wrong with the line
abbrev pub cause_names : LineCause → List (List ℕ) → ℕ → List (List ℕ) → List ℕ
cause_names (Check fault) words ahead lines = check_names fault words ahead lines
cause_names cause words ahead lines = []
