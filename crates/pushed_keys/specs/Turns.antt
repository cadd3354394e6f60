-- What a turn changes of pushed tables, and what was told of them behind it.
use Rattle.std.specs.Prelude.{◌≡◌, ℕ, ◌+◌, ◌%◌, ◌^◌, List, [], ◌∷◌, option_to_list, slice_index_or}
use Rattle.std.specs.List.{AllByRecursion, flat_map}
use Rattle.std.specs.Option.{option_map}
use Rattle.pushed_keys.specs.Rules.{change_of, put_after}
use Rattle.pushed_keys.specs.Stands.{Stand, stands}
use Rattle.pushed_keys.specs.declared.change.Change.{Change}
use Rattle.pushed_keys.specs.declared.change.Turn.{Turn}
use Rattle.pushed_keys.specs.declared.pushed.Pushed.{Pushed}
use Rattle.pushed_keys.specs.declared.told.Mark.{Mark}
use Rattle.pushed_keys.specs.declared.told.ToldTable.{ToldTable}
use Rattle.pushed_keys.specs.declared.told.UnsaidTable.{UnsaidTable}

-- a table of which nothing was told
abbrev pub no_table : ToldTable
no_table = record { last = 0; marks = [] }

-- what a turn writes of a key, if it writes of it
abbrev pub key_change : Pushed → Turn → Stand → List (List ℕ × Change)
key_change pushed turn stand =
    option_to_list (option_map (λ change. (stand.key, change))
    (change_of pushed turn stand.is_in stand.put))

-- the changes of these keys, in order
abbrev pub changes : Pushed → Turn → List Stand → List (List ℕ × Change)
changes pushed turn = flat_map (key_change pushed turn)

-- the mark of a key behind a turn, if it has one
abbrev pub key_mark : Pushed → Turn → Stand → List Mark
key_mark pushed turn stand =
    option_to_list (option_map (λ put. record {
      key = stand.key;
      put = put;
      is_in = stand.is_in;
    }) (put_after pushed turn stand.is_in stand.put))

-- the marks of these keys behind a turn, in order
abbrev pub marks_after : Pushed → Turn → List Stand → List Mark
marks_after pushed turn = flat_map (key_mark pushed turn)

-- a turn writes nothing of these keys and leaves their marks as they were
pub record AreQuiet (pushed : Pushed) (turn : Turn) (keys : List Stand) (marks : List Mark)
    : Type 0 where
  pub silent : changes pushed turn keys ≡ []
  pub same : marks_after pushed turn keys ≡ marks

-- update ids count on by one
abbrev pub next_id : ℕ → ℕ
next_id last = (last + 1) % 2 ^ 32

-- the last id behind these changes, each of which is an update
abbrev pub last_after : ℕ → List (List ℕ × Change) → ℕ
last_after last [] = last
last_after last (change ∷ others) = last_after (next_id last) others

-- what a turn takes down of a table, whose filter has this set
unfoldable pub unsaid_table : Turn → Pushed → List (List ℕ) → ToldTable → UnsaidTable
unsaid_table turn pushed set told =
    record { last = told.last; changes = changes pushed turn (stands set told.marks) }

-- what it takes down of these tables, the first of which stands behind so many others
unfoldable pub unsaid_tables : Turn → List (List (List ℕ)) → List ToldTable → ℕ → List Pushed
    → List UnsaidTable
unsaid_tables turn sets told before [] = []
unsaid_tables turn sets told before (pushed ∷ others) =
    unsaid_table turn pushed (slice_index_or sets before []) (slice_index_or told before no_table)
    ∷ unsaid_tables turn sets told (before + 1) others

-- what was told of a table behind a turn
abbrev pub told_table : Turn → Pushed → List (List ℕ) → ToldTable → ToldTable
told_table turn pushed set told =
    record {
      last = last_after told.last (changes pushed turn (stands set told.marks));
      marks = marks_after pushed turn (stands set told.marks);
    }

-- what was told of these tables behind it, the first of which stands behind so many others
unfoldable pub told_tables : Turn → List (List (List ℕ)) → List ToldTable → ℕ → List Pushed
    → List ToldTable
told_tables turn sets told before [] = []
told_tables turn sets told before (pushed ∷ others) =
    told_table turn pushed (slice_index_or sets before []) (slice_index_or told before no_table)
    ∷ told_tables turn sets told (before + 1) others

-- nothing is to be written of these tables
abbrev pub AreSaid : List UnsaidTable → Type 0
AreSaid tables = AllByRecursion (λ table. table.changes ≡ []) tables

-- a turn over these sets writes nothing, and leaves what was told as it was
pub record ChangesNothing (turn : Turn) (sets : List (List (List ℕ))) (told : List ToldTable)
    (pushed : List Pushed) : Type 0 where
  pub silent : AreSaid (unsaid_tables turn sets told 0 pushed)
  pub same : told_tables turn sets told 0 pushed ≡ told
