-- What is printed of what a connection was told.
use Rattle.std.specs.Prelude.{ℕ, ◌+◌, if◌then◌else◌, List, [], ◌∷◌, ◌++◌, codes, length}
use Rattle.std.specs.Fmt.{decimal}
use Rattle.std.specs.List.{flat_map}
use Rattle.agg_types.specs.declared.config.Config.{Config}
use Rattle.agg_types.specs.declared.config.KeyKind.{KeyKind}
use Rattle.fleet_model.specs.State.{State}
use Rattle.pushed_keys.specs.Pushes.{pushed_of}
use Rattle.pushed_keys.specs.declared.pushed.Pushed.{Pushed}
use Rattle.telling.specs.Telling.{Told as WasTold, told_keys}
use Rattle.key_text.specs.Printed.{key_text}
use Rattle.fleet_core.specs.Possible.{is_open_after}
use Rattle.fleet_core.specs.Telling.{book_after, told_of}
use Rattle.fleet_core.specs.declared.step.Step.{Step}
use Rattle.fleet_core.specs.declared.step.Step.TheVariants.{Connect, Bytes, Lost, Clear, AddFilter}
use Rattle.fleet_core.specs.declared.step.Step.TheVariants.{DropFilter, Moment, Told}

abbrev pub key_line : KeyKind → List ℕ → List ℕ
key_line kind key = codes "key=" ++ key_text kind key ++ codes "\n"

-- which table it is, and of which connection
abbrev pub table_head : ℕ → List ℕ → List ℕ
table_head conn name = codes "# table: " ++ name ++ codes ", conn: " ++ decimal conn

abbrev pub count_text : ℕ → List ℕ
count_text count = codes ", keys:" ++ decimal count ++ codes "\n"

-- a pushed table of a connection, and the keys that it was told
abbrev pub table_text : ℕ → Pushed → List (List ℕ) → List ℕ
table_text conn table keys =
    table_head conn table.name ++ count_text (length keys) ++ flat_map (key_line table.kind) keys

-- the last of the pushed tables, of which so many stand before these
unfoldable pub tables_from : ℕ → List Pushed → WasTold → ℕ → ℕ → List Pushed → List ℕ
tables_from conn all told now before [] = []
tables_from conn all told now before (table ∷ tables) =
    table_text conn table (told_keys all told before now)
    ++ tables_from conn all told now (before + 1) tables

-- the pushed tables of a connection, with the keys told at the book's moment
abbrev pub tables_text : ℕ → State → WasTold → List ℕ
tables_text conn book told =
    tables_from conn (pushed_of book.config) told book.moment 0 (pushed_of book.config)

-- what is printed behind a step that tells an open connection, of what it was told then
abbrev pub shown_text : Config → ℕ → List Step → Step → List ℕ
shown_text config opening past Connect = []
shown_text config opening past (Bytes of piece) = []
shown_text config opening past (Lost of) = []
shown_text config opening past (Clear table sel) = []
shown_text config opening past (AddFilter filter) = []
shown_text config opening past (DropFilter name) = []
shown_text config opening past (Moment moment) = []
shown_text config opening past (Told conn) =
    if is_open_after config opening past conn
    then tables_text conn (book_after config opening past) (told_of config opening past conn)
    else []
