-- The texts of standing filters and ranked lists.
use Rattle.std.specs.Prelude.{ℕ, ◌+◌, ◌-◌, List, [], ◌∷◌, ◌++◌, codes, length}
use Rattle.std.specs.Prelude.{Option, None, Some, if◌then◌else◌}
use Rattle.std.specs.Fmt.{decimal}
use Rattle.std.specs.List.{flat_map}
use Rattle.agg_types.specs.Col.{same_col}
use Rattle.agg_types.specs.declared.column.Col.{Col}
use Rattle.agg_types.specs.declared.config.Filter.{Filter}
use Rattle.agg_types.specs.declared.config.Rank.{Rank}
use Rattle.agg_types.specs.declared.config.Shape.{Shape}
use Rattle.key_text.specs.Printed.{key_text}
use Rattle.answer_text.specs.Tables.{cell_text, column_text, ms_or_never}

-- a key on a line of its own
abbrev pub key_line : Shape → List ℕ → List ℕ
key_line shape key = codes "key=" ++ key_text shape.kind key ++ codes "\n"

-- the name of a standing filter or a ranked list behind its title, and that of its table
abbrev pub title_text : List ℕ → List ℕ → Shape → List ℕ
title_text title name shape = title ++ name ++ codes ", table: " ++ shape.name

-- the heading of a standing filter that holds these keys, and the keys
abbrev pub held_text : Filter → Shape → List (List ℕ) → List ℕ
held_text filter shape keys =
    title_text (codes "# filter: ") filter.name shape ++ codes ", keys:"
    ++ decimal (length keys) ++ codes "\n" ++ flat_map (key_line shape) keys

-- the period of a column, 0 where it isn't stored
abbrev pub period_of : List (Col × ℕ) → Col → ℕ
period_of [] col = 0
period_of (stored ∷ cols) col = if same_col stored.0 col then stored.1 else period_of cols col

-- the line of a key at a place of a ranked list
abbrev pub place_text : ℕ → Shape → List ℕ → Col × ℕ → ℕ → List ℕ
place_text place shape key col value =
    decimal place ++ codes " key=" ++ key_text shape.kind key ++ cell_text col value ++ codes "\n"

-- keys with their values of a column, behind their places, the first of which is this
abbrev pub places_text : Shape → Col × ℕ → ℕ → List (List ℕ × ℕ) → List ℕ
places_text shape col place [] = []
places_text shape col place (entry ∷ entries) =
    place_text place shape entry.0 col entry.1 ++ places_text shape col (place + 1) entries

-- the heading of a ranked list, and its keys
abbrev pub ranking_text : Rank → Shape → Col × ℕ → List (List ℕ × ℕ) → List ℕ
ranking_text rank shape col entries =
    title_text (codes "# rank: ") rank.name shape ++ codes ", by: " ++ column_text col
    ++ codes "\n" ++ places_text shape col 1 entries

-- the moment at which a standing filter holds other keys, or never
abbrev pub change_text : Filter → Shape → Option ℕ → List ℕ
change_text filter shape t =
    title_text (codes "# next: ") filter.name shape ++ codes ", at:" ++ ms_or_never t ++ codes "\n"

-- how far off a moment is, if there is one
abbrev pub distance_text : ℕ → Option ℕ → List ℕ
distance_text now None = []
distance_text now (Some t) = codes " in:" ++ decimal (t - now)

-- the moment at which a standing filter holds other keys, or never, and how far off it is
abbrev pub change_ahead : Filter → Shape → ℕ → Option ℕ → List ℕ
change_ahead filter shape now t =
    title_text (codes "# next: ") filter.name shape ++ codes ", at:" ++ ms_or_never t
    ++ distance_text now t ++ codes "\n"
