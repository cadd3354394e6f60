-- Where the rows of a table hold a column.
use Rattle.std.specs.Prelude.{ℕ, ◌+◌, if◌then◌else◌, List, [], ◌∷◌, Option, None, Some}
use Rattle.std.specs.Option.{option_map}
use Rattle.agg_types.specs.Col.{same_col}
use Rattle.agg_types.specs.declared.column.Col.{Col}

-- the position of a column, and its period, if it is stored
abbrev pub found_in : List (Col × ℕ) → Col → Option (ℕ × ℕ)
found_in [] col = None
found_in (stored ∷ cols) col = if same_col stored.0 col then Some (0, stored.1)
    else option_map (λ place. (place.0 + 1, place.1)) (found_in cols col)
