-- The lives of rows.
use Rattle.std.specs.Prelude.{ℕ, ◌==◌, if◌then◌else◌, min, unwrap_or, Option, Some, None}
use Rattle.std.specs.Option.{option_map}

-- what a message and its definition say of a row's life: none under a definition without an end,
-- else what the message says, else the definition's
abbrev pub life_said : ℕ → Option ℕ → Option ℕ
life_said expiry life = if expiry == 0 then None else Some (unwrap_or life expiry)

-- a life that is at most the longest one of a table, if it has one; a row without a life gets that
abbrev pub life_within : Option ℕ → Option ℕ → Option ℕ
life_within None life = life
life_within (Some keep) None = Some keep
life_within (Some keep) (Some life) = Some (min life keep)

-- the life of a row: what is said, within the table's longest; none is above 4,294,967,295
abbrev pub life_of : Option ℕ → ℕ → Option ℕ → Option ℕ
life_of keep expiry life =
    option_map (λ most. min most 4294967295) (life_within keep (life_said expiry life))
