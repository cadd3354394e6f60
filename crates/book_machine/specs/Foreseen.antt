-- The values of keys as the clock goes on, up to the last moment of 64 bits.
use Rattle.std.specs.Prelude.{ℕ, ◌+◌, ◌-◌, ◌^◌, List, [], ◌∷◌, min}
use Rattle.agg_types.specs.declared.column.Col.{Col}
use Rattle.fleet_model.specs.Keys.{Rows, one_if, worth_of}
use Rattle.fleet_model.specs.Moments.{is_live}
use Rattle.fleet_model.specs.Next.{flat_moment, longest_period}

-- a moment, or the last one
abbrev pub within : ℕ → ℕ
within t = min t (2 ^ 64 - 1)

-- how many rows live at a moment
abbrev pub living_of : Rows → ℕ → ℕ
living_of [] t = 0
living_of (row ∷ rows) t = one_if (is_live t row.1) + living_of rows t

-- what rows of one key sum up to
abbrev pub worth_within : List (Col × ℕ) → Rows → Col → ℕ → ℕ
worth_within cols rows col t = worth_of cols rows col (within t)

abbrev pub living_within : Rows → ℕ → ℕ
living_within rows t = living_of rows (within t)

-- the moment from which they stay
abbrev pub flat_within : List (Col × ℕ) → Rows → ℕ
flat_within cols rows = within (flat_moment (longest_period cols) rows)
