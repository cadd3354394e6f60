-- What a key's column, or its number of live rows, is as time goes on.
use Rattle.std.specs.Prelude.{ℕ}
use Rattle.agg_types.specs.declared.column.Col.{Col}
use Rattle.crossing.specs.declared.values.Measured.{Measured}
use Rattle.crossing.specs.declared.values.Measured.TheVariants.{Column, LiveRows}

abbrev pub measured : (Col → ℕ → ℕ) → (ℕ → ℕ) → Measured → ℕ → ℕ
measured summed living (Column col) t = summed col t
measured summed living LiveRows t = living t
