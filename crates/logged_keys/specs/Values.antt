-- The values that stand in a line.
use Rattle.std.specs.Prelude.{Bool, ◌==◌, ℕ, List, [], ◌∷◌, ◌++◌, if◌then◌else◌, slice_index}
use Rattle.std.specs.List.{list_any}
use Rattle.agg_types.specs.Col.{place}
use Rattle.agg_types.specs.declared.column.Col.{Col}
use Rattle.agg_types.specs.declared.config.Cond.{Cond}
use Rattle.fleet_model.specs.declared.summed.Summed.{Summed}

-- whether one of some conditions is on a column
abbrev pub has_col : Col → List Cond → Bool
has_col col conds = list_any (λ cond. place cond.col == place col) conds

-- the sums of the columns of conditions on which none of those before is
abbrev pub values_behind : Summed → List Cond → List Cond → List (Col × ℕ)
values_behind sums before [] = []
values_behind sums before (cond ∷ conds) =
    let rest = values_behind sums (before ++ cond ∷ []) conds in
    if has_col cond.col before then rest
    else (cond.col, slice_index sums.values (place cond.col)) ∷ rest

-- the sums of the columns of conditions, each column once
abbrev pub values_of : Summed → List Cond → List (Col × ℕ)
values_of sums conds = values_behind sums [] conds
