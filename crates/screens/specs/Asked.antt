-- What filters ask of the columns of their table: numbers that a key's values have to reach.
use Rattle.std.specs.Prelude.{◌≡◌, ℕ, ◌-◌, ◌^◌, ◌<◌, ◌≤◌, false, List, length, slice_index_or}
use Rattle.std.specs.List.{AllByRecursion, list_all, position_or_len}
use Rattle.agg_types.specs.Col.{same_col}
use Rattle.agg_types.specs.Op.{op_holds}
use Rattle.agg_types.specs.declared.column.Col.{Col}
use Rattle.agg_types.specs.declared.config.Cond.{Cond}
use Rattle.agg_types.specs.declared.config.Filter.{Filter}
use Rattle.peer_rows.specs.Most.{most_in}
use Rattle.peer_rows.specs.declared.row.Row.{Row}
use Rattle.screens.specs.declared.screens.Screens.{Screens}

-- stands for a column of which nothing is asked
abbrev pub nothing : ℕ
nothing = 2 ^ 64 - 1

-- what is asked of the column at a place
abbrev pub asked_at : List ℕ → ℕ → ℕ
asked_at least place = slice_index_or least place nothing

-- where a table stores a column, or else behind the last
abbrev pub place_in : List (Col × ℕ) → Col → ℕ
place_in cols col = position_or_len (λ stored. same_col stored.0 col) cols

-- values of columns are below all that is asked of them
abbrev pub FallShort : List ℕ → List (Col × ℕ) → (Col → ℕ) → Type 0
FallShort least cols value = (col : Col) → asked_at least (place_in cols col) < nothing
    → value col < asked_at least (place_in cols col)

-- values don't meet conditions together
abbrev pub Fail : List Cond → (Col → ℕ) → Type 0
Fail conds value = list_all (λ cond. op_holds cond.op (value cond.col) cond.bound) conds ≡ false

-- values that fall short meet no filter of a table
abbrev pub AreScreened : List ℕ → List (Col × ℕ) → ℕ → List Filter → Type 0
AreScreened least cols table filters =
    AllByRecursion (λ filter. filter.table ≡ table
    → (value : Col → ℕ) → FallShort least cols value → Fail filter.conds value) filters

-- rows of one key are worth less than is asked of the column at a place, at any moment
abbrev pub IsBelow : List ℕ → List (ℕ × Row) → ℕ → Type 0
IsBelow least rows place = asked_at least place < nothing
    → most_in place rows < asked_at least place

-- of each column
abbrev pub AreBelow : List ℕ → List (ℕ × Row) → Type 0
AreBelow least rows = (place : ℕ) → IsBelow least rows place

-- no more is asked than before
abbrev pub AreLower : List ℕ → List ℕ → Type 0
AreLower old new = (place : ℕ) → asked_at new place ≤ asked_at old place

-- nothing is asked from a column on
abbrev pub EndsAt : List ℕ → ℕ → Type 0
EndsAt least end = (place : ℕ) → asked_at least place < nothing → place < end

-- what is asked is what the filters of a table ask
pub record IsScreen (cols : List (Col × ℕ)) (filters : List Filter) (table : ℕ)
    (screens : Screens) : Type 0 where
  pub screened : AreScreened screens.least cols table filters
  pub end : EndsAt screens.least screens.end
  pub eight : length screens.least ≡ 8
