-- Keys that no filter has to judge.
use Rattle.std.specs.Prelude.{◌≡◌, ℕ, List}
use Rattle.std.specs.List.{AllByRecursion}
use Rattle.fleet_model.specs.State.{State}
use Rattle.screens.specs.Asked.{Fail}
use Rattle.book.specs.Verdicts.{sums_in}

-- what a key of a table sums up to meets no filter of the table, at any moment
abbrev pub MeetsNone : State → ℕ → List ℕ → Type 0
MeetsNone state table key = AllByRecursion (λ filter. filter.table ≡ table
    → (t : ℕ) → Fail filter.conds (λ col. sums_in state table key col t)) state.config.filters
