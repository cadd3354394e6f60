-- Updates of keys that no filter has to judge.
use Rattle.std.proofs.Common.{◌≡◌, ℕ, ◌<◌, ◌≤◌, List, [], ◌∷◌, Option, map, false, refl, sym, ap}
use Rattle.std.proofs.Common.{◌∙◌, subst, arith}
use Rattle.std.specs.List.{AllByRecursion, list_all}
use Rattle.agg_types.specs.Op.{op_holds}
use Rattle.agg_types.specs.declared.column.Col.{Col}
use Rattle.agg_types.specs.declared.config.Config.{Config}
use Rattle.agg_types.specs.declared.config.Filter.{Filter}
use Rattle.fleet_model.specs.Keys.{Rows, key_rows, worth_of}
use Rattle.fleet_model.specs.State.{State}
use Rattle.fleet_model.specs.Values.{cols_of}
use Rattle.peer_rows.specs.Most.{most_in}
use Rattle.peer_rows.specs.declared.row.Row.{Row}
use Rattle.screens.specs.Asked.{AreBelow, AreScreened, Fail, FallShort, IsScreen, asked_at, nothing}
use Rattle.screens.specs.Asked.{place_in}
use Rattle.screens.specs.declared.screens.Screens.{Screens}
use Rattle.standing_filters.specs.Verdicts.{IsVerdict}
use Rattle.standing_filters.specs.Watched.{AreTouched, HaveNone, IsTouched, Watched, verdict_at}
use Rattle.standing_filters.specs.Verdicts.{out}
use Rattle.standing_filters.proofs.Lawful.{touch_keeps_verdicts}
use Rattle.standing_filters.proofs.Told.{never_in}
use Rattle.book_machine.specs.Foreseen.{within}
use Rattle.book.specs.Screened.{MeetsNone}
use Rattle.book_rows.specs.Shown.{of_peer, rows_worth}
use Rattle.book.specs.Verdicts.{AreAll, ChangesKey, living_in, sums_in}
use Rattle.book_rows.proofs.Bounding.{rows_most}
use Rattle.book.proofs.Judging.{touched_held}
use Rattle.book_rows.proofs.Reading.{worth_shown}

-- rows that are worth less than is asked meet no filter
pub meets_none : (state : State) (table : ℕ) (key : List ℕ) (screens : Screens)
    (rows : List (ℕ × Row)) → map (of_peer table key) rows ≡ key_rows state.rows table key
    → IsScreen (cols_of state.config.tables table) state.config.filters table screens
    → AreBelow screens.least rows → MeetsNone state table key
meets_none state table key screens rows own screen below =
    each state.config.filters screen.screened
  where
    short : (t : ℕ) → FallShort screens.least (cols_of state.config.tables table)
        (λ col. sums_in state table key col t)
    short t col asked =
        let under = rows_most (cols_of state.config.tables table) col (within t) rows in
        let same : rows_worth (cols_of state.config.tables table) col (within t) rows
        ≡ worth_of (cols_of state.config.tables table) (key_rows state.rows table key) col (within t)
        = worth_shown table key (cols_of state.config.tables table) col (within t) rows
        ∙ ap (λ (l : Rows). worth_of (cols_of state.config.tables table) l col (within t)) own in
        let least = below (place_in (cols_of state.config.tables table) col) asked in
        omega (arith, under, same, least)

    each : (filters : List Filter)
        → AreScreened screens.least (cols_of state.config.tables table) table filters
        → AllByRecursion (λ filter. filter.table ≡ table
        → (t : ℕ) → Fail filter.conds (λ col. sums_in state table key col t)) filters
    each [] all = tt
    each (filter ∷ filters) all = (
      λ here t. all.0 here (λ col. sums_in state table key col t) (short t),
      each filters all.1,
    )

-- a key that has no verdict and meets no filter is judged already
module _ (state : State) (table : ℕ) (key : List ℕ) where
  passed : (w : Watched) → verdict_at w.kept key ≡ out
      → (w.filter.table ≡ table
      → (t : ℕ) → Fail w.filter.conds (λ col. sums_in state table key col t))
      → IsTouched (sums_in state) (living_in state) table key state.moment w w
  passed w none fails = record {
    filter = refl;
    judged = λ here.
        subst (λ v. IsVerdict (sums_in state) (living_in state) w.filter state.moment key v)
        (sym none)
        (never_in (living_in state w.filter.table key)
        (λ t. list_all (λ cond. op_holds cond.op
        (sums_in state w.filter.table key cond.col t) cond.bound) w.filter.conds) state.moment
        (λ t. subst (λ (n : ℕ). list_all (λ cond. op_holds cond.op
        (sums_in state n key cond.col t) cond.bound) w.filter.conds ≡ false) (sym here)
        (fails here t)));
    others = λ other apart. refl;
    elsewhere = λ apart. refl;
  }

  each_passed : (ws : List Watched) → HaveNone key ws
      → AllByRecursion (λ (filter : Filter). filter.table ≡ table
      → (t : ℕ) → Fail filter.conds (λ col. sums_in state table key col t))
      (map (λ (w : Watched). w.filter) ws)
      → AreTouched (sums_in state) (living_in state) table key state.moment ws ws
  each_passed [] none fails = tt
  each_passed (w ∷ ws) none fails = (
    passed w none.0 fails.0,
    each_passed ws none.1 fails.1,
  )

  all_passed : (ws : List Watched)
      → map (λ (w : Watched). w.filter) ws ≡ state.config.filters
      → HaveNone key ws → MeetsNone state table key
      → AreTouched (sums_in state) (living_in state) table key state.moment ws ws
  all_passed ws same none meets = each_passed ws none
      (subst (λ (fs : List Filter). AllByRecursion (λ filter. filter.table ≡ table
      → (t : ℕ) → Fail filter.conds (λ col. sums_in state table key col t)) fs) (sym same) meets)

-- so verdicts stay as they are where the rows of such a key have changed
pub passed_held : (state later : State) (table : ℕ) (key : List ℕ) (ws : List Watched)
    → ChangesKey table key state later → HaveNone key ws → MeetsNone later table key
    → AreAll state ws → AreAll later ws
passed_held state later table key ws changes none meets held =
    touched_held touch_keeps_verdicts state later table key ws ws changes
    (all_passed later table key ws
    (held.filters ∙ ap (λ (c : Config). c.filters) (sym changes.config)) none meets) held
