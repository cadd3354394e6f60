-- What a row holds where a column lies is what the column is worth.
use Rattle.std.proofs.Common.{◌≡◌, ℕ, ◌+◌, ◌-◌, ◌*◌, Bool, true, false, cond, List, [], ◌∷◌, Option}
use Rattle.std.proofs.Common.{Some, None, refl, sym, ap, ◌∙◌, ◌≤◌, map, arith}
use Rattle.std.proofs.Math.Numerals.{add-one}
use Rattle.std.specs.Prelude.{slice_get}
use Rattle.std.specs.Option.{option_map}
use Rattle.agg_types.specs.Col.{same_col}
use Rattle.agg_types.specs.declared.column.Col.{Col}
use Rattle.fleet_model.specs.Keys.{row_worth}
use Rattle.fleet_model.specs.Moments.{is_live}
use Rattle.fleet_model.specs.Values.{cell_worth, column_worth}
use Rattle.peer_rows.specs.declared.row.Held.{Held}
use Rattle.peer_rows.specs.declared.row.Held.TheVariants.{Count, Rate}
use Rattle.period_rate.proofs.Falling.{rate_ends, rate_falls}
use Rattle.period_rate.specs.Rate.{elapsed_at}
use Rattle.period_rate.specs.declared.rate.Rate.{Rate as Rates}
use Rattle.fleet_model.proofs.Falls.{lived_before}
use Rattle.peer_rows.specs.declared.row.Row.{Row}
use Rattle.book_rows.specs.Placed.{found_in}
use Rattle.book_rows.specs.Shown.{as_arrival, cell_of, rows_worth}
use Rattle.std.proofs.lemmas.List.Sums.{sum_by-cons}
use Rattle.std.proofs.lemmas.Option.{slice_get-map}
use Rattle.agg_types.specs.declared.event.Cell.{Cell}

-- what a cell that was found is worth, and nothing where none was
abbrev pub held_worth : ℕ → ℕ → ℕ → Option Held → ℕ
held_worth period since arrived None = 0
held_worth period since arrived (Some held) = cell_worth period since (cell_of arrived held)

-- what cells are worth at a place
abbrev pub placed_worth : Option (ℕ × ℕ) → ℕ → ℕ → List Held → ℕ
placed_worth None since arrived cells = 0
placed_worth (Some place) since arrived cells =
    held_worth place.1 since arrived (slice_get cells place.0)

-- a column's position and its period, behind some others
abbrev pub behind : ℕ → Option (ℕ × ℕ) → Option (ℕ × ℕ)
behind before found = option_map (λ (place : ℕ × ℕ). (before + place.0, place.1)) found

-- ---- cells as they come
-- what a cell that was found is worth, and nothing where none was
abbrev pub cell_found : ℕ → ℕ → Option Cell → ℕ
cell_found period since None = 0
cell_found period since (Some cell) = cell_worth period since cell

-- what cells are worth at a place
abbrev pub worth_at : Option (ℕ × ℕ) → ℕ → List Cell → ℕ
worth_at None since cells = 0
worth_at (Some place) since cells = cell_found place.1 since (slice_get cells place.0)

get_none : (i : ℕ) → slice_get {X = Cell} [] i ≡ None
get_none i = refl

get_more : (xs : List Cell) (x : Cell) (i : ℕ) → slice_get (x ∷ xs) (i + 1) ≡ slice_get xs i
get_more xs x i = rw add-one refl

shifted_none : (o : Option (ℕ × ℕ)) (since : ℕ)
    → worth_at (option_map (λ place. (place.0 + 1, place.1)) o) since [] ≡ 0
shifted_none None since = refl
shifted_none (Some place) since = ap (cell_found place.1 since) (get_none (place.0 + 1))

shifted : (o : Option (ℕ × ℕ)) (since : ℕ) (c : Cell) (cells : List Cell)
    → worth_at (option_map (λ place. (place.0 + 1, place.1)) o) since (c ∷ cells)
    ≡ worth_at o since cells
shifted None since c cells = refl
shifted (Some place) since c cells = ap (cell_found place.1 since) (get_more cells c place.0)

pub column_at : (col : Col) (since : ℕ) (cols : List (Col × ℕ)) (cells : List Cell)
    → column_worth col since cols cells ≡ worth_at (found_in cols col) since cells
column_at col since [] cells = refl
column_at col since (s ∷ cols) [] = by (same_col s.0 col)
  where
    by : (b : Bool) → 0 ≡ worth_at (cond b (Some (0, s.1))
        (option_map (λ place. (place.0 + 1, place.1)) (found_in cols col))) since []
    by true = refl
    by false = sym (shifted_none (found_in cols col) since)
column_at col since (s ∷ cols) (c ∷ cells) =
    by (column_at col since cols cells) (same_col s.0 col)
  where
    by : column_worth col since cols cells ≡ worth_at (found_in cols col) since cells
        → (b : Bool) → cond b (cell_worth s.1 since c) (column_worth col since cols cells)
        ≡ worth_at (cond b (Some (0, s.1))
        (option_map (λ place. (place.0 + 1, place.1)) (found_in cols col))) since (c ∷ cells)
    by rest true = refl
    by rest false = rest ∙ sym (shifted (found_in cols col) since c cells)

-- the worth of a column that isn't stored, and of one whose cell lies at a place
pub worth_unstored : (col : Col) (since : ℕ) (cols : List (Col × ℕ)) (cells : List Cell)
    (o : Option (ℕ × ℕ)) → o ≡ found_in cols col → o ≡ None
    → 0 ≡ column_worth col since cols cells
worth_unstored col since cols cells o is none =
    sym (column_at col since cols cells
    ∙ ap (λ o. worth_at o since cells) (sym is ∙ none))

pub worth_placed : (col : Col) (since : ℕ) (cols : List (Col × ℕ)) (cells : List Cell)
    (o : Option (ℕ × ℕ)) (place period : ℕ) (cell : Option Cell)
    → o ≡ found_in cols col → o ≡ Some (place, period) → cell ≡ slice_get cells place
    → (worth : ℕ) → worth ≡ cell_found period since cell
    → worth ≡ column_worth col since cols cells
worth_placed col since cols cells o place period cell is some there worth worths =
    worths ∙ ap (cell_found period since) there
    ∙ sym (column_at col since cols cells
    ∙ ap (λ o. worth_at o since cells) (sym is ∙ some))

-- ---- cells as a row holds them
cell_held : (period since arrived : ℕ) (held : Option Held)
    → cell_found period since (option_map (cell_of arrived) held)
    ≡ held_worth period since arrived held
cell_held period since arrived None = refl
cell_held period since arrived (Some held) = refl

held_at : (o : Option (ℕ × ℕ)) (since arrived : ℕ) (cells : List Held)
    → worth_at o since (map (cell_of arrived) cells) ≡ placed_worth o since arrived cells
held_at None since arrived cells = refl
held_at (Some place) since arrived cells =
    ap (cell_found place.1 since) (slice_get-map (cell_of arrived) cells place.0)
    ∙ cell_held place.1 since arrived (slice_get cells place.0)

pub column_found : (col : Col) (since arrived : ℕ) (cols : List (Col × ℕ)) (cells : List Held)
    → column_worth col since cols (map (cell_of arrived) cells)
    ≡ placed_worth (found_in cols col) since arrived cells
column_found col since arrived cols cells =
    column_at col since cols (map (cell_of arrived) cells)
    ∙ held_at (found_in cols col) since arrived cells

row_found : (cols : List (Col × ℕ)) (col : Col) (t : ℕ) (row : Row) (o : Option (ℕ × ℕ))
    → o ≡ found_in cols col
    → row_worth cols col t (as_arrival row) ≡ cond (is_live t (as_arrival row))
    (placed_worth o (t - row.arrived) row.arrived row.cells) 0
row_found cols col t row o is =
    ap (λ n. cond (is_live t (as_arrival row)) n 0)
    (column_found col (t - row.arrived) row.arrived cols row.cells
    ∙ ap (λ o. placed_worth o (t - row.arrived) row.arrived row.cells) (sym is))

-- a row that lives is worth what it holds there
pub row_lives : (cols : List (Col × ℕ)) (col : Col) (t : ℕ) (row : Row) (o : Option (ℕ × ℕ))
    → is_live t (as_arrival row) ≡ true → o ≡ found_in cols col
    → placed_worth o (t - row.arrived) row.arrived row.cells ≡ row_worth cols col t (as_arrival row)
row_lives cols col t row o lives is =
    sym (row_found cols col t row o is
    ∙ ap (λ b. cond b (placed_worth o (t - row.arrived) row.arrived row.cells) 0) lives)

pub row_holds : (cols : List (Col × ℕ)) (col : Col) (t : ℕ) (row : Row) (o : Option (ℕ × ℕ))
    (place period : ℕ) (held : Option Held)
    → is_live t (as_arrival row) ≡ true → o ≡ found_in cols col → o ≡ Some (place, period)
    → held ≡ slice_get row.cells place
    → held_worth period (t - row.arrived) row.arrived held ≡ row_worth cols col t (as_arrival row)
row_holds cols col t row o place period held lives is some there =
    ap (held_worth period (t - row.arrived) row.arrived) there
    ∙ ap (λ o. placed_worth o (t - row.arrived) row.arrived row.cells) (sym some)
    ∙ row_lives cols col t row o lives is

-- ---- a row's worth never rises, and ends
held_falls : (period since later arrived : ℕ) (o : Option Held) → since ≤ later
    → held_worth period later arrived o ≤ held_worth period since arrived o
unfolding cell_worth
held_falls period since later arrived None h = omega arith
held_falls period since later arrived (Some (Count n)) h = omega arith
held_falls period since later arrived (Some (Rate r)) h =
    rate_falls period r.prev r.cur (elapsed_at r arrived + since) (elapsed_at r arrived + later)
    (omega arith)

placed_falls : (o : Option (ℕ × ℕ)) (since later arrived : ℕ) (cells : List Held) → since ≤ later
    → placed_worth o later arrived cells ≤ placed_worth o since arrived cells
placed_falls None since later arrived cells h = omega arith
placed_falls (Some place) since later arrived cells h =
    held_falls place.1 since later arrived (slice_get cells place.0) h

pub row_falls : (cols : List (Col × ℕ)) (col : Col) (t u : ℕ) (row : Row) → t ≤ u
    → row_worth cols col u (as_arrival row) ≤ row_worth cols col t (as_arrival row)
row_falls cols col t u row h =
    by (is_live u (as_arrival row)) (is_live t (as_arrival row)) refl refl
  where
    worth : ℕ → ℕ
    worth at = column_worth col (at - row.arrived) cols (map (cell_of row.arrived) row.cells)

    less : worth u ≤ worth t
    less =
        let now = column_found col (t - row.arrived) row.arrived cols row.cells in
        let then = column_found col (u - row.arrived) row.arrived cols row.cells in
        let falls = placed_falls (found_in cols col) (t - row.arrived) (u - row.arrived)
        row.arrived row.cells (omega arith) in
        omega (arith, now, then, falls)

    by : (a b : Bool) → is_live u (as_arrival row) ≡ a → is_live t (as_arrival row) ≡ b
        → cond a (worth u) 0 ≤ cond b (worth t) 0
    by true true e f = less
    by false b e f = omega arith
    by true false e f =
        let lived : is_live t (as_arrival row) ≡ true =
        lived_before (as_arrival row).life row.arrived t u h e in cc

-- the rate that a row holds in a place is over, or the row has ended
pub rate_over : (cols : List (Col × ℕ)) (col : Col) (t place period : ℕ) (row : Row) (r : Rates)
    → found_in cols col ≡ Some (place, period) → Some (Rate r) ≡ slice_get row.cells place
    → row.arrived + (2 * period + 1) - elapsed_at r row.arrived ≤ t
    → row_worth cols col t (as_arrival row) ≡ 0
unfolding cell_worth
rate_over cols col t place period row r is holds over =
    row_found cols col t row (found_in cols col) refl ∙ by (is_live t (as_arrival row))
  where
    nothing : placed_worth (found_in cols col) (t - row.arrived) row.arrived row.cells ≡ 0
    nothing =
        ap (λ o. placed_worth o (t - row.arrived) row.arrived row.cells) is
        ∙ ap (held_worth period (t - row.arrived) row.arrived) (sym holds)
        ∙ rate_ends period r.prev r.cur (elapsed_at r row.arrived + (t - row.arrived))
        (omega arith)

    by : (b : Bool) → cond b (placed_worth (found_in cols col) (t - row.arrived) row.arrived
        row.cells) 0 ≡ 0
    by true = nothing
    by false = refl

pub ended_row : (cols : List (Col × ℕ)) (col : Col) (t : ℕ) (row : Row)
    → is_live t (as_arrival row) ≡ false → row_worth cols col t (as_arrival row) ≡ 0
ended_row cols col t row ended = rw ended refl

pub rows_split : (cols : List (Col × ℕ)) (col : Col) (t : ℕ) (rows : List (ℕ × Row)) (p : ℕ × Row)
    (rest : List (ℕ × Row)) → rows ≡ p ∷ rest
    → rows_worth cols col t rows
    ≡ row_worth cols col t (as_arrival p.1) + rows_worth cols col t rest
rows_split cols col t rows p rest is =
    ap (rows_worth cols col t) is
    ∙ sum_by-cons (λ (p : ℕ × Row). row_worth cols col t (as_arrival p.1)) p rest
