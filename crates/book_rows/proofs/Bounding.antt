-- What rows are worth at any moment is no more than the most that is kept with them.
use Rattle.std.proofs.Common.{◌≡◌, ℕ, suc, ◌+◌, ◌-◌, ◌≤◌, Bool, true, false, cond, not, List, []}
use Rattle.std.proofs.Common.{◌∷◌, Option, Some, None, IfSome, ap, sym, subst, ◌∙◌, arith, length}
use Rattle.std.proofs.Common.{nat_lt, map, refl}
use Rattle.std.proofs.lemmas.Bool.Decides.{nat_tests}
use Rattle.std.proofs.lemmas.List.Sums.{prefix_len-le-length, sum_by-le-sum_by}
use Rattle.std.specs.Borrow.{Bor}
use Rattle.std.specs.List.{position, position_or_len}
use Rattle.agg_types.specs.Col.{same_col}
use Rattle.agg_types.specs.declared.column.Col.{Col}
use Rattle.fleet_model.specs.Keys.{Rows, key_rows, row_worth, worth_of}
use Rattle.fleet_model.specs.Moments.{is_live}
use Rattle.fleet_model.specs.Values.{cell_worth, column_worth}
use Rattle.peer_rows.specs.Most.{most_at, most_in, most_of}
use Rattle.peer_rows.specs.declared.row.Held.{Held}
use Rattle.peer_rows.specs.declared.row.Held.TheVariants.{Count, Rate}
use Rattle.peer_rows.specs.declared.row.Row.{Row}
use Rattle.period_rate.proofs.Falling.{rate_le}
use Rattle.period_rate.specs.Rate.{elapsed_at}
use Rattle.book_rows.specs.Shown.{as_arrival, cell_of, found_worth, rows_worth}
use Rattle.book_rows.specs.Store.{AreFound}
use Rattle.book_rows.proofs.Reading.{worth_shown}

-- where a table stores a column
abbrev pub stored_at : Col → List (Col × ℕ) → ℕ
stored_at col cols = position_or_len (λ stored. same_col stored.0 col) cols

cell_most : (period since arrived : ℕ) (held : Held)
    → cell_worth period since (cell_of arrived held) ≤ most_of held
unfolding cell_worth
cell_most period since arrived (Count n) = omega arith
cell_most period since arrived (Rate r) =
    rate_le period r.prev r.cur (elapsed_at r arrived + since)

column_most : (col : Col) (since arrived : ℕ) (cols : List (Col × ℕ)) (cells : List Held)
    → column_worth col since cols (map (cell_of arrived) cells) ≤ most_at cells (stored_at col cols)
column_most col since arrived [] cells = omega arith
column_most col since arrived (s ∷ cols) [] = omega arith
column_most col since arrived (s ∷ cols) (c ∷ cells) =
    by (column_most col since arrived cols cells) (same_col s.0 col)
  where
    next : suc (stored_at col cols) ≡ 1 + stored_at col cols
    next = omega arith

    by : column_worth col since cols (map (cell_of arrived) cells)
        ≤ most_at cells (stored_at col cols)
        → (b : Bool) → cond b (cell_worth s.1 since (cell_of arrived c))
        (column_worth col since cols (map (cell_of arrived) cells))
        ≤ most_at (c ∷ cells) (cond (not b) (1 + stored_at col cols) 0)
    by more true = cell_most s.1 since arrived c
    by more false =
        subst (λ n. column_worth col since cols (map (cell_of arrived) cells)
        ≤ most_at (c ∷ cells) n) next more

row_most : (cols : List (Col × ℕ)) (col : Col) (t : ℕ) (row : Row)
    → row_worth cols col t (as_arrival row) ≤ most_at row.cells (stored_at col cols)
row_most cols col t row = by (is_live t (as_arrival row))
  where
    by : (b : Bool) → cond b (column_worth col (t - row.arrived) cols
        (map (cell_of row.arrived) row.cells)) 0 ≤ most_at row.cells (stored_at col cols)
    by true = column_most col (t - row.arrived) row.arrived cols row.cells
    by false = omega arith

pub rows_most : (cols : List (Col × ℕ)) (col : Col) (t : ℕ) (rows : List (ℕ × Row))
    → rows_worth cols col t rows ≤ most_in (stored_at col cols) rows
rows_most cols col t rows =
    sum_by-le-sum_by (λ (p : ℕ × Row). row_worth cols col t (as_arrival p.1))
    (λ (p : ℕ × Row). most_at p.1.cells (stored_at col cols)) rows
    (λ p. row_most cols col t p.1)

-- the most of rows is the most at any moment
pub some_most : (o : Option ℕ) (cols : List (Col × ℕ)) (col : Col) (at : ℕ)
    (rows : List (ℕ × Row)) → at ≡ stored_at col cols → IfSome o (λ most. most_in at rows ≤ most)
    → IfSome o (λ most. (t : ℕ) → rows_worth cols col t rows ≤ most)
some_most None cols col at rows is above = tt
some_most (Some most) cols col at rows is above = λ t.
    let under = rows_most cols col t rows in
    let same : most_in at rows ≡ most_in (stored_at col cols) rows =
    ap (λ n. most_in n rows) is in
    omega (arith, under, same, above)

-- a place that was looked for is the first, or else that behind the last
module _ {X : Type 0} (p : X → Bool) (xs : List X) where
  place_by : (b : Bool) → nat_lt (position_or_len p xs) (length xs) ≡ b → (o : Option ℕ)
      → o ≡ cond b (Some (position_or_len p xs)) None
      → ((at : ℕ) → o ≡ Some at → at ≡ position_or_len p xs)
      × (o ≡ None → length xs ≡ position_or_len p xs)
  place_by true is o same = (λ at some. cc, λ none. cc)
  place_by false is o same =
      let short = prefix_len-le-length (λ x. not (p x)) xs in
      (λ at some. cc, λ none. grind (arith, nat_tests, short))

  pub place_found : (o : Option ℕ) (at : ℕ) → o ≡ position p xs → o ≡ Some at
      → at ≡ position_or_len p xs
  place_found o at is some =
      (place_by (nat_lt (position_or_len p xs) (length xs)) refl o is).0 at some

  pub place_behind : (o : Option ℕ) → o ≡ position p xs → o ≡ None
      → length xs ≡ position_or_len p xs
  place_behind o is none =
      (place_by (nat_lt (position_or_len p xs) (length xs)) refl o is).1 none

-- what was found of a key is worth what its rows are
pub worth_found : (rows : Rows) (table : ℕ) (key : List ℕ) (cols : List (Col × ℕ)) (col : Col)
    (t : ℕ) (found : Option (Bor (List (ℕ × Row)))) → AreFound rows table key found
    → found_worth cols col t found ≡ worth_of cols (key_rows rows table key) col t
worth_found rows table key cols col t None are =
    ap (λ own. worth_of cols own col t) (sym are)
worth_found rows table key cols col t (Some found) are =
    worth_shown table key cols col t found.now ∙ ap (λ own. worth_of cols own col t) are
