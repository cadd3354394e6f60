-- Conditions are judged alike, of a key's rows and of its summed row.
use Rattle.std.proofs.Common.{◌≡◌, ℕ, Bool, true, false, ◌&&◌, List, [], ◌∷◌, ◌++◌, map}
use Rattle.std.proofs.Common.{filter, get_or, Option, None, Some, if◌then◌else◌, refl, sym, ap, ◌∙◌}
use Rattle.std.specs.List.{flat_map}
use Rattle.agg_types.proofs.Columns.{value_at_place}
use Rattle.agg_types.specs.Col.{all_cols, place}
use Rattle.agg_types.specs.Op.{op_holds}
use Rattle.agg_types.specs.declared.column.Col.{Col}
use Rattle.agg_types.specs.declared.config.Cond.{Cond}
use Rattle.agg_types.specs.declared.event.Select.TheVariants.{Conds}
use Rattle.agg_types.specs.declared.row_key.RowKey.{RowKey}
use Rattle.fleet_model.specs.Answers.{key_value, keys_of, listed, rows_of, sum_up, summed}
use Rattle.fleet_model.specs.State.{State}
use Rattle.fleet_model.specs.Values.{cols_of, meets, value}
use Rattle.fleet_model.specs.declared.arrival.Arrival.{Arrival}
use Rattle.fleet_model.specs.declared.summed.Summed.{Summed}
use Rattle.answer_text.specs.Tables.{row_text, shape_of, value_in}
use Rattle.show_clear.specs.Answer.{all_hold, line_if, rows_text}
use Rattle.show_clear.specs.Selected.{key_row, taken_keys}

summed_is : {x y : Summed} → Some x ≡ Some y → x ≡ y
summed_is same = cc

-- a summed row has the values that were summed up
sums_have : (values : List ℕ) (t : ℕ) (rows : List (RowKey × Arrival)) (sums : Summed)
    → sum_up values t rows ≡ Some sums → sums.values ≡ values
sums_have values t [] sums is = absurd cc
sums_have values t (row ∷ rows) sums is = ap (λ (s : Summed). s.values) (sym (summed_is is))

pub shown_value : (state : State) (table : ℕ) (key : List ℕ) (sums : Summed) (col : Col)
    → summed state table key ≡ Some sums
    → value_in sums col ≡ value (cols_of state.config.tables table) state.rows table key
    col state.moment
unfolding summed
shown_value state table key sums col is =
    let f : Col → ℕ = λ col. key_value state table key col state.moment in
    ap (λ (values : List ℕ). get_or values (place col) 0)
    (sums_have (map f all_cols) state.moment (rows_of state table key) sums is)
    ∙ value_at_place f col

-- conditions hold of a row that is shown where the key meets them
pub holds_as_met : (state : State) (table : ℕ) (key : List ℕ) (conds : List Cond) (sums : Summed)
    → summed state table key ≡ Some sums
    → all_hold conds sums ≡ meets (cols_of state.config.tables table) state.rows table key
    state.moment conds
unfolding meets
holds_as_met state table key [] sums is = refl
holds_as_met state table key (cond ∷ conds) sums is =
    let rest : all_hold conds sums ≡ meets (cols_of state.config.tables table) state.rows table key
    state.moment conds = holds_as_met state table key conds sums is in
    ap (λ (v : ℕ). op_holds cond.op v cond.bound && all_hold conds sums)
    (shown_value state table key sums cond.col is)
    ∙ ap (λ (b : Bool). op_holds cond.op (value (cols_of state.config.tables table) state.rows table
    key cond.col state.moment) cond.bound && b) rest

-- a key's line is there where the key meets the conditions
line_chosen : (state : State) (table : ℕ) (key : List ℕ) (conds : List Cond) (found : Option Summed)
    (rest : List (List ℕ)) → summed state table key ≡ found
    → line_if (shape_of state table) conds (key, found) ++ flat_map (key_row state table) rest
    ≡ flat_map (key_row state table) (if meets (cols_of state.config.tables table) state.rows table
    key state.moment conds then key ∷ rest else rest)
line_chosen state table key conds None rest is =
    by (meets (cols_of state.config.tables table) state.rows table key state.moment conds)
  where
    by : (b : Bool) → flat_map (key_row state table) rest ≡ flat_map (key_row state table)
        (if b then key ∷ rest else rest)
    by true = ap (λ (o : Option Summed). line_if (shape_of state table) [] (key, o)
        ++ flat_map (key_row state table) rest) (sym is)
    by false = refl
line_chosen state table key conds (Some sums) rest is =
    ap (λ (b : Bool). (if b then row_text (shape_of state table) key sums else [])
    ++ flat_map (key_row state table) rest) (holds_as_met state table key conds sums is)
    ∙ by (meets (cols_of state.config.tables table) state.rows table key state.moment conds)
  where
    by : (b : Bool) → (if b then row_text (shape_of state table) key sums else [])
        ++ flat_map (key_row state table) rest ≡ flat_map (key_row state table)
        (if b then key ∷ rest else rest)
    by true = ap (λ (o : Option Summed). line_if (shape_of state table) [] (key, o)
        ++ flat_map (key_row state table) rest) (sym is)
    by false = refl

lines_chosen : (state : State) (table : ℕ) (conds : List Cond) (keys : List (List ℕ))
    → flat_map (line_if (shape_of state table) conds)
    (map (λ key. (key, summed state table key)) keys)
    ≡ flat_map (key_row state table)
    (filter (λ key. meets (cols_of state.config.tables table) state.rows table key
    state.moment conds) keys)
lines_chosen state table conds [] = refl
lines_chosen state table conds (key ∷ keys) =
    ap (λ (more : List ℕ). line_if (shape_of state table) conds (key, summed state table key)
    ++ more) (lines_chosen state table conds keys)
    ∙ line_chosen state table key conds (summed state table key)
    (filter (λ key. meets (cols_of state.config.tables table) state.rows table key state.moment
    conds) keys) refl

pub shown_as_taken : (state : State) (table : ℕ) (conds : List Cond)
    → rows_text state table (Conds conds) ≡ flat_map (key_row state table)
    (taken_keys state table (Conds conds))
unfolding listed
shown_as_taken state table conds = lines_chosen state table conds (keys_of state table)
