-- The keys that are shown, and those that a clear takes.
use Rattle.std.specs.Prelude.{ℕ, List, [], filter}
use Rattle.agg_types.specs.declared.event.Select.{Select}
use Rattle.fleet_model.specs.Answers.{keys_of, summed}
use Rattle.fleet_model.specs.State.{State}
use Rattle.fleet_model.specs.Values.{cols_of, selects}
use Rattle.answer_text.specs.Tables.{shape_of}
use Rattle.show_clear.specs.Answer.{line_if}

-- the line of a key's row, if it has one
abbrev pub key_row : State → ℕ → List ℕ → List ℕ
key_row state table key = line_if (shape_of state table) [] (key, summed state table key)

-- the keys of a table that a clear takes
abbrev pub taken_keys : State → ℕ → Select → List (List ℕ)
taken_keys state table sel =
    filter
    (λ key. selects (cols_of state.config.tables table) state.rows table state.moment sel key)
    (keys_of state table)
