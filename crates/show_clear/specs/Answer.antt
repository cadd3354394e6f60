-- The texts of answers.
use Rattle.std.specs.Prelude.{◌≡◌, ℕ, ◌+◌, ◌<◌, ⊤, Bool, List, [], ◌∷◌, ◌++◌, codes, length}
use Rattle.std.specs.Prelude.{filter, Option, None, Some, if◌then◌else◌}
use Rattle.std.specs.List.{flat_map, list_all}
use Rattle.agg_types.specs.Op.{op_holds}
use Rattle.agg_types.specs.declared.config.Cond.{Cond}
use Rattle.agg_types.specs.declared.config.Filter.{Filter}
use Rattle.agg_types.specs.declared.config.Rank.{Rank}
use Rattle.agg_types.specs.declared.config.Shape.{Shape}
use Rattle.agg_types.specs.declared.event.Select.{Select}
use Rattle.agg_types.specs.declared.event.Select.TheVariants.{All, One, Conds}
use Rattle.fleet_model.specs.Answers.{filter_of, keys_of, listed, set_at, summed}
use Rattle.fleet_model.specs.Next.{IsNextChange}
use Rattle.fleet_model.specs.Ranking.{rank_of, ranked}
use Rattle.fleet_model.specs.State.{State}
use Rattle.fleet_model.specs.declared.summed.Summed.{Summed}
use Rattle.answer_text.specs.KeyAnswer.{IsKeyText}
use Rattle.answer_text.specs.Lists.{change_text, held_text, period_of, ranking_text}
use Rattle.answer_text.specs.Tables.{heading, row_text, shape_of, value_in}
use Rattle.show_clear.specs.declared.command.Change.{Change}
use Rattle.show_clear.specs.declared.command.Change.TheVariants.{Clear, AddFilter, DropFilter}
use Rattle.show_clear.specs.declared.command.Command.{Command}
use Rattle.show_clear.specs.declared.command.Command.TheVariants.{Ask, Change as Changes}
use Rattle.show_clear.specs.declared.command.Question.{Question}
use Rattle.show_clear.specs.declared.command.Question.TheVariants.{Tables, Table, FilterKeys}
use Rattle.show_clear.specs.declared.command.Question.TheVariants.{Ranking, NextChange, OneKey}

-- the headings of tables, the first of which has this position
abbrev pub headings : State → ℕ → List Shape → List ℕ
headings state table [] = []
headings state table (shape ∷ shapes) =
    heading shape (length (keys_of state table)) ++ headings state (table + 1) shapes

-- whether all conditions hold of a summed row's values
abbrev pub all_hold : List Cond → Summed → Bool
all_hold conds sums = list_all (λ cond. op_holds cond.op (value_in sums cond.col) cond.bound) conds

-- the line of a key's summed row, if it has one of which all conditions hold
abbrev pub line_if : Shape → List Cond → List ℕ × Option Summed → List ℕ
line_if shape conds (key, None) = []
line_if shape conds (key, Some sums) = if all_hold conds sums then row_text shape key sums else []

-- the lines of the selected rows of a table, by key: all, that of a key, or those of which all
-- conditions hold
abbrev pub rows_text : State → ℕ → Select → List ℕ
rows_text state table All = flat_map (line_if (shape_of state table) []) (listed state table)
rows_text state table (One key) = line_if (shape_of state table) [] (key, summed state table key)
rows_text state table (Conds conds) =
    flat_map (line_if (shape_of state table) conds) (listed state table)

-- the lines of rows
abbrev pub row_lines : Shape → List (List ℕ × Summed) → List ℕ
row_lines shape rows = flat_map (λ row. row_text shape row.0 row.1) rows

-- the heading of a table, with the number of all its keys, and its selected rows
abbrev pub table_text : State → ℕ → Select → List ℕ
table_text state table sel =
    heading (shape_of state table) (length (keys_of state table)) ++ rows_text state table sel

abbrev pub filter_text : State → Filter → List ℕ
filter_text state filter =
    held_text filter (shape_of state filter.table) (set_at state filter state.moment)

abbrev pub rank_text : State → Rank → List ℕ
rank_text state rank =
    ranking_text rank (shape_of state rank.table)
    (rank.col, period_of (shape_of state rank.table).cols rank.col) (ranked state rank)

-- the text that says what the next change of a filter is
abbrev pub IsNextText : State → Filter → List ℕ → Type 0
IsNextText state filter text =
    (t : Option ℕ) × IsNextChange state filter t
    × (text ≡ change_text filter (shape_of state filter.table) t)

-- the text of a question's answer
abbrev pub IsAnswerTo : State → Question → List ℕ → Type 0
IsAnswerTo state Tables text = text ≡ headings state 0 state.config.tables
IsAnswerTo state (Table table sel) text = text ≡ table_text state table sel
IsAnswerTo state (FilterKeys filter) text = text ≡ filter_text state (filter_of state filter)
IsAnswerTo state (Ranking rank) text = text ≡ rank_text state (rank_of state rank)
IsAnswerTo state (NextChange filter) text = IsNextText state (filter_of state filter) text
IsAnswerTo state (OneKey table key) text = IsKeyText state table key text

-- the text of a command's answer. A change is answered `ok`.
abbrev pub IsAnswer : State → Command → List ℕ → Type 0
IsAnswer state (Ask question) text = IsAnswerTo state question text
IsAnswer state (Changes change) text = text ≡ codes "ok\n"

-- a command's answer was put behind what was there
abbrev pub Answers : State → Command → List ℕ → List ℕ → Type 0
Answers state command old new = (text : List ℕ) × (new ≡ old ++ text) × IsAnswer state command text

-- a question names what is in a configuration
abbrev pub AskedExists : State → Question → Type 0
AskedExists state Tables = ⊤
AskedExists state (Table table sel) = table < length state.config.tables
AskedExists state (FilterKeys filter) = filter < length state.config.filters
AskedExists state (Ranking rank) = rank < length state.config.ranks
AskedExists state (NextChange filter) = filter < length state.config.filters
AskedExists state (OneKey table key) = table < length state.config.tables

-- a change names what is in a configuration
abbrev pub ChangedExists : State → Change → Type 0
ChangedExists state (Clear table sel) = table < length state.config.tables
ChangedExists state (AddFilter filter) = ⊤
ChangedExists state (DropFilter name) = ⊤

-- a command names what is in a configuration
abbrev pub NamesExist : State → Command → Type 0
NamesExist state (Ask question) = AskedExists state question
NamesExist state (Changes change) = ChangedExists state change
