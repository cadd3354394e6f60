-- A command written out: the words of its line.
use Rattle.std.specs.Prelude.{ℕ, ◌^◌, Bool, true, ◌&&◌, not, nat_le, nat_lt, List, [], ◌∷◌, ◌++◌}
use Rattle.std.specs.Prelude.{codes, length}
use Rattle.std.specs.List.{flat_map, join_with_byte, list_all, list_any}
use Rattle.std.specs.Str.{bytes_eq}
use Rattle.agg_types.specs.Fits.{at_table, filter_fits, select_fits}
use Rattle.agg_types.specs.declared.config.KeyKind.{KeyKind}
use Rattle.agg_types.specs.declared.config.Shape.{Shape}
use Rattle.agg_types.specs.declared.event.Select.{Select}
use Rattle.agg_types.specs.declared.event.Select.TheVariants.{All, One, Conds}
use Rattle.agg_types.specs.declared.limits.TheConstants.{MOST_FILTERS}
use Rattle.fleet_model.specs.Answers.{filter_of}
use Rattle.fleet_model.specs.Filters.{is_added}
use Rattle.fleet_model.specs.Ranking.{rank_of}
use Rattle.fleet_model.specs.State.{State}
use Rattle.key_text.specs.Printed.{key_text}
use Rattle.line_words.specs.Conditions.{condition_words, have_bounds}
use Rattle.answer_text.specs.Tables.{shape_of}
use Rattle.show_clear.specs.declared.command.Change.{Change}
use Rattle.show_clear.specs.declared.command.Change.TheVariants.{Clear, AddFilter, DropFilter}
use Rattle.show_clear.specs.declared.command.Command.{Command}
use Rattle.show_clear.specs.declared.command.Command.TheVariants.{Ask, Change as Changes}
use Rattle.show_clear.specs.declared.command.Question.{Question}
use Rattle.show_clear.specs.declared.command.Question.TheVariants.{Tables, Table, FilterKeys}
use Rattle.show_clear.specs.declared.command.Question.TheVariants.{Ranking, NextChange, OneKey}

-- a selector: nothing for all keys, `key` and a key, or conditions
abbrev pub selector_words : KeyKind → Select → List (List ℕ)
selector_words kind All = []
selector_words kind (One key) = codes "key" ∷ key_text kind key ∷ []
selector_words kind (Conds conds) = flat_map condition_words conds

-- the name of a table and a selector
abbrev pub table_words : Shape → Select → List (List ℕ)
table_words shape sel = shape.name ∷ selector_words shape.kind sel

abbrev pub question_words : State → Question → List (List ℕ)
question_words state Tables = codes "show" ∷ codes "table" ∷ []
question_words state (Table table sel) =
    codes "show" ∷ codes "table" ∷ table_words (shape_of state table) sel
question_words state (FilterKeys at) =
    codes "show" ∷ codes "filter" ∷ (filter_of state at).name ∷ []
question_words state (Ranking at) = codes "show" ∷ codes "rank" ∷ (rank_of state at).name ∷ []
question_words state (NextChange at) = codes "show" ∷ codes "next" ∷ (filter_of state at).name ∷ []
question_words state (OneKey table key) =
    codes "show" ∷ codes "key" ∷ (shape_of state table).name
    ∷ key_text (shape_of state table).kind key ∷ []

abbrev pub change_words : State → Change → List (List ℕ)
change_words state (Clear table sel) =
    codes "clear" ∷ codes "table" ∷ table_words (shape_of state table) sel
change_words state (AddFilter filter) =
    codes "add" ∷ codes "filter" ∷ filter.name ∷ (shape_of state filter.table).name
    ∷ flat_map condition_words filter.conds
change_words state (DropFilter name) = codes "del" ∷ codes "filter" ∷ name ∷ []

abbrev pub command_words : State → Command → List (List ℕ)
command_words state (Ask question) = question_words state question
command_words state (Changes change) = change_words state change

-- the line: its words, with one space between them
abbrev pub command_line : State → Command → List ℕ
command_line state command = join_with_byte 32 (command_words state command)

-- a key that can be a word: it has some bytes, of 8 bits each
abbrev pub can_name : List ℕ → Bool
can_name key = nat_le 1 (length key) && list_all (λ byte. nat_lt byte (2 ^ 8)) key

-- whether a selector's key and numbers can be written
abbrev pub can_select : Select → Bool
can_select All = true
can_select (One key) = can_name key
can_select (Conds conds) = have_bounds conds

-- whether a table is there, and a selector of its keys can be written
abbrev pub can_pick : State → ℕ → Select → Bool
can_pick state table sel =
    at_table state.config.tables table (λ shape. select_fits shape sel) && can_select sel

-- whether a filter may be added, under a name that none has yet
abbrev pub can_add : State → List ℕ → Bool
can_add state name = nat_lt (length state.config.filters) MOST_FILTERS
    && not (list_any (λ other. bytes_eq other.name name) state.config.filters)

-- whether a command can be asked for: what it names is there, and it fits
abbrev pub can_ask : State → Command → Bool
can_ask state (Ask Tables) = true
can_ask state (Ask (Table table sel)) = can_pick state table sel
can_ask state (Ask (FilterKeys at)) = nat_lt at (length state.config.filters)
can_ask state (Ask (Ranking at)) = nat_lt at (length state.config.ranks)
can_ask state (Ask (NextChange at)) = nat_lt at (length state.config.filters)
can_ask state (Ask (OneKey table key)) = can_pick state table (One key)
can_ask state (Changes (Clear table sel)) = can_pick state table sel
can_ask state (Changes (AddFilter filter)) = filter_fits state.config.tables filter
    && have_bounds filter.conds && can_add state filter.name
can_ask state (Changes (DropFilter name)) = is_added state.configured state.config.filters name
