-- The texts of tables and their rows.
use Rattle.std.specs.Prelude.{ℕ, List, [], ◌++◌, codes, slice_index, slice_index_or}
use Rattle.std.specs.Prelude.{Option, None, Some, if◌then◌else◌}
use Rattle.std.specs.Fmt.{decimal}
use Rattle.std.specs.List.{flat_map}
use Rattle.agg_types.specs.Col.{col_name, is_rate, place}
use Rattle.agg_types.specs.Kind.{kind_name}
use Rattle.agg_types.specs.declared.column.Col.{Col}
use Rattle.agg_types.specs.declared.config.KeyKind.TheVariants.{Integer}
use Rattle.agg_types.specs.declared.config.Shape.{Shape}
use Rattle.fleet_model.specs.State.{State}
use Rattle.fleet_model.specs.declared.summed.Summed.{Summed}
use Rattle.key_text.specs.Printed.{key_text}

abbrev pub no_shape : Shape
no_shape = record { name = []; kind = Integer; size = 0; keep = None; cols = [] }

-- the table at a position
abbrev pub shape_of : State → ℕ → Shape
shape_of state table = slice_index_or state.config.tables table no_shape

-- the rows that each peer may hold, and the keys that there are
abbrev pub counts_text : ℕ → ℕ → List ℕ
counts_text size used = codes ", size:" ++ decimal size ++ codes ", used:" ++ decimal used
    ++ codes "\n"

-- the heading of a table with so many keys
abbrev pub heading : Shape → ℕ → List ℕ
heading shape used =
    codes "# table: " ++ shape.name ++ codes ", type: " ++ kind_name shape.kind
    ++ counts_text shape.size used

-- the name of a column, that of a rate with its period
abbrev pub column_text : Col × ℕ → List ℕ
column_text col =
    if is_rate col.0 then col_name col.0 ++ codes "(" ++ decimal col.1
    ++ codes ")" else col_name col.0

-- a column with its value, behind a space
abbrev pub cell_text : Col × ℕ → ℕ → List ℕ
cell_text col value = codes " " ++ column_text col ++ codes "=" ++ decimal value

-- a summed row's value of a column
abbrev pub value_in : Summed → Col → ℕ
value_in sums col = slice_index sums.values (place col)

-- a number of ms, if there is one
abbrev pub ms_or_never : Option ℕ → List ℕ
ms_or_never None = codes "never"
ms_or_never (Some ms) = decimal ms

-- the stored columns, each with its value
abbrev pub cells_text : Summed → List (Col × ℕ) → List ℕ
cells_text sums cols = flat_map (λ col. cell_text col (value_in sums col.0)) cols

-- what a line says of a key
abbrev pub sums_text : Summed → List (Col × ℕ) → List ℕ
sums_text sums cols =
    codes " peers=" ++ decimal sums.peers ++ codes " exp=" ++ ms_or_never sums.left
    ++ cells_text sums cols ++ codes "\n"

-- the line of a key's summed row
abbrev pub row_text : Shape → List ℕ → Summed → List ℕ
row_text shape key sums = codes "key=" ++ key_text shape.kind key ++ sums_text sums shape.cols
