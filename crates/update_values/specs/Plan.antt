-- How the values of an update are read along a plan: its numbers one after the other, and from them
-- the cells.
use Rattle.std.specs.Prelude.{◌≡◌, ℕ, zero, suc, ◌+◌, ◌-◌, ◌*◌, Bool, true, false, nat_lt, ◌&&◌}
use Rattle.std.specs.Prelude.{if◌then◌else◌, List, [], ◌∷◌, ◌++◌, drop, map}
use Rattle.std.specs.Prelude.{vec_len, Option, Some, None}
use Rattle.std.specs.Option.{option_map}
use Rattle.peers_msg.specs.Payload.{◌>>=◌, string_at}
use Rattle.peers_msg.specs.declared.data_types.TheConstants.{SERVER_KEY}
use Rattle.agg_types.specs.Col.{is_rate, is_wide}
use Rattle.agg_types.specs.declared.column.Col.{Col}
use Rattle.agg_types.specs.declared.event.Cell.{Cell}
use Rattle.update_values.specs.declared.decode_plan.DecodePlan.{DecodePlan}
use Rattle.update_values.specs.declared.layout.Layout.{Layout}
use Rattle.update_values.specs.declared.layout.Place.{Place}
use Rattle.update_values.specs.declared.plan.Source.{Source}
use Rattle.update_values.specs.declared.plan.Source.TheVariants as sources
use Rattle.update_values.specs.Layout.{cell_place, has_type, types_read, width_of}
use Rattle.update_values.specs.Values.{blank, count_in, numbers_at, rate_in}

-- how many numbers an update has of so many data types from this one on
abbrev pub widths : Layout → ℕ → ℕ → ℕ
widths layout zero kind = 0
widths layout (suc n) kind = width_of layout kind + widths layout n (suc kind)

-- the cell that stands for a column without numbers
abbrev pub no_source : Col → Source
no_source col = sources.Blank (blank col)

-- where the numbers of a column are, if it has any that are read
abbrev pub source_at : Layout → ℕ → Col → Option Place → Source
source_at layout count col None = no_source col
source_at layout count col (Some place) =
    if nat_lt place.kind count
    then (if is_rate col then sources.Rate (widths layout place.kind 0 + 3 * place.element)
    else sources.Count (widths layout place.kind 0 + place.element) (is_wide col))
    else no_source col

-- the same of a configured column, where so many data types are read
abbrev pub source_of : Layout → ℕ → Col × ℕ → Source
source_of layout count col = source_at layout count col.0 (cell_place layout col)

-- before which number the name of a server stands, where so many data types are read
abbrev pub name_before : Layout → ℕ → Option ℕ
name_before layout count =
    if has_type layout.bits SERVER_KEY && nat_lt SERVER_KEY count
    then Some (widths layout SERVER_KEY 0) else None

-- so many numbers, with a name before that one
abbrev pub numbers_along : Option ℕ → ℕ → List ℕ → Option (List ℕ)
numbers_along None n bytes = option_map (λ found. found.0) (numbers_at n bytes)
numbers_along (Some before) n bytes = do
  front ← numbers_at before bytes
  name ← string_at front.1
  others ← numbers_at (n - before) name.1
  Some (front.0 ++ others.0)

-- the cell of a column whose numbers are there
abbrev pub cell_from : List ℕ → Source → Cell
cell_from numbers (sources.Blank cell) = cell
cell_from numbers (sources.Count at wide) = count_in wide (drop at numbers)
cell_from numbers (sources.Rate at) = rate_in (drop at numbers)

-- whether all values are there, and then the cells
abbrev pub AreCells : Bool → List Cell → Option (List Cell) → Type 0
AreCells whole cells None = whole ≡ false
AreCells whole cells (Some those) = (whole ≡ true) × (cells ≡ those)

-- the cells of an update's values, along a plan
abbrev pub planned : DecodePlan → List ℕ → Option (List Cell)
planned plan bytes =
    option_map (λ numbers. map (cell_from numbers) plan.sources.items)
    (numbers_along plan.name (vec_len plan.numbers) bytes)

-- the cells of the update that was read last along a plan
abbrev pub cells_read : Option DecodePlan → List Cell
cells_read None = []
cells_read (Some plan) = plan.cells.items

-- the plan has room for the numbers of these columns' updates, and knows where each column's are
abbrev pub IsPlan : Layout → List (Col × ℕ) → DecodePlan → Type 0
IsPlan layout cols plan =
    (vec_len plan.numbers ≡ widths layout (types_read layout cols) 0)
    × (plan.name ≡ name_before layout (types_read layout cols))
    × (plan.sources.items ≡ map (source_of layout (types_read layout cols)) cols)
