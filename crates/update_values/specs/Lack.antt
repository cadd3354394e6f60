-- What a definition doesn't bring of a table's columns, and which of its data types become no cell.
use Rattle.std.specs.Prelude.{ℕ, zero, suc, ◌+◌, ◌^◌, Bool, true, false, nat_lt, ◌==◌, ◌&&◌, not}
use Rattle.std.specs.Prelude.{if◌then◌else◌, List, Option, Some, None}
use Rattle.std.specs.List.{list_any}
use Rattle.std.specs.Option.{option_map_or}
use Rattle.agg_types.specs.declared.column.Col.{Col}
use Rattle.agg_types.specs.declared.config.Shape.{Shape}
use Rattle.peers_msg.specs.declared.message.Definition.{Definition}
use Rattle.update_values.specs.declared.lack.Lack.{Lack}
use Rattle.update_values.specs.declared.lack.Lack.TheVariants.{NotSent, OtherPeriod, NoPeriod}
use Rattle.update_values.specs.declared.lack.Lack.TheVariants.{NotRead}
use Rattle.update_values.specs.declared.layout.Layout.{Layout}
use Rattle.update_values.specs.declared.layout.Place.{Place}
use Rattle.update_values.specs.Layout.{has_period, has_type, layout_of, period_of, place_of}
use Rattle.update_values.specs.Layout.{readable}

-- a period that isn't the column's; 0 is none
abbrev pub period_lack : ℕ → Lack
period_lack period = if period == 0 then NoPeriod else OtherPeriod period

-- what lacks of a column that the definition has at this place
abbrev pub lack_at : Layout → Col × ℕ → Option Place → Option Lack
lack_at layout col None = Some NotSent
lack_at layout col (Some place) =
    if has_period layout place.kind col
    then (if nat_lt place.kind (readable layout) then None else Some NotRead)
    else Some (period_lack (period_of layout place.kind))

-- what lacks of a column; None where its value becomes a cell
abbrev pub lack_of : Definition → Col × ℕ → Option Lack
lack_of d col = lack_at (layout_of d) col (place_of (layout_of d) col.0)

-- whether the definition has one of the columns at a data type
abbrev pub is_place_of_one : Layout → List (Col × ℕ) → ℕ → Bool
is_place_of_one layout cols kind =
    list_any (λ col. option_map_or (λ place. place.kind == kind) (place_of layout col.0) false) cols

-- whether a data type is sent, and no column of the table is at it
abbrev pub is_not_kept : Layout → List (Col × ℕ) → ℕ → Bool
is_not_kept layout cols kind =
    has_type layout.bits kind && not (is_place_of_one layout cols kind)

-- a bit for each of so many data types of which this holds
unfoldable pub bits_where : (ℕ → Bool) → ℕ → ℕ
bits_where holds zero = 0
bits_where holds (suc n) = bits_where holds n + (if holds n then 2 ^ n else 0)
