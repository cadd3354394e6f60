-- The tables that a configuration pushes.
use Rattle.std.specs.Prelude.{ℕ, List, map, min, Option, None, Some, slice_get}
use Rattle.std.specs.Prelude.{is_some}
use Rattle.std.specs.Option.{option_and_then, option_map_or}
use Rattle.agg_types.specs.Naming.{place_of}
use Rattle.agg_types.specs.declared.config.Config.{Config}
use Rattle.agg_types.specs.declared.config.Filter.{Filter}
use Rattle.agg_types.specs.declared.config.KeyKind.{KeyKind}
use Rattle.agg_types.specs.declared.config.KeyKind.TheVariants.{Ip}
use Rattle.agg_types.specs.declared.config.Push.{Push}
use Rattle.agg_types.specs.declared.config.Shape.{Shape}
use Rattle.agg_types.specs.declared.limits.TheConstants.{HOLD_END}
use Rattle.pushed_keys.specs.declared.pushed.Pushed.{Pushed}
use Rattle.pushed_keys.specs.declared.pushed.TheConstants.{UNHELD_LIFE}

-- the life of a key that is put: the hold, which is below its end
abbrev pub life_of : Option ℕ → ℕ
life_of None = UNHELD_LIFE
life_of (Some hold) = min hold HOLD_END

-- the filter with a name
abbrev pub filter_named : Config → List ℕ → Option Filter
filter_named config name =
    option_and_then (slice_get config.filters)
    (place_of (λ filter. filter.name) config.filters name)

-- the table of the filter with a name
abbrev pub table_named : Config → List ℕ → Option Shape
table_named config name =
    option_and_then (λ filter. slice_get config.tables filter.table) (filter_named config name)

-- the kind of the keys that a filter has, by its name; a configuration without faults has it
abbrev pub kind_of : Config → List ℕ → KeyKind
kind_of config name = option_map_or (λ shape. shape.kind) (table_named config name) Ip

abbrev pub pushed_as : Config → Push → Pushed
pushed_as config push =
    record {
      name = push.name;
      kind = kind_of config push.name;
      life = life_of push.hold;
      holds = is_some push.hold;
    }

-- the pushed tables, in the order of their lines
unfoldable pub pushed_of : Config → List Pushed
pushed_of config = map (pushed_as config) config.pushes
