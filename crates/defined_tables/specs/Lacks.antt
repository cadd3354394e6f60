-- What a definition doesn't bring of a table's columns.
use Rattle.std.specs.Prelude.{ℕ, List, option_to_list}
use Rattle.std.specs.List.{flat_map}
use Rattle.std.specs.Option.{option_map}
use Rattle.agg_types.specs.declared.column.Col.{Col}
use Rattle.defined_tables.specs.declared.columns.Lacking.{Lacking}
use Rattle.peers_msg.specs.declared.message.Definition.{Definition}
use Rattle.update_values.specs.Lack.{lack_of}

-- what it lacks of one, if it does
abbrev pub lacking : Definition → Col × ℕ → List Lacking
lacking definition col =
    option_to_list (option_map (λ lack. record { col = col.0; lack = lack })
    (lack_of definition col))

-- what it lacks of all, in their order
abbrev pub lacks_in : Definition → List (Col × ℕ) → List Lacking
lacks_in definition cols = flat_map (lacking definition) cols
