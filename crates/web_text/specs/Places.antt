-- Places in a configuration: a table's kind of keys, and the peers behind one.
use Rattle.std.specs.Prelude.{ℕ, ◌+◌, ◌-◌, ◌^◌, List, min, Option, None, Some, Result, Ok, Err}
use Rattle.std.specs.Prelude.{slice_get}
use Rattle.std.specs.Option.{option_map_or}
use Rattle.agg_types.specs.Naming.{place_of}
use Rattle.agg_types.specs.declared.config.Config.{Config}
use Rattle.agg_types.specs.declared.config.KeyKind.{KeyKind}
use Rattle.agg_types.specs.declared.config.KeyKind.TheVariants.{Binary}
use Rattle.web_text.specs.declared.peers.AskFault.{AskFault}
use Rattle.web_text.specs.declared.peers.AskFault.TheVariants.{BadKey}

-- the kind of the keys of a table at a place; of no bytes where there is no table
abbrev pub kind_at : Config → ℕ → KeyKind
kind_at config place =
    option_map_or (λ shape. shape.kind) (slice_get config.tables place) (Binary 0)

-- the place behind that of a peer, if there is such a peer
abbrev pub place_behind : Option ℕ → Result ℕ AskFault
place_behind None = Err BadKey
place_behind (Some place) = Ok (min (place + 1) (2 ^ 64 - 1))

-- the place of the first peer behind one, or of the first of all
abbrev pub first_behind : Config → Option (List ℕ) → Result ℕ AskFault
first_behind config None = Ok 0
first_behind config (Some name) = place_behind (place_of (λ peer. peer) config.peers name)
