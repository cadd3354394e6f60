-- Which seat speaks for a peer.
use Rattle.std.specs.Prelude.{ℕ, Bool, false, ◌==◌, List, [], ◌∷◌, length, Option, None, Some}
use Rattle.std.specs.Bool.{then_some}
use Rattle.std.specs.List.{range_with_len}
use Rattle.std.specs.Option.{option_or}
use Rattle.agg_types.specs.declared.config.Config.{Config}
use Rattle.agg_types.specs.declared.event.Event.{Event}
use Rattle.agg_types.specs.declared.event.What.{What}
use Rattle.agg_types.specs.declared.event.What.TheVariants.{Sit, Open, Put, Clear, AddFilter}
use Rattle.agg_types.specs.declared.event.What.TheVariants.{DropFilter, Moment, Leave}
use Rattle.fleet_model.specs.Seats.{sits, known}

abbrev pub opens : ℕ → What → Bool
opens peer Sit = false
opens peer (Open opened) = opened == peer
opens peer (Put from table key life cells) = false
opens peer (Clear table sel) = false
opens peer (AddFilter filter) = false
opens peer (DropFilter name) = false
opens peer (Moment moment) = false
opens peer Leave = false

-- the seat that last opened the peer
abbrev pub last_opener : ℕ → List Event → Option ℕ
last_opener peer [] = None
last_opener peer (e ∷ later) =
    option_or (last_opener peer later) (then_some (opens peer e.what) e.seat)

abbrev pub if_it : (ℕ → Bool) → Option ℕ → Option ℕ
if_it test None = None
if_it test (Some seat) = then_some (test seat) seat

-- the session in force of a peer: the seat that last opened it, if that seat still sits
unfoldable pub session : List Event → ℕ → Option ℕ
session counted peer = if_it (sits counted) (last_opener peer counted)

-- the sessions in force, by peer
unfoldable pub sessions_in : Config → List Event → List (ℕ × ℕ)
sessions_in config counted = known (session counted) (range_with_len 0 (length config.peers))
