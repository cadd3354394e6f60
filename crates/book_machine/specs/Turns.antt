-- Updates of one peer that come one after the other, and a state that isn't counted up yet.
use Rattle.std.specs.Prelude.{◌≡◌, ℕ, Option, IsTrue, true}
use Rattle.std.specs.BTreeMap.{insert_entry}
use Rattle.std.specs.Ordering.{nat_cmp}
use Rattle.agg_types.specs.Fits.{fits}
use Rattle.agg_types.specs.declared.config.Config.{Config}
use Rattle.agg_types.specs.declared.event.What.{What}
use Rattle.agg_types.specs.declared.event.What.TheVariants.{Sit, Open, Put, Clear, AddFilter}
use Rattle.agg_types.specs.declared.event.What.TheVariants.{DropFilter, Moment, Leave}
use Rattle.agg_types.specs.declared.lent_what.LentWhat.{LentWhat}
use Rattle.agg_types.specs.declared.lent_what.LentWhat.TheVariants as lent
use Rattle.fleet_model.specs.Machine.{event_of, happened, number_of, session_of}
use Rattle.fleet_model.specs.Seats.{is_number}
use Rattle.fleet_model.specs.State.{State}

-- a state at which a seat's next event has this number
abbrev pub counted_to : State → ℕ → ℕ → State
counted_to state seat number =
    record state { seats = insert_entry nat_cmp state.seats seat number }

-- a state with the row of a seat's update, for which the seat isn't counted up
abbrev pub with_update : State → ℕ → What → State
with_update state seat what =
    record state { rows = (happened state (event_of seat 0 what) what).rows }

-- whether an event is an update of a peer
abbrev pub IsPutOf : ℕ → What → Type 0
IsPutOf peer Sit = ⊥
IsPutOf peer (Open other) = ⊥
IsPutOf peer (Put other table key life cells) = other ≡ peer
IsPutOf peer (Clear table sel) = ⊥
IsPutOf peer (AddFilter filter) = ⊥
IsPutOf peer (DropFilter name) = ⊥
IsPutOf peer (Moment moment) = ⊥
IsPutOf peer Leave = ⊥

-- an event that a batch lends as an update of a table
abbrev pub IsLentInto : ℕ → LentWhat → Type 0
IsLentInto into (lent.Put peer table key life cells) = table ≡ into
IsLentInto into (lent.Other what) = ⊥

-- an update of a peer that fits the configuration
pub record IsUpdateOf (config : Config) (peer : ℕ) (what : What) : Type 0 where
  pub put : IsPutOf peer what
  pub fits : fits config what ≡ true

-- this number is due at a seat, and a peer's session in force is this
pub record IsTurn (state : State) (seat number peer : ℕ) (opener : Option ℕ) : Type 0 where
  pub due : IsTrue (is_number (number_of state seat) number)
  pub session : opener ≡ session_of state peer
