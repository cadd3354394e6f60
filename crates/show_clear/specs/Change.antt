-- What commands change.
use Rattle.std.specs.Prelude.{◌≡◌, true, Option, Some, None, IfSome}
use Rattle.agg_types.specs.Fits.{fits}
use Rattle.fleet_model.specs.State.{State}
use Rattle.agg_types.specs.declared.event.What.{What}
use Rattle.agg_types.specs.declared.event.What.TheVariants.{Clear as Clears, AddFilter as Adds}
use Rattle.agg_types.specs.declared.event.What.TheVariants.{DropFilter as Drops}
use Rattle.show_clear.specs.declared.command.Change.{Change}
use Rattle.show_clear.specs.declared.command.Change.TheVariants.{Clear, AddFilter, DropFilter}
use Rattle.show_clear.specs.declared.command.Command.{Command}
use Rattle.show_clear.specs.declared.command.Command.TheVariants.{Ask, Change as Changes}

-- the change that a command asks for
abbrev pub change_of : Command → Option Change
change_of (Ask question) = None
change_of (Changes change) = Some change

-- the event that carries a change out
abbrev pub event_of : Change → What
event_of (Clear table sel) = Clears table sel
event_of (AddFilter filter) = Adds filter
event_of (DropFilter name) = Drops name

-- the event that a command asks for
abbrev pub asked_event : Command → Option What
asked_event (Ask question) = None
asked_event (Changes change) = Some (event_of change)

-- a command's change, if it asks for one, fits the configuration
abbrev pub ChangeFits : State → Command → Type 0
ChangeFits state command =
    IfSome (change_of command) (λ change. fits state.config (event_of change) ≡ true)
