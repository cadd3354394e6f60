-- The rule of the log, and what its steps tell.
use Rattle.std.specs.Prelude.{ℕ, ◌≡◌, ◌==◌, true, List, [], ◌∷◌, ◌++◌, length, MatchBool, None}
use Rattle.logbook.specs.Pages.{Book, Cell, Named, Step, View}
use Rattle.agg_types.specs.declared.config.Config.{Config}
use Rattle.agg_types.specs.declared.event.Event.{Event}
use Rattle.hub.specs.declared.entry.Entry.{Entry}
use Rattle.hub.specs.declared.entry.Entry.TheVariants.{Opened, Happened}
use Rattle.hub.specs.History.{AllCount, Beginning}

-- the events among entries
abbrev pub events_of : List Entry → List Event
events_of [] = []
events_of (Opened config opening ∷ later) = events_of later
events_of (Happened events ∷ later) = events ++ events_of later

abbrev pub no_config : Config
no_config = record {
  me = [];
  peers = [];
  tables = [];
  filters = [];
  ranks = [];
  pushes = [];
  rows = None;
  logs = [];
  ignored = [];
}

abbrev pub config_of : List Entry → Config
config_of [] = no_config
config_of (Opened config opening ∷ later) = config
config_of (Happened events ∷ later) = no_config

abbrev pub opening_of : List Entry → ℕ
opening_of [] = 0
opening_of (Opened config opening ∷ later) = opening
opening_of (Happened events ∷ later) = 0

-- the beginning that entries are
abbrev pub begun : Book → List Entry → Beginning
begun of log = record {
  of = of;
  config = config_of log;
  opening = opening_of log;
  events =
      events_of log;
}

-- entries are an opening and what happened since, and all events of that count
pub record IsHistory (log : List Entry) : Type 0 where
  pub config : Config
  pub opening : ℕ
  pub later : List Entry
  pub formed : log ≡ Opened config opening ∷ later
  pub legal : AllCount config opening (events_of later)

-- the one word is the number of events
pub record IsKept (cells : List Cell) (log : List Entry) : Type 0 where
  pub words : cells ≡ (length (events_of log), true) ∷ []
  pub history : IsHistory log

abbrev pub head_of : Book → Named
head_of b = record { tracked = true; key = 0; book = b }

-- the events were added to all that had been seen; or the history was longer, and was seen
abbrev pub Adds : Step Entry → View Entry ℕ → ℕ → View Entry ℕ → Type 0
Adds s v found w =
    MatchBool (found == s.old)
    ((events_of w.0 ≡ events_of v.0 ++ events_of (s.ask ∷ [])) × IsHistory w.0)
    ((length (events_of w.0) ≡ found) × IsHistory w.0)
