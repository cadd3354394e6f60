-- What connections are told of the pushed tables. Lists of steps begin with the newest.
use Rattle.std.specs.Prelude.{ℕ, Bool, ◌==◌, ◌&&◌, is_some, if◌then◌else◌, List, [], ◌∷◌, length}
use Rattle.std.specs.Prelude.{drop, map}
use Rattle.agg_types.specs.declared.config.Config.{Config}
use Rattle.fleet_model.specs.Named.{keys_named}
use Rattle.fleet_model.specs.State.{State, state_of}
use Rattle.session_core.specs.Asking.{asks_all}
use Rattle.session_core.specs.Piece.{setup_of}
use Rattle.session_core.specs.Silence.{peer_of}
use Rattle.session_core.specs.Talk.{Talk, stage_of}
use Rattle.pushed_keys.specs.Pushes.{pushed_of}
use Rattle.pushed_keys.specs.declared.pushed.Pushed.{Pushed}
use Rattle.telling.specs.Telling.{Told as WasTold, asked, told_after, turn_text, untold}
use Rattle.fleet_core.specs.declared.step.Step.{Step}
use Rattle.fleet_core.specs.declared.step.Step.TheVariants.{Connect, Bytes, Lost, Clear, AddFilter}
use Rattle.fleet_core.specs.declared.step.Step.TheVariants.{DropFilter, Moment, Told}
use Rattle.fleet_core.specs.Events.{events_of, is_seated, talk_of, talk_with}
use Rattle.fleet_core.specs.Steps.{stream}

-- the sets of the pushed tables
abbrev pub sets_of : State → List Pushed → List (List (List ℕ))
sets_of state pushed = map (λ table. keys_named state table.name) pushed

-- the bytes of a turn over a book's sets at its moment
abbrev pub turn_over : State → WasTold → List ℕ
turn_over state told =
    turn_text (pushed_of state.config) (sets_of state (pushed_of state.config)) state.moment told

-- what was told behind it
abbrev pub told_over : State → WasTold → WasTold
told_over state told =
    told_after (pushed_of state.config) (sets_of state (pushed_of state.config)) state.moment told

-- the book after these steps
abbrev pub book_after : Config → ℕ → List Step → State
book_after config opening past = state_of config opening (events_of config opening past)

-- whether a connection's hello was accepted
unfoldable pub is_greeted : Config → ℕ → List Step → ℕ → Bool
is_greeted config opening past conn =
    is_some (peer_of (stage_of (setup_of config) (is_seated conn (events_of config opening past))
    (stream past conn)))

-- the replies that a talk has beyond those before
abbrev pub replies_between : Talk → Talk → List ℕ
replies_between before after = drop (length before.replies) after.replies

-- whether a piece of a connection's stream has a resync request before its end
unfoldable pub is_asked : Config → ℕ → List Step → ℕ → List ℕ → Bool
is_asked config opening past conn piece =
    asks_all (replies_between (talk_of config (events_of config opening past) past conn)
    (talk_with config (events_of config opening past) past conn piece))

-- what a connection was told behind a turn, which it makes if its hello was accepted
abbrev pub told_turn : Config → ℕ → List Step → ℕ → WasTold → WasTold
told_turn config opening past conn told =
    if is_greeted config opening past conn then told_over (book_after config opening past) told
    else told

-- what a connection was told behind one more step
abbrev pub told_then : Config → ℕ → List Step → ℕ → WasTold → Step → WasTold
told_then config opening past conn told Connect = told
told_then config opening past conn told (Bytes of piece) =
    if (of == conn) && is_asked config opening past of piece then asked told else told
told_then config opening past conn told (Lost of) = told
told_then config opening past conn told (Clear table sel) = told
told_then config opening past conn told (AddFilter filter) = told
told_then config opening past conn told (DropFilter name) = told
told_then config opening past conn told (Moment moment) = told
told_then config opening past conn told (Told of) =
    if of == conn then told_turn config opening past conn told else told

-- what a connection was told by these steps
unfoldable pub told_of : Config → ℕ → List Step → ℕ → WasTold
told_of config opening [] conn = untold
told_of config opening (step ∷ past) conn =
    told_then config opening past conn (told_of config opening past conn) step

-- what a turn of a connection writes after these steps
unfoldable pub turn_out : Config → ℕ → List Step → ℕ → List ℕ
turn_out config opening past conn =
    if is_greeted config opening past conn
    then turn_over (book_after config opening past) (told_of config opening past conn) else []
