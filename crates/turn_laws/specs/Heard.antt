-- What a receiver makes of messages: each update is one of the table in force.
use Rattle.std.specs.Prelude.{ℕ, zero, suc, ◌+◌, List, [], ◌∷◌, ◌++◌, map}
use Rattle.std.specs.Prelude.{if◌then◌else◌, Option, None, Some, slice_get}
use Rattle.std.specs.Option.{option_map}
use Rattle.peers_msg.specs.declared.message.Definition.{Definition}
use Rattle.peers_msg.specs.declared.message.Message.{Message}
use Rattle.peers_msg.specs.declared.message.Message.TheVariants as messages
use Rattle.pushed_keys.specs.declared.pushed.Pushed.{Pushed}
use Rattle.telling.specs.Telling.{Told, definition_of}

-- the table in force behind a message
abbrev pub force_after : Option Definition → Message → Option Definition
force_after force (messages.Define definition) = Some definition
force_after force (messages.Switch id) = None
force_after force message = force

-- the table in force behind messages
abbrev pub force_behind : Option Definition → List Message → Option Definition
force_behind force [] = force
force_behind force (message ∷ others) = force_behind (force_after force message) others

-- an update, with the table in force
abbrev pub heard_of : Option Definition → Message → List (Option Definition × Message)
heard_of force (messages.Update id life rest) = (force, messages.Update id life rest) ∷ []
heard_of force message = []

-- each update among messages, with the table in force
abbrev pub heard : Option Definition → List Message → List (Option Definition × Message)
heard force [] = []
heard force (message ∷ others) =
    heard_of force message ++ heard (force_after force message) others

-- the definition of the table with an id, from 1
abbrev pub definition_with : List Pushed → ℕ → Option Definition
definition_with pushed zero = None
definition_with pushed (suc place) = option_map (definition_of (place + 1)) (slice_get pushed place)

-- the table in force before a turn: the one defined last, none before the first turn
abbrev pub in_force : List Pushed → Told → Option Definition
in_force pushed told = if told.begun then definition_with pushed told.defined else None

-- the updates of a table, each under the table's own definition
abbrev pub under_own : ℕ → Pushed → List Message → List (Option Definition × Message)
under_own id table updates = map (λ update. (Some (definition_of id table), update)) updates

-- one table after the other, from the one at a place on, whose updates are said by place
abbrev pub all_under_own : (ℕ → List Message) → ℕ → List Pushed
    → List (Option Definition × Message)
all_under_own said place [] = []
all_under_own said place (table ∷ others) =
    under_own (place + 1) table (said place) ++ all_under_own said (place + 1) others
