-- Which table an update is under, and its id, as the messages before it say. Lists of messages are
-- newest first here: what stands last counts.
use Rattle.std.specs.Prelude.{ℕ, zero, suc, ◌+◌, ◌%◌, ◌^◌, ◌++◌, option_to_list, Bool, false}
use Rattle.std.specs.Prelude.{nat_lt, ◌==◌, ◌&&◌, ◌||◌, is_some, if◌then◌else◌, List, [], ◌∷◌}
use Rattle.std.specs.Prelude.{Option, Some, None}
use Rattle.std.specs.Option.{option_map_or}
use Rattle.peers_msg.specs.declared.message.Definition.{Definition}
use Rattle.peers_msg.specs.declared.message.Message.{Message}
use Rattle.peers_msg.specs.declared.message.Message.TheVariants as messages
use Rattle.peers_msg.specs.Payload.{◌>>=◌}
use Rattle.agg_types.specs.declared.config.Shape.{Shape}
use Rattle.session_core.specs.declared.track.Followed.{Followed}
use Rattle.session_core.specs.Tracked.{followed_of, id_after}

abbrev pub or_else : {A : Type 0} → Option A → Option A → Option A
or_else (Some x) other = Some x
or_else None other = other

-- the id that a message puts in force
abbrev pub put_in_force : Message → Option ℕ
put_in_force (messages.Define definition) = Some definition.id
put_in_force (messages.Switch id) = Some id
put_in_force messages.Request = None
put_in_force messages.Finished = None
put_in_force messages.Partial = None
put_in_force messages.Confirm = None
put_in_force messages.Heartbeat = None
put_in_force messages.ProtocolError = None
put_in_force messages.SizeError = None
put_in_force (messages.Update id life rest) = None
put_in_force (messages.Acked id last) = None
put_in_force (messages.Other class kind) = None

-- the sender's id in force: that of the last definition or switch
abbrev pub id_in_force : List Message → Option ℕ
id_in_force [] = None
id_in_force (message ∷ past) = or_else (put_in_force message) (id_in_force past)

-- the definition of this id that a message is
abbrev pub defined_by : ℕ → Message → Option Definition
defined_by id (messages.Define definition) = if definition.id == id then Some definition else None
defined_by id (messages.Switch other) = None
defined_by id messages.Request = None
defined_by id messages.Finished = None
defined_by id messages.Partial = None
defined_by id messages.Confirm = None
defined_by id messages.Heartbeat = None
defined_by id messages.ProtocolError = None
defined_by id messages.SizeError = None
defined_by id (messages.Update explicit life rest) = None
defined_by id (messages.Acked other last) = None
defined_by id (messages.Other class kind) = None

-- an id's definition: the last one of it
abbrev pub definition_of_id : ℕ → List Message → Option Definition
definition_of_id id [] = None
definition_of_id id (message ∷ past) = or_else (defined_by id message) (definition_of_id id past)

-- what an id's definition says, if it is followed
abbrev pub followed_under : List Shape → ℕ → List Message → Option Followed
followed_under tables id past = definition_of_id id past >>= followed_of tables

-- the table that an update is under
abbrev pub table_in_force : List Shape → List Message → Option Followed
table_in_force tables past = id_in_force past >>= λ id. followed_under tables id past

-- whether an update after these messages is a followed one of this id
abbrev pub is_under : List Shape → ℕ → List Message → Bool
is_under tables id past =
    option_map_or (λ other. other == id) (id_in_force past) false && is_some
    (followed_under tables id past)

-- the explicit id of an update, None where it has none; None of all for what is no update
abbrev pub update_of_message : Message → Option (Option ℕ)
update_of_message (messages.Update id life rest) = Some id
update_of_message (messages.Define definition) = None
update_of_message (messages.Switch id) = None
update_of_message messages.Request = None
update_of_message messages.Finished = None
update_of_message messages.Partial = None
update_of_message messages.Confirm = None
update_of_message messages.Heartbeat = None
update_of_message messages.ProtocolError = None
update_of_message messages.SizeError = None
update_of_message (messages.Acked id last) = None
update_of_message (messages.Other class kind) = None

abbrev pub id_given : Bool → Option (Option ℕ) → ℕ → ℕ
id_given under None last = last
id_given under (Some explicit) last = if under then id_after last explicit else last

-- the last update id of a sender's table id: each followed update of it gives one; 0 at first
abbrev pub last_id : List Shape → ℕ → List Message → ℕ
last_id tables id [] = 0
last_id tables id (message ∷ past) =
    id_given (is_under tables id past) (update_of_message message) (last_id tables id past)

-- whether there is a followed update of this id among the newest messages, so many of them
abbrev pub is_updated : List Shape → ℕ → ℕ → List Message → Bool
is_updated tables id zero past = false
is_updated tables id (suc newest) [] = false
is_updated tables id (suc newest) (message ∷ past) =
    (is_some (update_of_message message) && is_under tables id past) || is_updated tables id newest
    past

-- an id among ascending ones
abbrev pub with_id : ℕ → List ℕ → List ℕ
with_id id [] = id ∷ []
with_id id (other ∷ ids) =
    if nat_lt other id then other ∷ with_id id ids else if other == id then other ∷ ids
    else id ∷ other ∷ ids

abbrev pub with_followed : List Shape → Message → List ℕ → List ℕ
with_followed tables (messages.Define definition) ids =
    if is_some (followed_of tables definition) then with_id definition.id ids else ids
with_followed tables (messages.Switch id) ids = ids
with_followed tables messages.Request ids = ids
with_followed tables messages.Finished ids = ids
with_followed tables messages.Partial ids = ids
with_followed tables messages.Confirm ids = ids
with_followed tables messages.Heartbeat ids = ids
with_followed tables messages.ProtocolError ids = ids
with_followed tables messages.SizeError ids = ids
with_followed tables (messages.Update id life rest) ids = ids
with_followed tables (messages.Acked id last) ids = ids
with_followed tables (messages.Other class kind) ids = ids

-- the ids that had a followed definition, ascending
abbrev pub followed_ids : List Shape → List Message → List ℕ
followed_ids tables [] = []
followed_ids tables (message ∷ past) = with_followed tables message (followed_ids tables past)

-- ---- the same update id, counted

-- the ids of the followed updates of a sender's table id, as they were sent, newest first
abbrev pub followed_updates : List Shape → ℕ → List Message → List (Option ℕ)
followed_updates tables id [] = []
followed_updates tables id (message ∷ past) =
    if is_under tables id past
    then option_to_list (update_of_message message) ++ followed_updates tables id past
    else followed_updates tables id past

-- the last explicit id, 0 if there is none
abbrev pub last_explicit : List (Option ℕ) → ℕ
last_explicit [] = 0
last_explicit (Some explicit ∷ older) = explicit
last_explicit (None ∷ older) = last_explicit older

-- how many incremental updates came since
abbrev pub incremental_since : List (Option ℕ) → ℕ
incremental_since [] = 0
incremental_since (Some explicit ∷ older) = 0
incremental_since (None ∷ older) = suc (incremental_since older)

-- the last update id: the explicit one, or so many after it, modulo 2^32
abbrev pub counted_id : List (Option ℕ) → ℕ
counted_id [] = 0
counted_id (Some explicit ∷ older) = explicit
counted_id (None ∷ older) = (last_explicit older + suc (incremental_since older)) % 2 ^ 32
