-- A session: its turns, and the resync requests that it reads between them.
use Rattle.std.specs.Prelude.{ℕ, List, [], ◌∷◌, ◌++◌, Option, None}
use Rattle.peers_msg.specs.declared.message.Message.{Message}
use Rattle.peers_msg.specs.declared.message.Message.TheVariants as messages
use Rattle.pushed_keys.specs.declared.pushed.Pushed.{Pushed}
use Rattle.telling.specs.Telling.{Told, asked, told_after}
use Rattle.turn_laws.specs.Written.{updates_at}

-- a turn over sets at a moment, or a resync request is read
pub data Step : Type 0 where
  Turned : (sets : List (List (List ℕ))) → (now : ℕ) → Step
  Asked : Step

-- what is told behind these steps
abbrev pub told_behind : List Pushed → Told → List Step → Told
told_behind pushed told [] = told
told_behind pushed told (Turned sets now ∷ steps) =
    told_behind pushed (told_after pushed sets now told) steps
told_behind pushed told (Asked ∷ steps) = told_behind pushed (asked told) steps

-- all updates that these steps write of a table, by its place
abbrev pub updates_behind : List Pushed → Told → List Step → ℕ → List Message
updates_behind pushed told [] place = []
updates_behind pushed told (Turned sets now ∷ steps) place =
    updates_at pushed sets now told place
    ++ updates_behind pushed (told_after pushed sets now told) steps place
updates_behind pushed told (Asked ∷ steps) place =
    updates_behind pushed (asked told) steps place

-- the id of an update
abbrev pub id_of : Message → Option ℕ
id_of (messages.Update id life rest) = id
id_of message = None
