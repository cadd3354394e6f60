-- The messages of a turn, table by table as the turn says them.
use Rattle.std.proofs.Common.{ℕ, List, [], ◌∷◌, ◌++◌, Option}
use Rattle.peers_msg.specs.declared.message.Definition.{Definition}
use Rattle.peers_msg.specs.declared.message.Message.{Message}
use Rattle.pushed_keys.specs.declared.pushed.Pushed.{Pushed}
use Rattle.telling.specs.Telling.{Told, TableTurn, defined_before, first_definitions, turns}
use Rattle.turn_laws.specs.Heard.{under_own}
use Rattle.turn_laws.specs.Written.{last_behind, section}

abbrev pub turn_section : ℕ → TableTurn → List Message → List Message
turn_section last t us = section last t.id t.pushed us

abbrev pub turn_behind : ℕ → TableTurn → List Message → ℕ
turn_behind last t us = last_behind last t.id us

abbrev pub turn_sections : ℕ → List TableTurn → List Message
turn_sections last [] = []
turn_sections last (t ∷ ts) =
    turn_section last t t.updates ++ turn_sections (turn_behind last t t.updates) ts

abbrev pub turn_messages_of : List Pushed → List (List (List ℕ)) → ℕ → Told → List Message
turn_messages_of pushed sets now told =
    first_definitions pushed told
    ++ turn_sections (defined_before pushed told) (turns pushed sets now told)

abbrev pub turn_under_own : TableTurn → List (Option Definition × Message)
turn_under_own t = under_own t.id t.pushed t.updates
