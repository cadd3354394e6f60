-- What a session keeps of the pushed tables, and what it knows of their sets.
use Rattle.std.specs.Prelude.{◌≡◌, ◌++◌, ℕ, List, Option, None, Some, MatchOption, length}
use Rattle.std.specs.Prelude.{slice_get}
use Rattle.agg_types.specs.declared.event.Event.{Event}
use Rattle.fleet_model.specs.State.{state_of}
use Rattle.pushed_keys.specs.Moves.{set_of}
use Rattle.pushed_keys.specs.declared.pushed.Pushed.{Pushed}
use Rattle.telling.specs.Telling.{AreOrdered, table_at}
use Rattle.telling.specs.Told.{Told}
use Rattle.telling.specs.Unsaid.{Unsaid}
use Rattle.hub.specs.History.{Beginning}
use Rattle.hub.specs.Views.{Seeing}
use Rattle.peer_worker.specs.Turns.{set_named}

-- the pushed tables, what was told of them, the lens by which the session looks, and what is still
-- to be written of what was told last
pub record Pushing : Type 0 where
  pub pushed : List Pushed
  pub teller : Told
  pub lens : Option Seeing
  pub unsaid : Unsaid

-- The marks of each table are in order, and say the set that it had behind so many first events of
-- a list.
pub record KnowsAt (pushed : List Pushed) (told : Told) (number : ℕ) (seen : Beginning)
    : Type 0 where
  pub early : List Event
  pub late : List Event
  pub split : seen.events ≡ early ++ late
  pub count : length early ≡ number
  pub ordered : AreOrdered pushed told
  pub sets : (place : ℕ) (table : Pushed) → slice_get pushed place ≡ Some table
      → set_of (table_at told place).marks
      ≡ set_named (state_of seen.config seen.opening early) table

-- the same, where a turn was made; before, that they are in order
abbrev pub Knows : List Pushed → Told → Option ℕ → Beginning → Type 0
Knows pushed told None seen = AreOrdered pushed told
Knows pushed told (Some number) seen = KnowsAt pushed told number seen

-- and of the list that a lens has seen, if there is one
abbrev pub KnowsBy : List Pushed → Told → Option ℕ → Option Seeing → Type 0
KnowsBy pushed told number lens =
    MatchOption lens (AreOrdered pushed told) (λ lens. Knows pushed told number lens.seen)
