-- What readers see.
use Rattle.std.specs.Prelude.{◌≡◌, ◌⊎◌, Bool}
use Rattle.fleet_model.specs.State.{IsStateOf, State}
use Rattle.hub.specs.History.{Beginning}
use Rattle.hub.specs.Posts.{Follows}

-- the list that a lens has seen, and whether it is inside a copy
pub record Seeing : Type 0 where
  pub seen : Beginning
  pub inside : Bool

-- a book answers what recomputing from the whole list gives
abbrev pub IsBookOf : State → Beginning → Type 0
IsBookOf book b = IsStateOf book b.config b.opening b.events

-- of two lists of one history one begins the other, and the longer is what is seen then
pub record Learns (before told later : Beginning) : Type 0 where
  pub kept : Follows before later
  pub learned : Follows told later
  pub longer : (later ≡ before) ⊎ (later ≡ told)
