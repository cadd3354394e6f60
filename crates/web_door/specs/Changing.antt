-- What a clerk tells of the changes of a filter's set.
use Rattle.std.specs.Prelude.{ℕ, List}
use Rattle.hub.specs.Changing.{SayBehind}
use Rattle.hub.specs.Trailed.{Trailed}
use Rattle.set_changes.specs.declared.change.Change.{Change}
use Rattle.set_moves.specs.Moving.{AreMoved}

-- these keys entered the set of the filter at a place and those left it, behind the first so many
-- events of a trail: they moved by changes that say what came behind these events
pub record MovesBehind (trail : Trailed) (place number : ℕ) (entered left : List (List ℕ))
    : Type 0 where
  pub changes : List Change
  pub behind : SayBehind trail place number changes
  pub moved : AreMoved changes entered left
