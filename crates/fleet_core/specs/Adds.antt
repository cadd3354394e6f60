-- What a step leaves that is done, or for which an allocation fails.
use Rattle.std.specs.Prelude.{◌≡◌, ℕ, List, ◌∷◌, Option}
use Rattle.agg_types.specs.declared.config.Config.{Config}
use Rattle.session_core.specs.declared.cause.SessionCause.{SessionCause}
use Rattle.fleet_core.specs.declared.step.Step.{Step}
use Rattle.fleet_core.specs.declared.step.Step.TheVariants.{Bytes, Told}
use Rattle.fleet_core.specs.Events.{added_by}
use Rattle.fleet_core.specs.Possible.{end_by, sent_by}
use Rattle.fleet_core.specs.Represents.{Collected, Represents}
use Rattle.fleet_core.specs.Telling.{turn_out}
use Rattle.fleet_core.specs.Waiting.{AreHandedOver, IsEndOf}

-- the fleet stands for the steps with this one, whose events alone wait
pub record Adds (new : Collected) (config : Config) (opening : ℕ) (past : List Step)
    (step : Step) : Type 0 where
  pub stands : Represents new config opening (step ∷ past)
  pub own : IsEndOf new.waiting (added_by config opening past step)

-- it stands for the steps before; of what waited the book took some, in order
pub record Keeps (old new : Collected) (config : Config) (opening : ℕ)
    (past : List Step) : Type 0 where
  pub stands : Represents new config opening past
  pub handed : AreHandedOver old.waiting old.book new.waiting new.book

-- a piece of a connection's stream was done, sent these bytes, and ended the stream or didn't
pub record IsFed (bytes : List ℕ) (end : Option SessionCause) (new : Collected) (config : Config)
    (opening : ℕ) (past : List Step) (conn : ℕ) (piece : List ℕ) : Type 0 where
  pub adds : Adds new config opening past (Bytes conn piece)
  pub ended : end_by config opening past (Bytes conn piece) ≡ end
  pub out : bytes ≡ (sent_by config opening past (Bytes conn piece)).out

-- a turn of a connection was made, and writes these bytes
pub record IsTurn (bytes : List ℕ) (new : Collected) (config : Config) (opening : ℕ)
    (past : List Step) (conn : ℕ) : Type 0 where
  pub adds : Adds new config opening past (Told conn)
  pub out : bytes ≡ turn_out config opening past conn
