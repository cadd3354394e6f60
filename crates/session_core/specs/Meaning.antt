-- What a message means for a session.
use Rattle.std.specs.Prelude.{◌≡◌, List, [], ◌∷◌, ◌++◌, Option, Some, None, Bool, true, false}
use Rattle.agg_types.specs.declared.event.What.{What}
use Rattle.session_core.specs.declared.cause.End.{End as Ending}
use Rattle.session_core.specs.declared.track.Heard.{Heard}
use Rattle.session_core.specs.declared.track.Heard.TheVariants as heard

pub data Meaning : Type 0 where
  -- nothing for the peer or the fleet
  Nothing : Meaning
  -- the end of a resync is to be confirmed
  Confirm : Meaning
  -- a resync is to be answered as partial
  Partial : Meaning
  -- something for the fleet
  Fact : What → Meaning
  -- the session ends here
  End : Ending → Meaning

-- what is heard of a meaning, where its fact, if it is one, is added to those before it
abbrev pub IsHeard : Heard → List What → List What → Meaning → Type 0
IsHeard said old new Nothing = (said ≡ heard.Nothing) × (new ≡ old)
IsHeard said old new Confirm = (said ≡ heard.Confirm) × (new ≡ old)
IsHeard said old new Partial = (said ≡ heard.Partial) × (new ≡ old)
IsHeard said old new (Fact fact) = (said ≡ heard.Nothing) × (new ≡ old ++ fact ∷ [])
IsHeard said old new (End cause) = (said ≡ heard.End cause) × (new ≡ old)

-- whether there was a fact, which is added to those before it
abbrev pub AddsFact : Bool → List What → List What → Option What → Type 0
AddsFact told old new None = (told ≡ false) × (new ≡ old)
AddsFact told old new (Some fact) = (told ≡ true) × (new ≡ old ++ fact ∷ [])
