-- What is written, where a write may fail.
use Rattle.std.specs.Prelude.{◌≡◌, ℕ, List, ◌++◌, Option}
use Rattle.std.specs.Io.KnownBytes.{Appends}
use Rattle.replay.specs.declared.ending.Ending.{Ending}

-- known bytes grow by a beginning of a text
pub record AppendsFront (before after : Option (List ℕ)) (text : List ℕ) : Type 0 where
  pub front : List ℕ
  pub behind : List ℕ
  pub whole : text ≡ front ++ behind
  pub appends : Appends before after front

-- a text that this may print was written whole, and the replay ends as it says
pub record Wrote (Says : List ℕ → Ending → Type 0) (before after : Option (List ℕ))
    (ending : Ending) : Type 0 where
  pub text : List ℕ
  pub appends : Appends before after text
  pub says : Says text ending

-- a beginning of a text that this may print was written
pub record WroteFront (Says : List ℕ → Ending → Type 0) (before after : Option (List ℕ)) :
    Type 0 where
  pub text : List ℕ
  pub ending : Ending
  pub appends : AppendsFront before after text
  pub says : Says text ending
