-- What a piece gives to others.
use Rattle.std.specs.Prelude.{ℕ, List}
use Rattle.agg_types.specs.declared.event.What.{What}

-- facts for the fleet, replies, and the acknowledgements behind them
pub record Batched : Type 0 where
  pub facts : List What
  pub replies : List ℕ
  pub acks : List ℕ
