-- The best of the keys that came so far, in whatever order.
use Rattle.std.specs.Prelude.{ℕ, List, take}
use Rattle.fleet_model.specs.Ranking.{put_in_order, rank_cmp}

-- the keys that are kept, each with its value, by rank, and how many there may be
pub record BestKeys : Type 0 where
  pub keys : List (List ℕ × ℕ)
  pub room : ℕ

-- a key comes with its value
abbrev pub with_offered : List ℕ × ℕ → BestKeys → BestKeys
with_offered e best =
    record { keys = take best.room (put_in_order rank_cmp e best.keys); room = best.room }
