-- Ranked lists, as they are found.
use Rattle.std.specs.Prelude.{ℕ, List, map, take}
use Rattle.std.specs.Vec.Iter.{into_iter_items}
use Rattle.agg_types.specs.declared.column.Col.{Col}
use Rattle.book_frame.specs.Lent.{key_and_value}
use Rattle.peer_rows.specs.Places.{Keys}
use Rattle.ranked.specs.Best.{BestKeys}
use Rattle.ranked.specs.Walk.{put_all}
use Rattle.book_rows.specs.Shown.{rows_worth}
use Rattle.book_machine.specs.declared.ranking.Found.{Found}
use Rattle.book_machine.specs.declared.ranking.Found.TheVariants.{ByBounds, ByPlace}

-- what a list has left
abbrev pub left_of : Found → List (List ℕ × ℕ)
left_of (ByBounds list) = list.left
left_of (ByPlace keys walked) = map key_and_value (into_iter_items keys)

-- keys, each with what its rows sum up to in a column at t
abbrev pub each_worth : List (Col × ℕ) → Col → ℕ → Keys → List (List ℕ × ℕ)
each_worth cols col t keys = map (λ e. (e.0, rows_worth cols col t e.1)) keys

-- the best once these keys came too
abbrev pub best_after : BestKeys → List (Col × ℕ) → Col → ℕ → Keys → List (List ℕ × ℕ)
best_after best cols col t keys = take best.room (put_all best.keys (each_worth cols col t keys))
