use Rattle.std.proofs.Common.{◌≡◌, ◌++◌, take, drop}
use Rattle.std.specs.Prelude.{map}
use Rattle.fleet_model.specs.Ranking.{put_in_order, rank_cmp}
use Rattle.ranked.specs.Walk.{view_of_candidate}
use Rattle.ranked.proofs.candidates.place_of.Given as goal

abbrev pub invariant-loop-place : goal.invariant-loop-place
invariant-loop-place l =
    put_in_order rank_cmp (view_of_candidate l.key) (map view_of_candidate l.candidates)
    ≡ map view_of_candidate (take l.place l.candidates) ++ put_in_order rank_cmp
    (view_of_candidate l.key) (map view_of_candidate (drop l.place l.candidates))
