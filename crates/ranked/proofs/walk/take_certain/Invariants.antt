use Rattle.std.proofs.Common.{ℕ, List, ◌≡◌, ◌<◌, ◌≤◌, length, map, vec_len}
use Rattle.std.specs.Prelude.{vec_capacity}
use Rattle.ranked.specs.Walk.{AreBounds, AreRanked, WalksOn, found, view_of_candidate}
use Rattle.ranked.proofs.walk.take_certain.Given as goal

abbrev pub invariant-entries : goal.invariant-entries
invariant-entries g l =
    let living : List ℕ → ℕ = λ key. g.V.Values.living l.values l.wanted.table key l.wanted.now in
    let value : List ℕ → ℕ = λ key. g.V.Values.summed l.values l.wanted.table key
    l.wanted.col l.wanted.now in
    record {
      kept : vec_len l.candidates ≤ l.room;
      space : l.room < vec_capacity l.candidates;
      ranked : AreRanked (map view_of_candidate l.candidates.items);
      bounds : AreBounds living value l.ahead;
      walked : WalksOn (map view_of_candidate l.fn.candidates.items) l.fn.ahead l.walked
          (map view_of_candidate l.candidates.items) l.ahead;
      same : found living value l.room (map view_of_candidate l.candidates.items) l.ahead
          ≡ found living value l.room (map view_of_candidate l.fn.candidates.items) l.fn.ahead;
    }

abbrev pub decreases-entries : goal.decreases-entries
decreases-entries g l = length l.ahead
