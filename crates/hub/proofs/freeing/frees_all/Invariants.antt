use Rattle.std.proofs.Common.{ℕ, ◌<◌, get_or}
use Rattle.agg_types.specs.declared.event.What.{What}
use Rattle.hub.specs.Freeing.{IsFreeing}
use Rattle.hub.proofs.freeing.frees_all.Given as goal

-- each of the first ones frees memory
abbrev pub invariant-loop-place : goal.invariant-loop-place
invariant-loop-place l =
    (k : ℕ) (d : What) → k < l.place → IsFreeing (get_or l.whats k d)
