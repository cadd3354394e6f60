use Rattle.std.proofs.Common.{◌≡◌, ◌++◌, map}
use Rattle.standing_filters.proofs.keys.Keys.into_vec.Given as goal

abbrev pub invariant-loop-key : goal.invariant-loop-key
invariant-loop-key l = map (λ key. key.now) l.found.items ++ l.key-iterator ≡ l.fn.self
