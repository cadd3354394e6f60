use Rattle.std.proofs.Common.{◌≡◌, ◌++◌, length}
use Rattle.pushed_keys.specs.Moves.{last_words}
use Rattle.pushed_keys.proofs.ordered.last_words.Given as goal

-- what is kept, and what is still to come
abbrev pub invariant-loop-left : goal.invariant-loop-left
invariant-loop-left l = l.kept.items ++ last_words l.left ≡ last_words l.moves

abbrev pub decreases-loop-left : goal.decreases-loop-left
decreases-loop-left l = length l.left
