use Rattle.std.proofs.Common.{◌≡◌, ◌++◌, map, drop}
use Rattle.pushed_keys.specs.Pushes.{pushed_as}
use Rattle.pushed_keys.proofs.pushed.pushed_of.Given as goal

-- what is there, and what is still to come
abbrev pub invariant-loop-push : goal.invariant-loop-push
invariant-loop-push l =
    l.pushed.items ++ map (pushed_as l.config) (drop l.push-index l.push-items)
    ≡ map (pushed_as l.config) l.push-items
