use Rattle.std.proofs.Common.{◌≡◌, ◌++◌, drop, take}
use Rattle.logged_keys.specs.Values.{values_behind, values_of}
use Rattle.logged_keys.proofs.noting.values_of.Given as goal

-- the values so far and those of what is left are all
abbrev pub invariant-loop-place : goal.invariant-loop-place
invariant-loop-place l =
    l.values.items ++ values_behind l.sums (take l.place l.conds) (drop l.place l.conds)
    ≡ values_of l.sums l.conds
