use Rattle.std.proofs.Common.{◌≡◌, ◌++◌, drop}
use Rattle.pushed_keys.specs.Packed.{moments}
use Rattle.pushed_keys.proofs.parts.all_after.Given as goal

-- the moments so far, and those that are left
abbrev pub invariant-loop-put : goal.invariant-loop-put
invariant-loop-put l =
    moments l.base l.afters.items ++ drop l.put-index l.puts ≡ l.puts
