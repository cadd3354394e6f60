use Rattle.std.proofs.Common.{◌≡◌, ◌++◌, drop}
use Rattle.logged_keys.specs.Telling.{logged_places}
use Rattle.logged_keys.proofs.keys.LoggedKeys.new.Given as goal

-- what was found and what is left to find are all
abbrev pub invariant-loop-logged : goal.invariant-loop-logged
invariant-loop-logged l =
    l.filters.items ++ logged_places l.config.filters (drop l.logged-index l.config.logs)
    ≡ logged_places l.config.filters l.config.logs
