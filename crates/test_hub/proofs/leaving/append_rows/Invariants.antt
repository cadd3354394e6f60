use Rattle.std.proofs.Common.{◌≡◌}
use Rattle.test_hub.proofs.leaving.append_rows.Given as goal

-- the pass stays one of this hub
abbrev pub invariant-loop-turn : goal.invariant-loop-turn
invariant-loop-turn g l = l.pass.seen.of ≡ l.hub.of
