use Rattle.std.proofs.Common.{◌≡◌}
use Rattle.test_program.proofs.keys.Rounds.run.Given as goal

-- the pass and the lens stay those of this hub
abbrev pub invariant-loop-rows : goal.invariant-loop-rows
invariant-loop-rows g l =
    (l.pass.seen.of ≡ l.self.hub.now.of) × (l.lens.seen.of ≡ l.self.hub.now.of)
