use Rattle.std.proofs.Common.{take}
use Rattle.standing_filters.specs.Watched.{HaveNone}
use Rattle.standing_filters.proofs.standing.Standing.may_hold.Given as goal

abbrev pub invariant-loop-watch : goal.invariant-loop-watch
invariant-loop-watch l = HaveNone l.key (take l.watch-index l.self.filters)
