use Rattle.std.proofs.Common.{◌≡◌, take}
use Rattle.agg_types.proofs.declared.Declared.duplicate.Given as goal

abbrev pub invariant-loop-entry : goal.invariant-loop-entry
invariant-loop-entry g l = l.copied ≡ take l.entry-index l.self
