use Rattle.std.proofs.Common.{take}
use Rattle.set_changes.specs.Noting.{Takes}
use Rattle.set_changes.proofs.changes.Changes.note_each.Given as goal

abbrev pub invariant-loop-flip : goal.invariant-loop-flip
invariant-loop-flip l = Takes (take l.flip-index l.flips) l.fn.self l.self
