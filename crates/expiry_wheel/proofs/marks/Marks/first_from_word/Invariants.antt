use Rattle.std.proofs.Common.{◌*◌}
use Rattle.expiry_wheel.specs.Marks.{AreUnmarked}
use Rattle.expiry_wheel.proofs.marks.Marks.first_from_word.Given as goal

-- the words so far have no mark
abbrev pub invariant-loop-word : goal.invariant-loop-word
invariant-loop-word l = AreUnmarked l.self.words (64 * l.from) (64 * l.word)
