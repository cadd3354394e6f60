use Rattle.std.proofs.Common.{◌∙◌}
use Rattle.line_words.proofs.Splitting.{words_behind}
use Rattle.line_words.proofs.parts.without_spaces.Goals as goal

pub loop-i-preserved : goal.loop-i-preserved
loop-i-preserved c = words_behind c.args.line.now c.loop-i.i c.loop-i-test.true c.if-byte-ne32.false
    ∙ c.loop-i.invariant
