use Rattle.telling.proofs.Steps.{more_piece}
use Rattle.telling.proofs.unsaid.Unsaid.write_messages.Goals as goal

pub loop-preserved : goal.loop-preserved
loop-preserved c =
    more_piece c.args.pushed.now c.args.self.now c.loop.self c.write_further.new.self
    c.loop.piece.items c.write_further.new.piece.items c.loop.invariant
    (c.write_further.ensures.goes c.loop-test.true)
