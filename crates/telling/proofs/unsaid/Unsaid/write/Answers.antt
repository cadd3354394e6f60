use Rattle.telling.proofs.Steps.{same_piece}
use Rattle.telling.proofs.unsaid.Unsaid.write.Goals as goal

pub returns-clause-ok : goal.returns-clause-ok
returns-clause-ok c =
    same_piece c.args.pushed.now c.args.self.now c.write_messages.new.self c.give_back.new.self
    c.write_messages.new.piece.items c.in_ok-write_messages.ensures.ok c.give_back.ensures.same
