use Rattle.std.proofs.Common.{◌∙◌, arith}
use Rattle.expiry_wheel.proofs.Marked.{mark_written, other_marks}
use Rattle.expiry_wheel.proofs.marks.Marks.clear.Goals as goal

pub returns-clause-here : goal.returns-clause-here
returns-clause-here c = mark_written c.args.self.now.words c.args.slot c.without_bit.result
    (omega arith) ∙ c.without_bit.ensures.here

pub returns-clause-others : goal.returns-clause-others
returns-clause-others c = other_marks c.args.self.now.words c.args.slot c.without_bit.result
    (omega arith) (λ bit h apart. c.without_bit.ensures.others bit h apart)
