use Rattle.std.proofs.Common.{arith}
use Rattle.update_values.proofs.AlongLemmas.{one_byte_front, two_byte_front, three_byte_front}
use Rattle.update_values.proofs.straight.short_count_at.Goals as goal

pub returns-in-len1-up-clause-exact : goal.returns-in-len1-up-clause-exact
returns-in-len1-up-clause-exact c = λ wide.
    one_byte_front wide c.args.bytes.now c.from.result (omega arith) (omega arith) (omega arith)

pub returns-in-len2-up-clause-exact : goal.returns-in-len2-up-clause-exact
returns-in-len2-up-clause-exact c = λ wide.
    two_byte_front wide c.args.bytes.now c.from-in-len2-up.result c.from-in-len2-up-2.result
    (omega arith) (omega arith) (omega arith) (omega arith) (omega arith) (omega arith)

pub returns-in-len3-up-clause-exact : goal.returns-in-len3-up-clause-exact
returns-in-len3-up-clause-exact c = λ wide.
    three_byte_front wide c.args.bytes.now c.from-in-len3-up.result c.from-in-len3-up-2.result
    c.from-in-len3-up-3.result (omega arith) (omega arith) (omega arith) (omega arith)
    (omega arith) (omega arith) (omega arith) (omega arith) (omega arith)
