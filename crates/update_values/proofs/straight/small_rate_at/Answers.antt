use Rattle.std.proofs.Common.{get_or, refl, arith}
use Rattle.update_values.proofs.AlongLemmas.{small_rate_front}
use Rattle.update_values.proofs.straight.small_rate_at.Goals as goal

pub returns-in-len3-up-clause-exact : goal.returns-in-len3-up-clause-exact
returns-in-len3-up-clause-exact c =
    small_rate_front c.args.bytes.now (get_or c.args.bytes.now 0 0)
    (get_or c.args.bytes.now 1 0) (get_or c.args.bytes.now 2 0) (omega arith) refl refl refl
    c.if-elapsed-lt-FIRST_OF_LONG.true c.if-cur-lt-FIRST_OF_LONG.true
    c.if-prev-lt-FIRST_OF_LONG.true
