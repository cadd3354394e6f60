use Rattle.std.proofs.Common.{◌≡◌, sym, arith}
use Rattle.peers_msg.proofs.Integers.{two_front, three_front}
use Rattle.peers_msg.proofs.integer.get_more.Goals as goal

pub returns-in-len1-up-clause-exact : goal.returns-in-len1-up-clause-exact
returns-in-len1-up-clause-exact c =
    let first : c.from.result ≡ c.args.first = omega arith in
    rw first (sym (two_front c.args.first c.from-in-len1-up.result c.args.rest.now c.requires
    (omega arith) (omega arith) (omega arith) (omega arith)))

pub returns-in-len2-up-clause-exact : goal.returns-in-len2-up-clause-exact
returns-in-len2-up-clause-exact c =
    let first : c.from-in-len2-up.result ≡ c.args.first = omega arith in
    rw first (sym (three_front c.args.first c.from-in-len2-up-2.result
    c.from-in-len2-up-3.result c.args.rest.now c.requires (omega arith) (omega arith)
    (omega arith) (omega arith) (omega arith) (omega arith) (omega arith)))
