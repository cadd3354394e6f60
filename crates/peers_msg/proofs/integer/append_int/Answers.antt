use Rattle.std.proofs.Common.{arith}
use Rattle.std.proofs.lemmas.Result.{on_ok_weaker}
use Rattle.peers_msg.proofs.Spellings.{long_spelling}
use Rattle.peers_msg.proofs.integer.append_int.Goals as goal

pub returns-clause-ok : goal.returns-clause-ok
returns-clause-ok c =
    on_ok_weaker c.append_tail.result
    (λ h. long_spelling c.args.out.now.items c.push-2.new.self.items c.append_tail.new.out.items
    c.args.value (omega arith) c.in_ok-push-2.ensures.items h) c.append_tail.ensures.ok
