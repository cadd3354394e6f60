use Rattle.std.proofs.Common.{length, arith}
use Rattle.std.proofs.lemmas.List.{take_all}
use Rattle.peers_msg.proofs.Spellings.{appended_none, appended_more, appended_all}
use Rattle.peers_msg.proofs.integer.append_tail.Goals as goal

pub loop-value-init : goal.loop-value-init
loop-value-init c =
    appended_none c.args.out.now.items c.args.value
    (take_all (length c.args.out.now.items) c.args.out.now.items (omega arith))

pub loop-value-preserved : goal.loop-value-preserved
loop-value-preserved c =
    rw c.in_ok-push.ensures.items (appended_more c.args.out.now.items c.args.value
    c.loop-value.out.items c.loop-value.value c.loop-value.invariant (omega arith))

pub returns-clause-ok : goal.returns-clause-ok
returns-clause-ok c =
    rw c.in_ok-push-2.ensures.items (appended_all c.args.out.now.items c.args.value
    c.loop-value.out.items c.loop-value.value c.loop-value.invariant (omega arith))
