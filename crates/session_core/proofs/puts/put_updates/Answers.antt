use Rattle.std.proofs.Common.{◌≡◌, Some, arith, subst}
use Rattle.std.specs.Prelude.{slice_get}
use Rattle.peers_msg.specs.Lent.{as_message}
use Rattle.peers_msg.specs.declared.entry.LentMessage.{LentMessage}
use Rattle.session_core.proofs.PutLemmas.{put_more}
use Rattle.session_core.proofs.puts.put_updates.Goals as goal

pub loop-at-preserved : goal.loop-at-preserved
loop-at-preserved c =
    let got = subst (λ (m : LentMessage).
    Some (as_message m) ≡ slice_get c.args.given.now.messages c.loop-at.at) c.in-Update.is
    c.in-Some.ensures in
    let told = rw c.if-not-branch.false at c.in_ok-put.ensures.put in
    record {
      goes_on = rw c.id_after-newest.ensures (put_more c.args.peer c.args.followed.now
          c.args.shape.now c.args.from c.args.last c.args.facts.now c.loop-at.facts
          c.put.new.facts c.args.given.now.messages c.loop-at.at c.loop-at.newest
          c.in-Update.id c.in-Update.life c.in-Update.rest.now
          c.loop-at.invariant.forward c.loop-at.invariant.first got told
          c.loop-at.invariant.goes_on);
      forward = omega (arith, c.loop-at.invariant.forward);
      first = λ e. absurd (omega (arith, e, c.loop-at.invariant.forward));
      planned = c.in_ok-put.ensures.planned;
    }
