use Rattle.peer_rows.proofs.InTime.{put_planned}
use Rattle.peer_rows.proofs.index.Index.put.Goals as goal

pub invariant_of-self : goal.invariant_of-self
invariant_of-self c =
    put_planned c.self.inside.keys.places c.args.at c.value_mut-rows.result.now
    c.put-old.new.self c.args.peer c.args.row c.put-old.result c.self.inside.ends
    c.self.invariant c.value_mut-rows.ensures.value c.put-old.ensures.ok c.put-old.ensures.err
    (rw (← c.at.ensures, ← c.end.ensures) (c.ends_by-in_time.ensures c.if-in_time.true))
